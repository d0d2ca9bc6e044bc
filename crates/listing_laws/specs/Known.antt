-- The readings that are merged: the survivors' groups and the kept ones. Each of their ranks can be compared, and a survivor has no route. Assumes nothing.
use Rattle.std.specs.Prelude.{◌≡◌, refl, ℕ, suc, Bool, true, false, List, [], ◌∷◌, ◌++◌, map, length, eqb, Float}
use Rattle.std.proofs.Common.{sym, ap, ◌∙◌, subst, arith, lit<, ne_eqb}
use Rattle.std.proofs.Math.Option.{some}
use mathlib.Core.List.Memᴰ
use Rattle.lists.specs.Tests.{case}
use Rattle.lists.specs.Lists.{◌∈◌}
use Rattle.lists.specs.Members.{map_from}
use Rattle.real32.specs.Order.{finite_real}
use Rattle.model.specs.Graph.{Graph}
use Rattle.model.specs.Passes.{State}
use Rattle.model.specs.Reads.{Ranked, use_finals, ranked, Group, grouped}
use Rattle.model.specs.Readings.{Below, below, heads, Kept, kept_of, kept_map, kept_group, is_own}
use Rattle.model.specs.Checked.{GoodGraph}
use Rattle.copy_laws.specs.Walks.{Heard}
use Rattle.copy_laws.specs.Sums.{Floats32}
use Rattle.copy_laws.proofs.Shapes.{differences}
use Rattle.copy_laws.specs.States.{Standing}
use Rattle.copy_laws.proofs.Ranks.{sure_finite, ranked_at_lem, ranked_sure}
use Rattle.copy_laws.specs.Listed.{KeptBy}
use Rattle.copy_laws.proofs.Listed.{grouped_own, kept_by_lem}
use Rattle.copy_laws.specs.Bounds.{Few}
use Rattle.copy_laws.proofs.Bounds.{below_bounded}
use Rattle.copy_laws.specs.Costs.{SureReading}
use Rattle.copy_laws.proofs.Costs.{kept_sure, own_sure, fair_margin_lem}
use Rattle.listing_laws.specs.Ordering.{HasRank}

-- the kept map of a state
abbrev pub kept_read_in : Graph → State → (use_final : Bool) → (margin bound : Float) → (cap : ℕ) → List Kept
kept_read_in g st f margin bound cap = kept_map (use_finals g st f) margin bound cap (heads (use_finals g st f) bound (ranked g st f))

-- the groups of kept readings
abbrev pub kept_groups : List Kept → List Group
kept_groups = map kept_group

-- a state between calls, and its kept readings: each takes some kept path, and fewer than 2 ^ 24
pub record Known (g : Graph) (fs : List Heard) (st : State) (f : Bool) (margin bound : Float) (cap : ℕ) : Type 0 where
  pub good : GoodGraph g
  pub floats : Floats32 g
  pub standing : Standing g fs st
  pub has_margin : st.margin ≡ some margin
  pub few : (k : Kept) → k ∈ kept_read_in g st f margin bound cap → Few (length k.key.route)
  pub routed : (k : Kept) → k ∈ kept_read_in g st f margin bound cap → k.key.route ≡ [] → ⊥

-- ---- a ranked token's kept reading, by a way below it

-- its key is the way that it takes
pub kept_key : {finals : Bool} {margin : Float} {cap : ℕ} {rs : List Ranked} {k : Kept} (d : KeptBy finals margin cap rs k) → k.key ≡ d.way
unfolding kept_of
kept_key d = ap (λ (x : Kept). x.key) d.is

-- its rank is finite
pub way_has_rank : (g : Graph) → GoodGraph g → Floats32 g → (fs : List Heard) (st : State) → Standing g fs st → (margin : Float) → st.margin ≡ some margin
    → (f finals : Bool) (cap : ℕ) (r : Ranked) → r ∈ ranked g st f → (w : Below) → w ∈ below margin cap r.token.path → Few (length w.route) → HasRank (kept_group (kept_of finals r w))
unfolding kept_of
way_has_rank g good floats fs st h margin e f finals cap r m w k few =
    let x = kept_group (kept_of finals r w) in
    let a = ranked_at_lem g st f r m in
    let z = fair_margin_lem g fs st h margin e in
    let s : SureReading x =
    kept_sure finals margin z.0 z.1 r w (ranked_sure g good floats fs st h.active f r m)
    (below_bounded margin z.0 z.1 cap r.token.path (differences g fs r.token.path (h.active.sound a.state r.token a.at).forks) w k) in
    finite_real x.rank (sure_finite 127 x.rank (s.rank few))

-- ---- no route, and some route

own_route : (g : Graph) (st : State) (f : Bool) (x : Group) → x ∈ grouped g st f → x.route ≡ []
own_route g st f x m = let (r, n, e) = grouped_own g st f x m in ap (λ (y : Group). y.route) e

-- a survivor has none
pub own_is_own : (g : Graph) (st : State) (f : Bool) (x : Group) → x ∈ grouped g st f → is_own x ≡ true
own_is_own g st f x m = let e = own_route g st f x m in rw e

module _ {g : Graph} {fs : List Heard} {st : State} {f : Bool} {margin bound : Float} {cap : ℕ} (known : Known g fs st f margin bound cap) where
  -- a kept reading has some
  pub kept_not_own : (x : Group) → x ∈ kept_groups (kept_read_in g st f margin bound cap) → is_own x ≡ false
  kept_not_own x m =
      let (k, n, e) = map_from kept_group (kept_read_in g st f margin bound cap) x m in
      ap is_own e ∙ go k.key.route (known.routed k n)
    where
      go : (l : List ℕ) → (l ≡ [] → ⊥) → eqb (length l) 0 ≡ false
      go [] d = absurd (d refl)
      go (n ∷ l) d = ne_eqb (suc (length l)) 0 (λ e. omega arith)

  -- ---- ranks

  -- of a survivor
  pub own_has_rank : (x : Group) → x ∈ grouped g st f → HasRank x
  own_has_rank x m =
      let s = own_sure g known.good known.floats fs st known.standing f x m in
      finite_real x.rank (sure_finite 127 x.rank (s.rank (subst (λ (l : List ℕ). Few (length l)) (sym (own_route g st f x m)) (lit< tt))))

  -- of a kept reading
  pub kept_has_rank : (k : Kept) → k ∈ kept_read_in g st f margin bound cap → HasRank (kept_group k)
  kept_has_rank k m =
      let d = kept_by_lem g st f margin bound cap k m in
      subst (λ (y : Kept). HasRank (kept_group y)) (sym d.is)
      (way_has_rank g known.good known.floats fs st known.standing margin known.has_margin f (use_finals g st f) cap d.head d.among d.way d.below (subst (λ (w : Below). Few (length w.route)) (kept_key d) (known.few k m)))

  -- of both
  pub listed_has_rank : (x : Group) → x ∈ (grouped g st f ++ kept_groups (kept_read_in g st f margin bound cap)) → HasRank x
  listed_has_rank x m =
      case (Memᴰ.append_cases (grouped g st f) m) (own_has_rank x)
      (λ n. let (k, i, e) = map_from kept_group (kept_read_in g st f margin bound cap) x n in subst HasRank (sym e) (kept_has_rank k i))
