-- The candidates, and the first of the sorted list with one more state in front. Assumes nothing.
use Rattle.std.specs.Prelude.{◌≡◌, refl, ℕ, suc, ◌≤◌, ◌<◌, Bool, ◌&&◌, ◌||◌, cond, ltb, length, get_or, Float, Option as RustOption, Some, None}
use Rattle.std.proofs.Common.{sym, ◌∙◌, ap, ap₂, arith, drop-cons}
use Rattle.std.proofs.Math.Path.{subst}
use Rattle.std.proofs.Math.Bool.{true, false}
use Rattle.std.proofs.Math.Option.{Option, none, some}
use mathlib.Core.List.{List, [], ◌∷◌, head?}
use Rattle.std.proofs.Math.ListN.{drop, drop_of_length-le}
use Rattle.std.specs.Float.{nan}
use Rattle.std.specs.Float.Ieee.Scale.{finite}
use Rattle.lists.specs.Lists.{insert_by, sort_by}
use Rattle.model.specs.Basics.{◌⊕◌, 0f, ∞}
use Rattle.model.specs.Graph.{Graph, final_weight}
use Rattle.model.specs.Path.{Token as Model, Table}
use Rattle.model.specs.Reads.{Ranked, rank_one, rank_from, sooner, ranked}
use Rattle.tokens.specs.Layout.{held_at, place_in}
use Rattle.tokens.specs.Held.{some_held, none_held}
use Rattle.records.specs.History.{History}
use Rattle.stores.specs.Shown.{TokenIs, Shown}
use Rattle.stores.specs.Tables.{vacant_at, active_at, stored_is}
use Rattle.tokens.specs.declared.Token.{Token as Stored}
use Rattle.traceback.specs.declared.Candidate.{Candidate}
use Rattle.traceback.specs.Ranks.{weight_in, rank_in, candidate_of, candidate_at, sooner_of, soonest_of, CandidateIs, Picks, BestIs}
use Rattle.traceback.specs.Table.{FinalsCount}
use Rattle.lists.specs.Members.{get_d_any}

-- ---- as the code finds them

module _ (s : ℕ) (t : Stored) (w : Float) (counts : Bool) where
  pub candidate_none : finite (t.cost ⊕ w) ≡ false → None ≡ candidate_of s t w counts
  unfolding candidate_of
  candidate_none e = rw e

  pub candidate_some : (rank : Float) → finite (t.cost ⊕ w) ≡ true → rank ≡ rank_in (t.cost ⊕ w) t.graph w counts
      → Some (record { state = s; link = t.link; seq = t.seq; rank = rank; cost = t.cost ⊕ w }) ≡ candidate_of s t w counts
  unfolding candidate_of
  candidate_some rank e q = rw (e, q)

pub sooner_tie : (a b c : Bool) → a ≡ false → b ≡ true → c ≡ (a || (b && c))
sooner_tie a b c e q = rw (e, q)

module _ (a b : RustOption Candidate) (x : Candidate) (e : a ≡ Some x) where
  pub soonest_alone : b ≡ None → Some x ≡ soonest_of a b
  soonest_alone q = rw (e, q)

  module _ (y : Candidate) (q : b ≡ Some y) where
    pub soonest_second : sooner_of y x ≡ true → Some y ≡ soonest_of a b
    soonest_second f = rw (e, q, f)

    pub soonest_first : sooner_of y x ≡ false → Some x ≡ soonest_of a b
    soonest_first f = rw (e, q, f)

-- ---- the first of a sorted list with one more: it, unless the first stands before it

abbrev first_or : {A : Type 0} → (A → A → Bool) → A → Option A → Option A
first_or before x none = some x
first_or before x (some y) = cond (before y x) (some y) (some x)

first_insert : {A : Type 0} (before : A → A → Bool) (x : A) (ys : List A) → head? (insert_by before x ys) ≡ first_or before x (head? ys)
first_insert before x [] = refl
first_insert {A = A} before x (y ∷ ys) = go (before y x)
  where
    go : (b : Bool) → head? (cond b (y ∷ insert_by before x ys) (x ∷ y ∷ ys)) ≡ cond b (some y) (some x)
    go true = refl
    go false = refl

-- ---- the best of the states from s on

-- the best that the stores name is the first of the ranked tokens from s on
abbrev pub PicksFrom : (ℕ → History) → (used n : ℕ) → Graph → (counts : Bool) → (ts : Table) → (s : ℕ) → RustOption Candidate → Type 0
PicksFrom h used n g counts ts s best = Picks h used n ts best (head? (sort_by sooner (rank_from g counts s (drop s ts))))

module _ (h : ℕ → History) (used n : ℕ) (ts : Table) where
  pub tests_same : (x y : Candidate) (r q : Ranked) → CandidateIs h used n ts x r → CandidateIs h used n ts y q → sooner_of y x ≡ sooner q r
  tests_same x y r q i j = rw (i.rank, j.rank, i.seq, j.seq)

  first_pick : (x : Candidate) (r : Ranked) (best : RustOption Candidate) (o : Option Ranked) → CandidateIs h used n ts x r → Picks h used n ts best o → Picks h used n ts (soonest_of (Some x) best) (first_or sooner r o)
  first_pick x r None none i p = i
  first_pick x r None (some q) i p = absurd p
  first_pick x r (Some y) none i p = absurd p
  first_pick x r (Some y) (some q) i p = rw (tests_same x y r q i p) (go (sooner q r))
    where
      go : (b : Bool) → Picks h used n ts (cond b (Some y) (Some x)) (cond b (some q) (some r))
      go true = p
      go false = i

  module _ (s : ℕ) (inside : s < n) (y : Stored) (t : Model) (at : get_or ts s none ≡ some t) (i : TokenIs h used y t) (w : Float) (counts : Bool) where
    abbrev one : Ranked
    one = rank_one counts w t

    abbrev candidate : Candidate
    candidate = record { state = s; link = y.link; seq = y.seq; rank = rank_in (y.cost ⊕ w) y.graph w counts; cost = y.cost ⊕ w }

    pub candidate_is : CandidateIs h used n ts candidate one
    unfolding rank_one
    candidate_is = record { inside = inside; at = at; link = i.link; seq = i.seq; rank = rw (i.cost, i.graph); cost = rw i.cost }

    pub pick_token : (best : RustOption Candidate) (rest : List Ranked) → Picks h used n ts best (head? (sort_by sooner rest))
        → Picks h used n ts (soonest_of (candidate_of s y w counts) best) (head? (sort_by sooner (cond (finite one.cost) (one ∷ rest) rest)))
    unfolding rank_one candidate_of
    pick_token best rest p =
        subst (λ (b : Bool). Picks h used n ts (soonest_of (candidate_of s y w counts) best) (head? (sort_by sooner (cond b (one ∷ rest) rest)))) (ap (λ (x : Float). finite (x ⊕ w)) i.cost) (go (finite (y.cost ⊕ w)))
      where
        go : (b : Bool) → Picks h used n ts (soonest_of (cond b (Some candidate) None) best) (head? (sort_by sooner (cond b (one ∷ rest) rest)))
        go true = rw (first_insert sooner one (sort_by sooner rest)) (first_pick candidate one best (head? (sort_by sooner rest)) candidate_is p)
        go false = p

-- ---- one state more, as the stores show it

pub weight_is : (g : Graph) (fs : List Float) (s : ℕ) (counts : Bool) → g.finals ≡ fs → s < length fs → weight_in fs s counts ≡ cond counts (final_weight g s) 0f
weight_is g fs s counts q l = ap (λ (x : Float). cond counts x 0f) (get_d_any fs s nan ∞ l ∙ ap (λ (xs : List Float). get_or xs s ∞) (sym q))

module _ {h : ℕ → History} {used : ℕ} {tk : List ℕ} {sm : List Float} {b n : ℕ} {ts : Table} (w : Shown h used tk sm b n ts) (g : Graph) (counts : Bool) (s : ℕ) (l : s < n) (best : RustOption Candidate) where
  -- the states from s on, by what stands at s
  from_here : (o : Option Model) → get_or ts s none ≡ o → rank_from g counts s (drop s ts) ≡ rank_from g counts s (o ∷ drop (suc s) ts)
  from_here o e = ap (rank_from g counts s) (drop-cons ts s none (let z = w.size in omega arith) ∙ ap (λ (x : Option Model). x ∷ drop (suc s) ts) e)

  pub pick_vacant : held_at tk (place_in b s) ≡ 0 → PicksFrom h used n g counts ts (suc s) best → PicksFrom h used n g counts ts s best
  unfolding rank_from
  pick_vacant e p = subst (λ (rs : List Ranked). Picks h used n ts best (head? (sort_by sooner rs))) (sym (from_here none (vacant_at w s l e))) p

  pub pick_active : (fs : List Float) → g.finals ≡ fs → n ≤ length fs → (held_at tk (place_in b s) ≡ 0 → ⊥) → PicksFrom h used n g counts ts (suc s) best
      → PicksFrom h used n g counts ts s (soonest_of (candidate_at tk sm fs b s counts) best)
  unfolding rank_from
  pick_active fs q long d p =
      let a = active_at w s l d in
      let v = weight_is g fs s counts q (omega arith) in
      let r = pick_token h used n ts s l a.stored a.token a.at a.is (cond counts (final_weight g s) 0f) counts best (rank_from g counts (suc s) (drop (suc s) ts)) p in
      subst (λ (rs : List Ranked). Picks h used n ts (soonest_of (candidate_at tk sm fs b s counts) best) (head? (sort_by sooner rs))) (sym (from_here (some a.token) a.at))
      (subst (λ (x : RustOption Candidate). Picks h used n ts (soonest_of x best) (head? (sort_by sooner (rank_from g counts s (some a.token ∷ drop (suc s) ts))))) (sym (ap₂ (λ (t : Stored) (u : Float). candidate_of s t u counts) (stored_is w a) v)) r)

-- ---- the loop

-- the best of the states from s on
pub record Chosen (tk : List ℕ) (sm fs : List Float) (b n : ℕ) (counts : Bool) (s : ℕ) (best : RustOption Candidate) : Type 0 where
  pub upto : s ≤ n
  pub is : (g : Graph) → g.finals ≡ fs → (h : ℕ → History) (used : ℕ) (ts : Table) → Shown h used tk sm b n ts → PicksFrom h used n g counts ts s best

module _ {tk : List ℕ} {sm fs : List Float} {b n : ℕ} {counts : Bool} where
  pub chosen_none : (best : RustOption Candidate) → best ≡ None → Chosen tk sm fs b n counts n best
  unfolding rank_from
  chosen_none best e =
      record { upto = omega arith; is = λ g q h used ts w. rw (e, drop_of_length-le ts {i = n} (let z = w.size in omega arith)) tt }

  pub chosen_vacant : {s k : ℕ} {best : RustOption Candidate} → s ≡ suc k → ltb 0 (held_at tk (place_in b k)) ≡ false → Chosen tk sm fs b n counts s best → Chosen tk sm fs b n counts k best
  chosen_vacant {s} {k} {best} e d p =
      let u = p.upto in
      record { upto = omega arith; is = λ g q h used ts w. pick_vacant w g counts k (omega arith) best (none_held _ d) (rw e at (p.is g q h used ts w)) }

  pub chosen_active : {s k : ℕ} {best new : RustOption Candidate} → s ≡ suc k → n ≤ length fs → ltb 0 (held_at tk (place_in b k)) ≡ true → new ≡ soonest_of (candidate_at tk sm fs b k counts) best → Chosen tk sm fs b n counts s best → Chosen tk sm fs b n counts k new
  chosen_active {s} {k} {best} {new} e long d f p =
      let u = p.upto in
      record { upto = omega arith; is = λ g q h used ts w. rw f (pick_active w g counts k (omega arith) best fs q long (some_held _ d) (rw e at (p.is g q h used ts w))) }

  pub chosen_all : {s : ℕ} {best : RustOption Candidate} (use_final : Bool) → s ≡ 0 → FinalsCount tk fs b n use_final counts → Chosen tk sm fs b n counts s best → BestIs tk sm fs b n use_final best
  unfolding ranked
  chosen_all {s} {best} use_final e c p =
      record { is = λ g q h used st w. rw (← (c.is sm g q h used st w)) (rw e at (p.is g q h used st.table w)) }
