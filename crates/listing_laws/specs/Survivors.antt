-- A survivor against a kept reading: the lower rank comes first, and of equal ranks the survivor. The survivors' groups are sorted. Assumes nothing.
use Rattle.std.specs.Prelude.{◌≡◌, ℕ, Bool, ◌&&◌, ◌||◌, ltb, Float}
use Rattle.std.proofs.Math.Path.{refl, ap}
use Rattle.std.proofs.Common.{sym, ◌∙◌, eqb-true}
use Rattle.std.proofs.Math.Bool.{true, false, not}
use mathlib.Core.List.Memᴰ
use mathlib.Core.List.{List, [], map}
use Rattle.std.proofs.Math.Dec.{eqb}
use Rattle.std.specs.Float.Ieee.{eq}
use Rattle.lists.specs.Tests.{case, either, never, holds, fails, is_true, is_false}
use Rattle.lists.specs.Lists.{◌∈◌}
use Rattle.lists.specs.Order.{Sorted}
use Rattle.lists.specs.Firsts.{firsts_are}
use Rattle.real32.specs.Order.{lt_asym, lt_not_le, not_lt→le, le_antisym, eq→le}
use Rattle.model.specs.Basics.{◌≺◌}
use Rattle.model.specs.Graph.{Graph}
use Rattle.model.specs.Passes.{State}
use Rattle.model.specs.Reads.{Ranked, sooner, ranked, Group, own_group, grouped}
use Rattle.model.specs.Readings.{is_own, words_lt, read_order}
use Rattle.model.specs.Checked.{GoodGraph}
use Rattle.copy_laws.specs.Walks.{Heard}
use Rattle.copy_laws.specs.Sums.{Floats32}
use Rattle.copy_laws.specs.Active.{Active}
use Rattle.copy_laws.proofs.Minima.{not_itself, sublist_sorted}
use Rattle.copy_laws.proofs.Sooner.{has_rank, one_entry, ranked_sorted}
use Rattle.copy_laws.proofs.Distinct.{same_of}
use Rattle.listing_laws.specs.Alike.{sorted-map}
use Rattle.listing_laws.specs.Ordering.{HasRank, order_strict}
use Rattle.listing_laws.specs.Known.{kept_read_in, kept_groups, Known, own_is_own, kept_not_own, own_has_rank, listed_has_rank}
use Rattle.listing_laws.specs.Total.{words_of}

-- ---- a survivor x and a kept reading y

module _ (x y : Group) (own : is_own x ≡ true) (kept : is_own y ≡ false) where
  -- the kept reading comes first where it ranks lower
  kept_first_lem : read_order y x ≡ (y.rank ≺ x.rank)
  unfolding read_order
  kept_first_lem = go (y.rank ≺ x.rank) (eq y.rank x.rank) (is_own y) (is_own x) kept own _
    where
      go : (a b c d : Bool) → c ≡ false → d ≡ true → (s : Bool) → (a || (b && ((c && not d) || (not (not c && d) && s)))) ≡ a
      go true b c d p q s = refl
      go false b true d p q s = never (sym p)
      go false b false false p q s = never q
      go false true false true p q s = refl
      go false false false true p q s = refl

  -- else the survivor
  own_first_lem : HasRank x → HasRank y → read_order x y ≡ not (y.rank ≺ x.rank)
  unfolding read_order
  own_first_lem rx ry = go (x.rank ≺ y.rank) (eq x.rank y.rank) (is_own x) (is_own y) own kept _ ∙ ranks
    where
      go : (a b c d : Bool) → c ≡ true → d ≡ false → (s : Bool) → (a || (b && ((c && not d) || (not (not c && d) && s)))) ≡ (a || b)
      go true b c d p q s = refl
      go false b false d p q s = never p
      go false b true true p q s = never (sym q)
      go false true true false p q s = refl
      go false false true false p q s = refl

      ranks : (x.rank ≺ y.rank || eq x.rank y.rank) ≡ not (y.rank ≺ x.rank)
      ranks =
          case (either (y.rank ≺ x.rank))
          (λ t.
          let a : (x.rank ≺ y.rank) ≡ false = is_false (λ u. lt_asym y.rank x.rank (holds t) u) in
          let b : eq x.rank y.rank ≡ false = is_false (λ u. lt_not_le y.rank x.rank (holds t) (eq→le x.rank y.rank u)) in
          rw (a, b, t))
          (λ t.
          case (either (x.rank ≺ y.rank)) (λ a. rw (a, t))
          (λ a. let b : eq x.rank y.rank ≡ true = is_true (le_antisym x.rank y.rank (not_lt→le y.rank x.rank ry rx (fails t)) (not_lt→le x.rank y.rank rx ry (fails a))) in rw (a, b, t)))

module _ {g : Graph} {fs : List Heard} {st : State} {f : Bool} {margin bound : Float} {cap : ℕ} (known : Known g fs st f margin bound cap) where
  -- so it is between any two of the lists
  pub beaten_by_rank : (x y : Group) → x ∈ grouped g st f → y ∈ kept_groups (kept_read_in g st f margin bound cap) → (read_order y x ≡ (y.rank ≺ x.rank)) × (read_order x y ≡ not (y.rank ≺ x.rank))
  beaten_by_rank x y m n =
      let own = own_is_own g st f x m in
      let kept = kept_not_own known y n in
      let all = grouped g st f in
      (kept_first_lem x y own kept, own_first_lem x y own kept (own_has_rank known x m) (listed_has_rank known y (Memᴰ.append_right all n)))

-- ---- the survivors among themselves

module _ (g : Graph) (good : GoodGraph g) (floats : Floats32 g) (fs : List Heard) (st : State) (active : Active g fs st.table st.seq st.fresh) (f : Bool) where
  own_later : (r q : Ranked) → r ∈ ranked g st f → q ∈ ranked g st f → sooner r q ≡ false → read_order (own_group r) (own_group q) ≡ false
  unfolding read_order
  own_later r q m n e = case (either (eqb r.token.seq q.token.seq)) same differ
    where
      same : eqb r.token.seq q.token.seq ≡ true → read_order (own_group r) (own_group q) ≡ false
      same t =
          let z = one_entry g good floats fs st active f r q m n (eqb-true r.token.seq q.token.seq t) in
          ap (λ (y : Ranked). read_order (own_group r) (own_group y)) (sym z) ∙ not_itself HasRank read_order order_strict (own_group r) (has_rank g good floats fs st active f r m)

      go : (a b c d s : Bool) → (a || (b && c)) ≡ false → d ≡ false → (a || (b && (c || (d && s)))) ≡ false
      go true b c d s p u = p
      go false true true d s p u = p
      go false true false true s p u = never (sym u)
      go false true false false s p u = refl
      go false false c d s p u = refl

      differ : eqb r.token.seq q.token.seq ≡ false → read_order (own_group r) (own_group q) ≡ false
      differ t = go (r.rank ≺ q.rank) (eq r.rank q.rank) (ltb q.token.seq r.token.seq) (eqb r.token.seq q.token.seq) (words_lt (own_group r).words (own_group q).words) e t

  -- sorted by rank and seq they are sorted as readings
  pub sorted_own : Sorted read_order (grouped g st f)
  unfolding grouped
  sorted_own =
      let rs = ranked g st f in
      sublist_sorted read_order (grouped g st f) (map own_group rs) (firsts_are (same_of words_of) [] (map own_group rs)).in_order (sorted-map sooner read_order own_group rs own_later (ranked_sorted g good floats fs st active f))
