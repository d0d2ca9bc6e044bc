-- The order by rank and then by the larger seq: strict, and total where no two have one seq. So there is one best token, whichever way it is looked for. Assumes nothing.
use Rattle.std.specs.Prelude.{◌≡◌, refl, ◌⊎◌, ℕ, ◌<◌, ◌≤◌, Bool, true, false, not, ◌&&◌, ◌||◌, List, ◌∷◌, get_or, leb, ltb, Float}
use Rattle.std.proofs.Common.{sym, ap, ap₂, ◌∙◌, subst, inl, inr, arith, ltb-true, ltb-false, le-leb}
use Rattle.std.proofs.Math.Bool.{or-true, and-false}
use Rattle.std.proofs.Math.Option.{none}
use mathlib.Core.List.Memᴰ.{head as here}
use mathlib.Core.List.Memᴰ.{tail as there}
use Rattle.std.proofs.Math.Dec.{T}
use Rattle.std.specs.Float.Ieee.{lt, eq}
use Rattle.std.proofs.lemmas.Bool.{lt-leb}
use Rattle.lists.specs.Tests.{case, either, holds, fails, is_true, is_false, never}
use Rattle.lists.specs.Lists.{◌∈◌}
use Rattle.lists.specs.Order.{Sorted, Strict, sort_sorted, sort_to}
use Rattle.real32.specs.Order.{real, finite_real, lt→le, not_lt→le, lt_le_trans, le_lt_trans, lt_trans, lt_not_le, lt_asym, eq→le, eq→ge, eq_sym, eq_trans, le_split}
use Rattle.model.specs.Basics.{◌≺◌, ◌≼◌}
use Rattle.model.specs.Graph.{Graph}
use Rattle.model.specs.Path.{Token}
use Rattle.model.specs.Passes.{State}
use Rattle.model.specs.Reads.{Ranked, use_finals, rank_one, rank_from, sooner, ranked}
use Rattle.model.specs.Checked.{GoodGraph}
use Rattle.copy_laws.specs.Walks.{Heard}
use Rattle.copy_laws.proofs.Tables.{at_one}
use Rattle.copy_laws.specs.Sums.{Floats32}
use Rattle.copy_laws.specs.Active.{Active}
use Rattle.copy_laws.proofs.Minima.{not_itself}
use Rattle.copy_laws.specs.Ranks.{end_weight}
use Rattle.copy_laws.proofs.Ranks.{ranked_at_lem, sure_finite, ranked_sure}
use Rattle.copy_laws.specs.Sooner.{earlier, stays, rank_of, seq_of}

-- ---- the order is strict

module _ {A : Type 0} (rank_of : A → Float) (seq_of : A → ℕ) where
  abbrev pub HasRank : A → Type 0
  HasRank a = T (real (rank_of a))

  -- what the test says where it is true, and where it is false
  abbrev Sooner : A → A → Type 0
  Sooner a b = T (lt (rank_of a) (rank_of b)) ⊎ (T (eq (rank_of a) (rank_of b)) × (seq_of b < seq_of a))

  abbrev NotSooner : A → A → Type 0
  NotSooner a b = T (lt (rank_of b) (rank_of a)) ⊎ (T (eq (rank_of a) (rank_of b)) × (seq_of a ≤ seq_of b))

  yes_sooner : (a b : A) → earlier rank_of seq_of a b ≡ true → Sooner a b
  yes_sooner a b = go (rank_of a ≺ rank_of b) (eq (rank_of a) (rank_of b)) (ltb (seq_of b) (seq_of a)) refl refl refl
    where
      go : (x y z : Bool) → (rank_of a ≺ rank_of b) ≡ x → eq (rank_of a) (rank_of b) ≡ y → ltb (seq_of b) (seq_of a) ≡ z → (x || (y && z)) ≡ true → Sooner a b
      go true y z p q r e = inl (holds p)
      go false true true p q r e = inr (holds q, ltb-true (seq_of b) (seq_of a) r)
      go false true false p q r e = never e
      go false false z p q r e = never e

  not_sooner : (a b : A) → HasRank a → HasRank b → earlier rank_of seq_of a b ≡ false → NotSooner a b
  not_sooner a b ra rb = go (rank_of a ≺ rank_of b) (eq (rank_of a) (rank_of b)) (ltb (seq_of b) (seq_of a)) refl refl refl
    where
      go : (x y z : Bool) → (rank_of a ≺ rank_of b) ≡ x → eq (rank_of a) (rank_of b) ≡ y → ltb (seq_of b) (seq_of a) ≡ z → (x || (y && z)) ≡ false → NotSooner a b
      go true y z p q r e = never (sym e)
      go false true true p q r e = never (sym e)
      go false true false p q r e = inr (holds q, ltb-false (seq_of b) (seq_of a) r)
      go false false z p q r e = case (le_split (rank_of b) (rank_of a) (not_lt→le (rank_of a) (rank_of b) ra rb (fails p))) inl (λ k. never (sym q ∙ is_true (eq_sym (rank_of b) (rank_of a) k)))

  is_not_sooner : (a b : A) → NotSooner a b → earlier rank_of seq_of a b ≡ false
  is_not_sooner a b n = is_false λ t. clash n (yes_sooner a b (is_true t))
    where
      clash : NotSooner a b → Sooner a b → ⊥
      clash (inl x) (inl y) = lt_asym (rank_of b) (rank_of a) x y
      clash (inl x) (inr y) = lt_not_le (rank_of b) (rank_of a) x (eq→le (rank_of a) (rank_of b) y.0)
      clash (inr x) (inl y) = lt_not_le (rank_of a) (rank_of b) y (eq→ge (rank_of a) (rank_of b) x.0)
      clash (inr x) (inr y) = let i = x.1 in let j = y.1 in omega arith

  not_back : (a b : A) → Sooner a b → NotSooner b a
  not_back a b (inl x) = inl x
  not_back a b (inr x) = let i = x.1 in inr (eq_sym (rank_of a) (rank_of b) x.0, omega arith)

  not_through : (a b c : A) → NotSooner a b → NotSooner b c → NotSooner a c
  not_through a b c (inl x) (inl y) = inl (lt_trans (rank_of c) (rank_of b) (rank_of a) y x)
  not_through a b c (inl x) (inr y) = inl (le_lt_trans (rank_of c) (rank_of b) (rank_of a) (eq→ge (rank_of b) (rank_of c) y.0) x)
  not_through a b c (inr x) (inl y) = inl (lt_le_trans (rank_of c) (rank_of b) (rank_of a) y (eq→ge (rank_of a) (rank_of b) x.0))
  not_through a b c (inr x) (inr y) = let i = x.1 in let j = y.1 in inr (eq_trans (rank_of a) (rank_of b) (rank_of c) x.0 y.0, omega arith)

  pub earlier_strict : Strict HasRank (earlier rank_of seq_of)
  earlier_strict =
      record {
        asym = λ x y rx ry e. is_not_sooner y x (not_back x y (yes_sooner x y e));
        through = λ x y z rx ry rz e f. is_not_sooner x z (not_through x y z (not_sooner x y rx ry e) (not_sooner y z ry rz f));
      }

  -- of two neither of which is earlier, both have one seq
  pub one_seq : (a b : A) → HasRank a → HasRank b → earlier rank_of seq_of a b ≡ false → earlier rank_of seq_of b a ≡ false → seq_of a ≡ seq_of b
  one_seq a b ra rb e f = go (not_sooner a b ra rb e) (not_sooner b a rb ra f)
    where
      go : NotSooner a b → NotSooner b a → seq_of a ≡ seq_of b
      go (inl x) (inl y) = absurd (lt_asym (rank_of b) (rank_of a) x y)
      go (inl x) (inr y) = absurd (lt_not_le (rank_of b) (rank_of a) x (eq→ge (rank_of b) (rank_of a) y.0))
      go (inr x) (inl y) = absurd (lt_not_le (rank_of a) (rank_of b) y (eq→ge (rank_of a) (rank_of b) x.0))
      go (inr x) (inr y) = let i = x.1 in let j = y.1 in omega arith

  pub stays_is : (old new : A) → HasRank old → HasRank new → stays rank_of seq_of old new ≡ not (earlier rank_of seq_of new old)
  stays_is old new ro rn = case (either (earlier rank_of seq_of new old)) (λ e. gone (yes_sooner new old e) ∙ sym (ap not e)) (λ e. kept (not_sooner new old rn ro e) ∙ sym (ap not e))
    where
      kept : NotSooner new old → stays rank_of seq_of old new ≡ true
      kept (inl x) = let e : (rank_of old ≺ rank_of new) ≡ true = is_true x in rw e
      kept (inr x) =
          let e : eq (rank_of old) (rank_of new) ≡ true = is_true (eq_sym (rank_of new) (rank_of old) x.0) in
          let l : leb (seq_of new) (seq_of old) ≡ true = le-leb (seq_of new) (seq_of old) x.1 in
          rw (e, l) (or-true (rank_of old ≺ rank_of new))

      gone : Sooner new old → stays rank_of seq_of old new ≡ false
      gone (inl x) =
          let l : (rank_of old ≺ rank_of new) ≡ false = is_false (λ t. lt_asym (rank_of new) (rank_of old) x t) in
          let e : eq (rank_of old) (rank_of new) ≡ false = is_false (λ t. lt_not_le (rank_of new) (rank_of old) x (eq→le (rank_of old) (rank_of new) t)) in
          rw (l, e)
      gone (inr x) =
          let l : (rank_of old ≺ rank_of new) ≡ false = is_false (λ t. lt_not_le (rank_of old) (rank_of new) t (eq→le (rank_of new) (rank_of old) x.0)) in
          let n : leb (seq_of new) (seq_of old) ≡ false = lt-leb (seq_of new) (seq_of old) x.1 in
          rw (l, n) (and-false (eq (rank_of old) (rank_of new)))

  -- what is not earlier ranks no lower
  pub ranks_up : (a b : A) → HasRank a → HasRank b → earlier rank_of seq_of a b ≡ false → T (rank_of b ≼ rank_of a)
  ranks_up a b ra rb e = case (not_sooner a b ra rb e) (lt→le (rank_of b) (rank_of a)) (λ x. eq→ge (rank_of a) (rank_of b) x.0)

module _ (g : Graph) (good : GoodGraph g) (floats : Floats32 g) (fs : List Heard) (st : State) (active : Active g fs st.table st.seq st.fresh) (f : Bool) where
  pub has_rank : (r : Ranked) → r ∈ ranked g st f → T (real r.rank)
  has_rank r m = finite_real r.rank (sure_finite 102 r.rank (ranked_sure g good floats fs st active f r m).0)

  -- one entry for a seq
  pub one_entry : (y z : Ranked) → y ∈ ranked g st f → z ∈ ranked g st f → y.token.seq ≡ z.token.seq → y ≡ z
  one_entry y z m n e =
      let a = ranked_at_lem g st f y m in
      let b = ranked_at_lem g st f z n in
      let finals = use_finals g st f in
      let s : a.state ≡ b.state = active.distinct a.state y.token b.state z.token a.at b.at e in
      let t : y.token ≡ z.token = at_one st.table b.state y.token z.token (ap (λ (i : ℕ). get_or st.table i none) (sym s) ∙ a.at) b.at in
      a.is ∙ ap₂ (λ (i : ℕ) (u : Token). rank_one finals (end_weight g finals i) u) s t ∙ sym b.is

  pub ranked_total : (y z : Ranked) → y ∈ ranked g st f → z ∈ ranked g st f → sooner y z ≡ false → sooner z y ≡ false → y ≡ z
  ranked_total y z m n d e = one_entry y z m n (one_seq rank_of seq_of y z (has_rank y m) (has_rank z n) d e)

  pub ranked_sorted : Sorted sooner (ranked g st f)
  unfolding ranked
  ranked_sorted =
      let rs = rank_from g (use_finals g st f) 0 st.table in
      sort_sorted (λ r. T (real r.rank)) sooner (earlier_strict rank_of seq_of) rs (λ r m. has_rank r (sort_to sooner rs r m))

  -- none is sooner than the first
  pub first_soonest : (r : Ranked) (rs : List Ranked) → ranked g st f ≡ r ∷ rs → (y : Ranked) → y ∈ ranked g st f → sooner y r ≡ false
  first_soonest r rs e y m = go (subst (λ (l : List Ranked). Sorted sooner l) e ranked_sorted) (subst (λ (l : List Ranked). y ∈ l) e m)
    where
      in_list : r ∈ ranked g st f
      in_list = subst (λ (l : List Ranked). r ∈ l) (sym e) (here refl)

      go : Sorted sooner (r ∷ rs) → y ∈ (r ∷ rs) → sooner y r ≡ false
      go s (here q) = ap (λ (x : Ranked). sooner x r) q ∙ not_itself (HasRank rank_of seq_of) sooner (earlier_strict rank_of seq_of) r (has_rank r in_list)
      go s (there n) = s.0 y n

  pub first_least : (r : Ranked) (rs : List Ranked) → ranked g st f ≡ r ∷ rs → (y : Ranked) → y ∈ ranked g st f → T (r.rank ≼ y.rank)
  first_least r rs e y m =
      ranks_up rank_of seq_of y r (has_rank y m) (has_rank r (subst (λ (l : List Ranked). r ∈ l) (sym e) (here refl))) (first_soonest r rs e y m)
