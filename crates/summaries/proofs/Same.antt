-- Two histories, compared from the records skipped to. Assumes nothing.
use mathlib.Core.Path.{◌≡◌, sym, ap, ◌∙◌}
use Prim.Native.Nat.{ℕ, ◌≤◌}
use native.Mathlib.Omega.{arith}
use mathlib.Core.Bool.{Bool, true, false}
use mathlib.Core.List.{List}
use lib.IntN.{ℤ, pos}
use borrow.Author.Tests.{eq-eqb, ne_eqb}
use Rattle.records.specs.History.{tag}
use Rattle.joins.specs.Walk.{SameWords}
use Rattle.histories.specs.Reading.{end_tag, same_reading, EndIs, SameIs}
use Rattle.histories.specs.Laws.{tag_one, end_words}
use Rattle.summaries.specs.Summed.{skip_at, end_at, Skips}
use Rattle.summaries.specs.Laws.{skip_to}

module _ {rs : List ℕ} {ls : List ℤ} {n : ℕ} {cs : List ℕ} (S : Skips rs ls n n cs) where
  pub end_is : (to_join_lem : Bool) {r : ℕ} → r ≤ n → EndIs rs ls n r to_join_lem (end_at cs to_join_lem r)
  unfolding tag
  end_is true l = S.joins _ l
  end_is false l = record { low = omega arith; is = λ gs h ok. rw ok.none }

  module _ {a b : ℕ} {to_join_lem : Bool} {d e : ℕ} (l : a ≤ n) (m : b ≤ n) (D : d ≡ end_at cs to_join_lem a) (E : e ≡ end_at cs to_join_lem b) where
    pub ends_apart : (d ≡ e → ⊥) → SameIs rs ls n a b to_join_lem false
    unfolding same_reading
    ends_apart u =
        record {
          is = λ gs h ok.
              let F = end_is to_join_lem l in
              let G = end_is to_join_lem m in
              let t = ne_eqb (end_tag to_join_lem (h a)) (end_tag to_join_lem (h b)) (λ q. u (D ∙ tag_one ok _ _ (omega (arith, F.low)) (omega (arith, G.low)) (F.is gs h ok ∙ q ∙ sym (G.is gs h ok)) ∙ sym E)) in
              rw t;
        }

    pub ends_one : {p q : ℕ} {r : Bool} → d ≡ e → p ≡ skip_at cs a → q ≡ skip_at cs b → SameWords rs ls n p q (pos 0) d r → SameIs rs ls n a b to_join_lem r
    unfolding same_reading
    ends_one u P Q W =
        record {
          is = λ gs h ok.
              let F = end_is to_join_lem l in
              let G = end_is to_join_lem m in
              let t = eq-eqb (end_tag to_join_lem (h a)) (end_tag to_join_lem (h b)) (sym (F.is gs h ok) ∙ ap (λ (k : ℕ). tag (h k)) (sym D ∙ u ∙ E) ∙ G.is gs h ok) in
              W.is gs h ok ∙ rw (t, ← (end_words gs h ok F), ← (end_words gs h ok G), P, Q, skip_to ok (S.skips a l).quiet l d, skip_to ok (S.skips b m).quiet m d, ← E, ← u, ← D);
        }
