-- Where finals are to count and no active state is final, no token is ranked; else the ranked are the definition's. Assumes nothing.
use Rattle.std.specs.Prelude.{◌≡◌, refl, ◌⊎◌, ℕ, suc, Bool, true, false, cond, List, [], ◌∷◌, map, ℤ, take, Float}
use Rattle.std.proofs.Common.{sym, ap, ◌∙◌, subst, inl, inr}
use Rattle.std.proofs.Math.Option.{none, some}
use Rattle.std.specs.Float.{binary32}
use Rattle.std.specs.Float.Ieee.Scale.{finite}
use Rattle.lists.specs.Tests.{either, case, never, holds, is_true, or_neither}
use Rattle.lists.specs.Lists.{sort_by}
use Rattle.real32.specs.Exact.{finite_r}
use Rattle.model.specs.Graph.{Graph, final_weight, is_final}
use Rattle.model.specs.Path.{Token, Table}
use Rattle.model.specs.Reads.{any_final, use_finals, rank_one, rank_from, sooner}
use Rattle.ranking.specs.Ranked.{RankedIs, ranked_at}
use Rattle.listing_laws.specs.Situation.{Situation}

-- a token of a state that is not final does not count
none_counts : (g : Graph) (s : ℕ) (t : Token) → is_final g s ≡ false → finite (rank_one true (final_weight g s) t).cost ≡ false
unfolding rank_one
none_counts g s t e = case (either (finite (rank_one true (final_weight g s) t).cost)) (λ q. never (sym e ∙ is_true (finite_r binary32 t.cost (final_weight g s) (holds q)))) (λ q. q)

-- so none is ranked where no state is final
none_ranked : (g : Graph) (s : ℕ) (ts : Table) → any_final g s ts ≡ false → rank_from g true s ts ≡ []
unfolding rank_from
none_ranked g s [] e = refl
none_ranked g s (none ∷ ts) e = none_ranked g (suc s) ts e
none_ranked g s (some t ∷ ts) e =
    let d = or_neither (is_final g s) (any_final g (suc s) ts) e in
    ap (λ (b : Bool). cond b (rank_one true (final_weight g s) t ∷ rank_from g true (suc s) ts) (rank_from g true (suc s) ts)) (none_counts g s t d.0) ∙ none_ranked g (suc s) ts d.1

no_images : {A B : Type 0} (f : A → B) (xs : List A) → map f xs ≡ [] → xs ≡ []
no_images f [] e = refl
no_images f (x ∷ xs) e = absurd (subst (λ l. elim l as (λ z. Type 0) [ [] ↦ ⊥ | y ∷ ys ↦ Unit {0} ]) e tt)

module _ {tk : List ℕ} {sm fs : List Float} {rs : List ℕ} {ls : List ℤ} {gs : List Float} {n b used : ℕ} {keeps : Bool} {margin : Float} (S : Situation tk sm fs rs ls gs n b used keeps margin) where
  -- counts is what the definition takes for some use of finals, or nothing is ranked
  pub counts_as : (counts : Bool) {order : List ℕ} {all : ℕ} → RankedIs tk sm fs b n counts order all → ((f : Bool) × (counts ≡ use_finals S.g S.st f)) ⊎ (take all order ≡ [])
  counts_as false R = inl (false, refl)
  counts_as true {order} {all} R =
      case (either (any_final S.g 0 S.st.table)) (λ e. inl (true, sym e))
      (λ e. inr (no_images (ranked_at S.g true S.st.table) (take all order) (R.is S.g S.finals S.h used S.st.table S.shown ∙ ap (sort_by sooner) (none_ranked S.g 0 S.st.table e))))
