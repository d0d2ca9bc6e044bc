-- A loop over a list whose whole answer is that of the elements ahead; checks of which the first that refuses counts; and what a check finds. Assumes nothing.
use mathlib.Core.Path.{◌≡◌, refl, ◌∙◌, ap}
use mathlib.Core.List.{List, [], ◌∷◌}
use mathlib.Core.Option.{Option, none, some}
use Prim.Native.Nat.{ℕ, suc, ◌<◌}
use lib.ListN.{length, get_or, drop}
use lib.Seq.{drop-cons, drop-length}
use native.Mathlib.Omega.{arith}
use Rattle.model.specs.Basics.{first_of, Refusal as Wrong}
use Rattle.refusals.specs.declared.Refusal.{Refusal}
use Rattle.std.specs.Prelude.{Ok, Err}
use Rattle.fst.specs.Answer.{found_of, refusal_of}

module _ {A B : Type 0} (whole : B) (ahead : List A → B) (xs : List A) (i : ℕ) (so_far : whole ≡ ahead (drop i xs)) where
  pub at_end : i ≡ length xs → whole ≡ ahead []
  at_end h = so_far ∙ ap ahead (ap (λ (k : ℕ). drop k xs) h ∙ drop-length xs)

  pub in_turn : (d : A) → i < length xs → whole ≡ ahead (get_or xs i d ∷ drop (suc i) xs)
  in_turn d h = so_far ∙ ap ahead (drop-cons xs i d h)

module _ {A : Type 0} where
  only : (o : Option A) → first_of (o ∷ []) ≡ o
  only none = refl
  only (some x) = refl

  pub refuses : (o r : Option A) (x : A) → o ≡ some x → first_of (o ∷ r ∷ []) ≡ some x
  refuses o r x e = ap (λ (p : Option A). first_of (p ∷ r ∷ [])) e

  pub passes : (o r : Option A) → o ≡ none → first_of (o ∷ r ∷ []) ≡ r
  passes o r e = ap (λ (p : Option A). first_of (p ∷ r ∷ [])) e ∙ only r

-- ---- what the code finds is what the definition finds

pub no_fault : (o : Option Wrong) → Ok tt ≡ found_of o → o ≡ none
no_fault none e = refl
no_fault (some x) e = let z : ◌≡◌ {A = ℕ} 0 1 = cc in absurd (omega arith)

pub the_fault : (o : Option Wrong) (r : Refusal) → Err r ≡ found_of o → (x : Wrong) × (o ≡ some x) × (r ≡ refusal_of x)
the_fault none r e = let z : ◌≡◌ {A = ℕ} 0 1 = cc in absurd (omega arith)
the_fault (some x) r e = (x, refl, cc)
