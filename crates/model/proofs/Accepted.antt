-- What holds of a step's result where the step is accepted. Assumes nothing.
use Rattle.std.specs.Prelude.{◌≡◌, refl, Bool, true, false, ℕ}
use Rattle.model.specs.Basics.{Outcome, ok, refused, ◌>>=◌, check}
use Rattle.model.specs.Accepted.{Ok}

pub then : {A B : Type 0} (P : A → Type 0) (Q : B → Type 0) (m : Outcome A) (f : A → Outcome B) → Ok P m → ((a : A) → P a → Ok Q (f a)) → Ok Q (m >>= f)
then P Q (ok a) f p k = k a p
then P Q (refused n) f p k = tt

-- after a step of which nothing need be known
pub after : {A B : Type 0} (Q : B → Type 0) (m : Outcome A) (f : A → Outcome B) → ((a : A) → Ok Q (f a)) → Ok Q (m >>= f)
after Q (ok a) f k = k a
after Q (refused n) f k = tt

pub branches : {A : Type 0} (P : A → Type 0) (b : Bool) (x y : Outcome A) → (b ≡ true → Ok P x) → (b ≡ false → Ok P y) → Ok P (elim b as (λ c. Outcome A) [ true ↦ x | false ↦ y ])
branches P true x y p q = p refl
branches P false x y p q = q refl

pub weaken : {A : Type 0} (P Q : A → Type 0) (m : Outcome A) → ((a : A) → P a → Q a) → Ok P m → Ok Q m
weaken P Q (ok a) f p = f a p
weaken P Q (refused n) f p = tt

pub checked_so : (n : ℕ) (b : Bool) → Ok (λ u. b ≡ true) (check n b)
checked_so n true = refl
checked_so n false = tt
