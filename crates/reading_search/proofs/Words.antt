-- The library's test for a word among words is the model's. Assumes nothing.
use Rattle.std.proofs.Common.{◌≡◌, refl, sym, ap₂, List, [], ◌∷◌, ℤ, Bool, ◌||◌, int_eq}
use Rattle.std.specs.List.{list_any}
use Rattle.std.proofs.lemmas.Bool.Decides.{Decides-int_eq, same_from_decides}
use Rattle.model.specs.Basics.{eqℤ}
use Rattle.model.specs.Ints.{eqℤ_true, eqℤ_refl}
use Rattle.model.specs.Search.{contains}

same_test : (x w : ℤ) → int_eq x w ≡ eqℤ w x
same_test x w = same_from_decides (int_eq x w) (eqℤ w x) (Decides-int_eq x w) (λ e. sym (eqℤ_true w x e), λ e. rw e (eqℤ_refl w))

pub any_is_contains : (w : ℤ) (ws : List ℤ) → list_any (λ x. int_eq x w) ws ≡ contains w ws
any_is_contains w [] = refl
any_is_contains w (x ∷ ws) = ap₂ (λ (a b : Bool). a || b) (same_test x w) (any_is_contains w ws)
