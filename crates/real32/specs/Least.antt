-- The least of a list, picked by `lt` as code picks it: it is at most every other value, and one of them. A NaN is passed over. Assumes nothing.
use Rattle.std.specs.Prelude.{◌≡◌, refl, ◌⊎◌, List, [], ◌∷◌, Bool, true, false, not, cond, T, Float}
use Rattle.std.proofs.Common.{sym, ◌∙◌, subst, inl, inr}
use mathlib.Core.List.Memᴰ.{head as here}
use mathlib.Core.List.Memᴰ.{tail as there}
use Rattle.std.specs.Float.Ieee.{lt, le}
use Rattle.lists.specs.Tests.{case}
use Rattle.lists.specs.Lists.{◌∈◌}
use Rattle.real32.specs.Order.{real, le_refl, le_trans, lt→le, not_lt→le, lt_real_l}

-- f32's `min`; of two that are level the first
unfoldable pub fmin : Float → Float → Float
fmin x y = cond (lt y x) y x

unfoldable pub least : Float → List Float → Float
least x [] = x
least x (y ∷ ys) = least (fmin x y) ys

pick : (P : Float → Type 0) (b : Bool) (x y : Float) → (T b → P y) → (T (not b) → P x) → P (cond b y x)
pick P true x y h k = h tt
pick P false x y h k = k tt

pub fmin_real : (x y : Float) → T (real x) → T (real (fmin x y))
unfolding fmin
fmin_real x y p = pick (λ (z : Float). T (real z)) (lt y x) x y (lt_real_l y x) (λ (n : T (not (lt y x))). p)

pub fmin_l : (x y : Float) → T (real x) → T (le (fmin x y) x)
unfolding fmin
fmin_l x y p = pick (λ (z : Float). T (le z x)) (lt y x) x y (lt→le y x) (λ (n : T (not (lt y x))). le_refl x p)

pub fmin_r : (x y : Float) → T (real x) → T (real y) → T (le (fmin x y) y)
unfolding fmin
fmin_r x y p q = pick (λ (z : Float). T (le z y)) (lt y x) x y (λ (n : T (lt y x)). le_refl y q) (not_lt→le y x q p)

pub fmin_is : (x y : Float) → (fmin x y ≡ x) ⊎ (fmin x y ≡ y)
unfolding fmin
fmin_is x y = pick (λ (z : Float). (z ≡ x) ⊎ (z ≡ y)) (lt y x) x y (λ (n : T (lt y x)). inr refl) (λ (n : T (not (lt y x))). inl refl)

pub least_start : (x : Float) (ys : List Float) → T (real x) → T (le (least x ys) x)
unfolding least
least_start x [] p = le_refl x p
least_start x (y ∷ ys) p = le_trans (least (fmin x y) ys) (fmin x y) x (least_start (fmin x y) ys (fmin_real x y p)) (fmin_l x y p)

pub least_le : (x : Float) (ys : List Float) (y : Float) → T (real x) → T (real y) → y ∈ ys → T (le (least x ys) y)
unfolding least
least_le x [] y p q x5 = elim x5 [ ]
least_le x (v ∷ ys) y p q (here e) =
    le_trans (least (fmin x v) ys) (fmin x v) y (least_start (fmin x v) ys (fmin_real x v p)) (subst (λ (z : Float). T (le (fmin x v) z)) (sym e) (fmin_r x v p (subst (λ (z : Float). T (real z)) e q)))
least_le x (v ∷ ys) y p q (there m) = least_le (fmin x v) ys y (fmin_real x v p) q m

pub least_is : (x : Float) (ys : List Float) → (least x ys ≡ x) ⊎ (least x ys ∈ ys)
unfolding least
least_is x [] = inl refl
least_is x (y ∷ ys) = case (least_is (fmin x y) ys) (λ a. case (fmin_is x y) (λ b. inl (a ∙ b)) (λ b. inr (here (a ∙ b)))) (λ a. inr (there a))
