-- Labels and word lists that are compared: the tests find equality, and nothing else. Assumes nothing.
use Rattle.std.specs.Prelude.{◌≡◌, refl, Bool, true, ◌&&◌, List, [], ◌∷◌, ℤ, pos, negsuc}
use Rattle.std.proofs.Common.{ap, ◌∙◌, subst, eqb-true}
use Rattle.std.proofs.Math.Dec.{eqb_refl}
use Rattle.lists.specs.Tests.{is_true, and_both, never}
use Rattle.model.specs.Basics.{eqℤ}
use Rattle.model.specs.Path.{same_words}

pub eqℤ_refl : (z : ℤ) → eqℤ z z ≡ true
eqℤ_refl (pos n) = is_true (eqb_refl n)
eqℤ_refl (negsuc n) = is_true (eqb_refl n)

pub eqℤ_same : (x y : ℤ) → eqℤ x y ≡ true → x ≡ y
eqℤ_same (pos m) (pos n) e = ap pos (eqb-true m n e)
eqℤ_same (pos m) (negsuc n) e = never e
eqℤ_same (negsuc m) (pos n) e = never e
eqℤ_same (negsuc m) (negsuc n) e = ap negsuc (eqb-true m n e)

words_refl : (ws : List ℤ) → same_words ws ws ≡ true
words_refl [] = refl
words_refl (w ∷ ws) = ap (λ (b : Bool). b && same_words ws ws) (eqℤ_refl w) ∙ words_refl ws

pub words_alike : (v w : List ℤ) → v ≡ w → same_words v w ≡ true
words_alike v w e = subst (λ (x : List ℤ). same_words v x ≡ true) e (words_refl v)

pub words_same : (v w : List ℤ) → same_words v w ≡ true → v ≡ w
words_same [] [] e = refl
words_same [] (y ∷ ys) e = never e
words_same (x ∷ xs) [] e = never e
words_same (x ∷ xs) (y ∷ ys) e =
    let p = and_both (eqℤ x y) (same_words xs ys) e in
    let h = eqℤ_same x y p.0 in
    let t = words_same xs ys p.1 in
    cc
