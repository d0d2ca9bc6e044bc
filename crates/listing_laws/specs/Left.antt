-- What is left of two lists, over what their places hold and over what these stand for. Assumes nothing.
use Rattle.std.specs.Prelude.{◌≡◌, refl, Bool, not, ◌&&◌, ◌||◌, List, [], ◌∷◌, map}
use Rattle.std.proofs.Common.{sym, ap, ap₂, ◌∙◌}
use Rattle.lists.specs.Lists.{◌∈◌, any, keep_if}
use Rattle.kept_readings.specs.Model.{keep_as}
use Rattle.listing_laws.specs.Alike.{any_as}

any-map : {A B : Type 0} (f : A → B) (p : B → Bool) (xs : List A) → any p (map f xs) ≡ any (λ (x : A). p (f x)) xs
any-map f p [] = refl
any-map f p (x ∷ xs) = ap (λ (b : Bool). p (f x) || b) (any-map f p xs)

-- items p of xs and q of ys; `alike` and `before` of what they stand for, `same` and `first` of their places
module _ {A B C : Type 0} (p : A → C) (q : B → C) (alike before : C → C → Bool) (same first : B → A → Bool) (xs : List A) (ys : List B)
    (same_is : (x : A) (y : B) → x ∈ xs → y ∈ ys → alike (p x) (q y) ≡ same y x) (same_back : (x : A) (y : B) → x ∈ xs → y ∈ ys → alike (q y) (p x) ≡ same y x)
    (first_is : (x : A) (y : B) → x ∈ xs → y ∈ ys → before (q y) (p x) ≡ first y x) (first_not : (x : A) (y : B) → x ∈ xs → y ∈ ys → before (p x) (q y) ≡ not (first y x)) where
  -- of the first list those that no one of the second beats
  pub left_own : keep_if (λ (c : C). not (any (λ (d : C). alike c d && before d c) (map q ys))) (map p xs) ≡ map p (keep_if (λ (x : A). not (any (λ (y : B). same y x && first y x) ys)) xs)
  left_own =
      sym
      (keep_as p (λ (x : A). not (any (λ (y : B). same y x && first y x) ys)) (λ (c : C). not (any (λ (d : C). alike c d && before d c) (map q ys))) xs
      (λ x m.
      sym
      (ap not
      (any-map q (λ (d : C). alike (p x) d && before d (p x)) ys
      ∙ any_as (λ (y : B). alike (p x) (q y) && before (q y) (p x)) (λ (y : B). same y x && first y x) ys (λ y k. ap₂ (λ (a b : Bool). a && b) (same_is x y m k) (first_is x y m k))))))

  -- of some of the second those that no one of the first beats
  pub left_other : (zs : List B) → ((z : B) → z ∈ zs → z ∈ ys) → keep_if (λ (c : C). not (any (λ (d : C). alike c d && before d c) (map p xs))) (map q zs) ≡ map q (keep_if (λ (y : B). not (any (λ (x : A). same y x && not (first y x)) xs)) zs)
  left_other zs inside =
      sym
      (keep_as q (λ (y : B). not (any (λ (x : A). same y x && not (first y x)) xs)) (λ (c : C). not (any (λ (d : C). alike c d && before d c) (map p xs))) zs
      (λ y k.
      sym
      (ap not
      (any-map p (λ (d : C). alike (q y) d && before d (q y)) xs
      ∙ any_as (λ (x : A). alike (q y) (p x) && before (p x) (q y)) (λ (x : A). same y x && not (first y x)) xs (λ x m. ap₂ (λ (a b : Bool). a && b) (same_back x y m (inside y k)) (first_not x y m (inside y k)))))))
