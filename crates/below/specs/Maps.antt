-- Choosing and sorting under a map that keeps the tests. Assumes nothing.
use Rattle.std.specs.Prelude.{◌≡◌, refl, ℕ, zero, suc, ◌+◌, ◌≤◌, ◌<◌, Bool, true, false, ◌||◌, cond, List, [], ◌∷◌, map, take}
use Rattle.std.proofs.Common.{sym, ap, ap₂, ◌∙◌, arith}
use mathlib.Core.List.Memᴰ.{head as here}
use mathlib.Core.List.Memᴰ.{tail as there}
use Rattle.lists.specs.Tests.{case, never, lt_or_le}
use Rattle.lists.specs.Lists.{◌∈◌, any, keep_if, insert_by, sort_by, firsts, range}

module _ {A B : Type 0} (f : A → B) where
  -- those that pass
  pub keep-map : (p : B → Bool) (xs : List A) → keep_if p (map f xs) ≡ map f (keep_if (λ (x : A). p (f x)) xs)
  keep-map p [] = refl
  keep-map p (x ∷ xs) = go (p (f x)) (keep-map p xs)
    where
      go : (b : Bool) → keep_if p (map f xs) ≡ map f (keep_if (λ (x : A). p (f x)) xs)
          → cond b (f x ∷ keep_if p (map f xs)) (keep_if p (map f xs)) ≡ map f (cond b (x ∷ keep_if (λ (x : A). p (f x)) xs) (keep_if (λ (x : A). p (f x)) xs))
      go true e = ap (λ (l : List B). f x ∷ l) e
      go false e = e

  insert_map : (before : B → B → Bool) (x : A) (xs : List A) → insert_by before (f x) (map f xs) ≡ map f (insert_by (λ (a b : A). before (f a) (f b)) x xs)
  insert_map before x [] = refl
  insert_map before x (y ∷ xs) = go (before (f y) (f x)) (insert_map before x xs)
    where
      go : (b : Bool) → insert_by before (f x) (map f xs) ≡ map f (insert_by (λ (a b : A). before (f a) (f b)) x xs)
          → cond b (f y ∷ insert_by before (f x) (map f xs)) (f x ∷ f y ∷ map f xs) ≡ map f (cond b (y ∷ insert_by (λ (a b : A). before (f a) (f b)) x xs) (x ∷ y ∷ xs))
      go true e = ap (λ (l : List B). f y ∷ l) e
      go false e = refl

  -- sorted
  pub sort_map : (before : B → B → Bool) (xs : List A) → sort_by before (map f xs) ≡ map f (sort_by (λ (a b : A). before (f a) (f b)) xs)
  sort_map before [] = refl
  sort_map before (x ∷ xs) = ap (insert_by before (f x)) (sort_map before xs) ∙ insert_map before x (sort_by (λ (a b : A). before (f a) (f b)) xs)

  any-map : (like : B → B → Bool) (x : A) (seen : List A) → any (like (f x)) (map f seen) ≡ any (λ (y : A). like (f x) (f y)) seen
  any-map like x [] = refl
  any-map like x (y ∷ seen) = ap (λ (b : Bool). like (f x) (f y) || b) (any-map like x seen)

  -- the first of each class
  pub firsts-map : (like : B → B → Bool) (seen xs : List A) → firsts like (map f seen) (map f xs) ≡ map f (firsts (λ (a b : A). like (f a) (f b)) seen xs)
  firsts-map like seen [] = refl
  firsts-map like seen (x ∷ xs) = go (firsts-map like seen xs) (firsts-map like (x ∷ seen) xs) (any (like (f x)) (map f seen)) (any (λ (y : A). like (f x) (f y)) seen) (any-map like x seen)
    where
      go : firsts like (map f seen) (map f xs) ≡ map f (firsts (λ (a b : A). like (f a) (f b)) seen xs) → firsts like (map f (x ∷ seen)) (map f xs) ≡ map f (firsts (λ (a b : A). like (f a) (f b)) (x ∷ seen) xs)
          → (p q : Bool) → p ≡ q
          → (elim p as (λ z. List B) [ true ↦ firsts like (map f seen) (map f xs) | false ↦ f x ∷ firsts like (f x ∷ map f seen) (map f xs) ])
          ≡ map f (elim q as (λ z. List A) [ true ↦ firsts (λ (a b : A). like (f a) (f b)) seen xs | false ↦ x ∷ firsts (λ (a b : A). like (f a) (f b)) (x ∷ seen) xs ])
      go again more true true e = again
      go again more true false e = never (sym e)
      go again more false true e = never e
      go again more false false e = ap (λ (l : List B). f x ∷ l) more

  -- the first n
  pub take_map : (n : ℕ) (xs : List A) → take n (map f xs) ≡ map f (take n xs)
  take_map zero [] = refl
  take_map (suc n) [] = refl
  take_map zero (x ∷ xs) = refl
  take_map (suc n) (x ∷ xs) = ap (λ (l : List B). f x ∷ l) (take_map n xs)

-- maps that agree on the members
pub map_same : {A B : Type 0} (f g : A → B) (xs : List A) → ((x : A) → x ∈ xs → f x ≡ g x) → map f xs ≡ map g xs
map_same f g [] e = refl
map_same f g (x ∷ xs) e = ap₂ ◌∷◌ (e x (here refl)) (map_same f g xs (λ y m. e y (there m)))

-- ---- ranges

-- its members lie between
pub range_member : (a n i : ℕ) → i ∈ range a n → (a ≤ i) × (i < a + n)
range_member a zero i m = elim m [ ]
range_member a (suc n) i (here e) = (omega arith, omega arith)
range_member a (suc n) i (there m) = let z = range_member (suc a) n i m in let x = z.0 in let y = z.1 in (omega arith, omega arith)

-- and are all there
pub range_in : (a n i : ℕ) → a ≤ i → i < a + n → i ∈ range a n
range_in a zero i l u = absurd (omega arith)
range_in a (suc n) i l u = case (lt_or_le a i) (λ h. there (range_in (suc a) n i (omega arith) (omega arith))) (λ h. here (omega arith))
