-- Members of the lists that these definitions make. Assumes nothing.
use Rattle.std.specs.Prelude.{◌≡◌, refl, ◌⊎◌, ℕ, zero, suc, ◌+◌, ◌<◌, Bool, true, false, cond, List, [], ◌∷◌, map, length, get_or, take, drop}
use Rattle.std.proofs.Common.{sym, ap, ◌∙◌, inl, inr, add-one, arith, drop-cons}
use Rattle.std.proofs.Math.Bool.{or-true}
use mathlib.Core.List.Memᴰ.{head as here}
use mathlib.Core.List.Memᴰ.{tail as there}
use Rattle.lists.specs.Tests.{case, either, or_neither, and_both, never}
use Rattle.lists.specs.Lists.{◌∈◌, any, all, keep_if, insert_by, sort_by, firsts}

-- inside a list, the default does not count
pub get_d_any {ℓ} : {A : Type ℓ} (xs : List A) (i : ℕ) (d e : A) → i < length xs → get_or xs i d ≡ get_or xs i e
get_d_any [] i d e h = absurd (omega arith)
get_d_any (x ∷ xs) zero d e h = refl
get_d_any (x ∷ xs) (suc i) d e h = get_d_any xs i d e (omega arith)

module _ {A : Type 0} where
  pub at_member : (xs : List A) (i : ℕ) (d : A) → i < length xs → get_or xs i d ∈ xs
  at_member [] i d h = absurd (omega arith)
  at_member (x ∷ xs) zero d h = here refl
  at_member (x ∷ xs) (suc i) d h = there (at_member xs i d (omega arith))

  pub member_at : (xs : List A) (x d : A) → x ∈ xs → (i : ℕ) × (i < length xs) × (get_or xs i d ≡ x)
  member_at [] x d x3 = elim x3 [ ]
  member_at (y ∷ xs) x d (here e) = (0, omega arith, sym e)
  member_at (y ∷ xs) x d (there m) = let (i, h, e) = member_at xs x d m in (suc i, omega arith, e)

  -- what is dropped next
  pub drop_next : (xs : List A) (i : ℕ) (d : A) → i < length xs → drop i xs ≡ get_or xs i d ∷ drop (i + 1) xs
  drop_next xs i d h = rw add-one (drop-cons xs i d h)

  pub take_from : (n : ℕ) (xs : List A) (x : A) → x ∈ take n xs → x ∈ xs
  take_from zero [] x m = m
  take_from zero (y ∷ xs) x m = elim m [ ]
  take_from (suc n) [] x m = m
  take_from (suc n) (y ∷ xs) x (here e) = here e
  take_from (suc n) (y ∷ xs) x (there m) = there (take_from n xs x m)

  -- ---- tests

  pub any_no : (p : A → Bool) (xs : List A) → any p xs ≡ false → (x : A) → x ∈ xs → p x ≡ false
  any_no p [] e x x4 = elim x4 [ ]
  any_no p (y ∷ xs) e x (here q) = ap p q ∙ (or_neither (p y) (any p xs) e).0
  any_no p (y ∷ xs) e x (there m) = any_no p xs (or_neither (p y) (any p xs) e).1 x m

  pub any_yes : (p : A → Bool) (xs : List A) (x : A) → x ∈ xs → p x ≡ true → any p xs ≡ true
  any_yes p [] x x4 e = elim x4 [ ]
  any_yes p (y ∷ xs) x (here q) e = rw (← q, e)
  any_yes p (y ∷ xs) x (there m) e = rw (any_yes p xs x m e, or-true)

  pub any_some : (p : A → Bool) (xs : List A) → any p xs ≡ true → (x : A) × (x ∈ xs) × (p x ≡ true)
  any_some p [] e = never e
  any_some p (y ∷ xs) e = case (either (p y)) (λ t. (y, here refl, t)) (λ t. let (x, m, q) = any_some p xs (rw t at e) in (x, there m, q))

  pub all_each : (p : A → Bool) (xs : List A) → all p xs ≡ true → (x : A) → x ∈ xs → p x ≡ true
  all_each p [] e x x4 = elim x4 [ ]
  all_each p (y ∷ xs) e x (here q) = ap p q ∙ (and_both (p y) (all p xs) e).0
  all_each p (y ∷ xs) e x (there m) = all_each p xs (and_both (p y) (all p xs) e).1 x m

  pub all_of : (p : A → Bool) (xs : List A) → ((x : A) → x ∈ xs → p x ≡ true) → all p xs ≡ true
  all_of p [] f = refl
  all_of p (y ∷ xs) f = rw (f y (here refl)) (all_of p xs (λ x m. f x (there m)))

  -- ---- `keep_if`

  kept_cons : (b : Bool) (x y : A) (xs r : List A) → x ∈ cond b (y ∷ r) r → (x ∈ r → x ∈ xs) → x ∈ (y ∷ xs)
  kept_cons true x y xs r (here e) f = here e
  kept_cons true x y xs r (there m) f = there (f m)
  kept_cons false x y xs r m f = there (f m)

  pub keep_from : (p : A → Bool) (xs : List A) (x : A) → x ∈ keep_if p xs → x ∈ xs
  keep_from p [] x m = elim m [ ]
  keep_from p (y ∷ xs) x m = kept_cons (p y) x y xs (keep_if p xs) m (keep_from p xs x)

  pub keep_passes : (p : A → Bool) (xs : List A) (x : A) → x ∈ keep_if p xs → p x ≡ true
  keep_passes p [] x m = elim m [ ]
  keep_passes p (y ∷ xs) x m = go (p y) refl m (keep_passes p xs x)
    where
      go : (b : Bool) → p y ≡ b → x ∈ cond b (y ∷ keep_if p xs) (keep_if p xs) → (x ∈ keep_if p xs → p x ≡ true) → p x ≡ true
      go true e (here q) f = ap p q ∙ e
      go true e (there m) f = f m
      go false e m f = f m

  pub keep_to : (p : A → Bool) (xs : List A) (x : A) → x ∈ xs → p x ≡ true → x ∈ keep_if p xs
  keep_to p [] x x4 e = elim x4 [ ]
  keep_to p (y ∷ xs) x (here q) e = rw (← q, e) (here refl)
  keep_to p (y ∷ xs) x (there m) e = go (p y) (keep_to p xs x m e)
    where
      go : (b : Bool) → x ∈ keep_if p xs → x ∈ cond b (y ∷ keep_if p xs) (keep_if p xs)
      go true k = there k
      go false k = k

  -- ---- `sort_by`

  inserted : (b : Bool) (x y z : A) (xs r : List A) → x ∈ cond b (z ∷ r) (y ∷ z ∷ xs) → (x ∈ r → (x ≡ y) ⊎ (x ∈ xs)) → (x ≡ y) ⊎ (x ∈ (z ∷ xs))
  inserted true x y z xs r (here e) f = inr (here e)
  inserted true x y z xs r (there m) f = case (f m) inl (λ k. inr (there k))
  inserted false x y z xs r (here e) f = inl e
  inserted false x y z xs r (there m) f = inr m

  pub insert_from : (before : A → A → Bool) (y : A) (xs : List A) (x : A) → x ∈ insert_by before y xs → (x ≡ y) ⊎ (x ∈ xs)
  insert_from before y [] x (here e) = inl e
  insert_from before y [] x (there m) = inr m
  insert_from before y (z ∷ xs) x m = inserted (before z y) x y z xs (insert_by before y xs) m (insert_from before y xs x)

  pub sort_from : (before : A → A → Bool) (xs : List A) (x : A) → x ∈ sort_by before xs → x ∈ xs
  sort_from before [] x m = elim m [ ]
  sort_from before (y ∷ xs) x m = case (insert_from before y (sort_by before xs) x m) here (λ k. there (sort_from before xs x k))

  -- ---- `firsts`

  pub firsts_from : (same : A → A → Bool) (seen xs : List A) (x : A) → x ∈ firsts same seen xs → x ∈ xs
  firsts_from same seen [] x m = elim m [ ]
  firsts_from same seen (y ∷ xs) x m = go (any (same y) seen) m (firsts_from same seen xs x) (firsts_from same (y ∷ seen) xs x)
    where
      go : (b : Bool) → x ∈ (elim b as (λ c. List A) [ true ↦ firsts same seen xs | false ↦ y ∷ firsts same (y ∷ seen) xs ]) → (x ∈ firsts same seen xs → x ∈ xs) → (x ∈ firsts same (y ∷ seen) xs → x ∈ xs) → x ∈ (y ∷ xs)
      go true m f g = there (f m)
      go false (here e) f g = here e
      go false (there m) f g = there (g m)

module _ {A B : Type 0} (f : A → B) where
  pub map_from : (xs : List A) (y : B) → y ∈ map f xs → (x : A) × (x ∈ xs) × (y ≡ f x)
  map_from [] y x' = elim x' [ ]
  map_from (z ∷ xs) y (here e) = (z, here refl, e)
  map_from (z ∷ xs) y (there m) = let (x, k, e) = map_from xs y m in (x, there k, e)

  pub map_to : (xs : List A) (x : A) → x ∈ xs → f x ∈ map f xs
  map_to [] x x3 = elim x3 [ ]
  map_to (z ∷ xs) x (here e) = here (ap f e)
  map_to (z ∷ xs) x (there m) = there (map_to xs x m)
