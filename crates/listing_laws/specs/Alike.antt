-- Lists by tests that agree on their members, under maps that keep an order, and without repetition. Assumes nothing.
use Rattle.std.specs.Prelude.{◌≡◌, refl, ℕ, ◌≤◌, ◌<◌, Bool, true, false, ◌||◌, cond, List, [], ◌∷◌, ◌++◌, map, length, get_or, take}
use Rattle.std.proofs.Common.{sym, ap, ap₂, ◌∙◌, subst, arith, length-take-le, get_or-take}
use mathlib.Core.List.Memᴰ
use mathlib.Core.List.Memᴰ.{head as here}
use mathlib.Core.List.Memᴰ.{tail as there}
use Rattle.lists.specs.Tests.{case, never}
use Rattle.lists.specs.Lists.{◌∈◌, any, keep_if, firsts}
use Rattle.lists.specs.Members.{at_member, keep_from, map_from, map_to}
use Rattle.lists.specs.Order.{Sorted}
use Rattle.lists.specs.Firsts.{Apart}
use Rattle.lists.specs.Count.{Nodup}

-- one of the first n
pub at_front : (xs : List ℕ) (n i : ℕ) → n ≤ length xs → i < n → get_or xs i 0 ∈ take n xs
at_front xs n i l u = let z = length-take-le n xs l in subst (λ (x : ℕ). x ∈ take n xs) (get_or-take n xs i 0 u) (at_member (take n xs) i 0 (omega arith))

-- ---- tests that agree on the members

module _ {A : Type 0} where
  -- one that passes
  pub any_as : (p q : A → Bool) (xs : List A) → ((x : A) → x ∈ xs → p x ≡ q x) → any p xs ≡ any q xs
  any_as p q [] e = refl
  any_as p q (x ∷ xs) e = ap₂ (λ (a b : Bool). a || b) (e x (here refl)) (any_as p q xs (λ y m. e y (there m)))

  -- the first of each class
  pub firsts_as : (like alike : A → A → Bool) (P : A → Type 0) → ((x y : A) → P x → P y → like x y ≡ alike x y) → (seen xs : List A) → ((x : A) → x ∈ seen → P x) → ((x : A) → x ∈ xs → P x) → firsts like seen xs ≡ firsts alike seen xs
  firsts_as like alike P e seen [] p q = refl
  firsts_as like alike P e seen (x ∷ xs) p q =
      go (firsts_as like alike P e seen xs p (λ y m. q y (there m))) (firsts_as like alike P e (x ∷ seen) xs grown (λ y m. q y (there m)))
      (any (like x) seen) (any (alike x) seen) (any_as (like x) (alike x) seen (λ y m. e x y (q x (here refl)) (p y m)))
    where
      grown : (y : A) → y ∈ (x ∷ seen) → P y
      grown y (here k) = subst P (sym k) (q x (here refl))
      grown y (there m) = p y m

      go : firsts like seen xs ≡ firsts alike seen xs → firsts like (x ∷ seen) xs ≡ firsts alike (x ∷ seen) xs → (a b : Bool) → a ≡ b
          → ◌≡◌ {A = List A} (elim a as (λ z. List A) [ true ↦ firsts like seen xs | false ↦ x ∷ firsts like (x ∷ seen) xs ]) (elim b as (λ z. List A) [ true ↦ firsts alike seen xs | false ↦ x ∷ firsts alike (x ∷ seen) xs ])
      go again more true true w = again
      go again more true false w = never (sym w)
      go again more false true w = never w
      go again more false false w = ap (λ (l : List A). x ∷ l) more

-- ---- sorted lists

-- under a map that keeps the order
pub sorted-map : {A B : Type 0} (before : A → A → Bool) (after : B → B → Bool) (f : A → B) (xs : List A) → ((x y : A) → x ∈ xs → y ∈ xs → before x y ≡ false → after (f x) (f y) ≡ false) → Sorted before xs → Sorted after (map f xs)
sorted-map before after f [] e s = tt
sorted-map {B = B} before after f (x ∷ xs) e s =
    (λ y m. let (z, i, q) = map_from f xs y m in ap (λ (b : B). after b (f x)) q ∙ e z x (there i) (here refl) (s.0 z i), sorted-map before after f xs (λ u v i j. e u v (there i) (there j)) s.1)

-- what is left out does not matter
pub sorted_keep : {A C : Type 0} (before : C → C → Bool) (p : A → C) (t : A → Bool) (xs : List A) → Sorted before (map p xs) → Sorted before (map p (keep_if t xs))
sorted_keep before p t [] s = tt
sorted_keep {A} {C} before p t (x ∷ xs) s = go (t x) (sorted_keep before p t xs s.1)
  where
    go : (b : Bool) → Sorted before (map p (keep_if t xs)) → Sorted before (map p (cond b (x ∷ keep_if t xs) (keep_if t xs)))
    go true r = (λ y m. let (z, i, e) = map_from p (keep_if t xs) y m in s.0 y (subst (λ (c : C). c ∈ map p xs) (sym e) (map_to p xs z (keep_from t xs z i))), r)
    go false r = r

-- ---- lists without repetition

module _ {A : Type 0} where
  -- some of them
  pub nodup_keep : (p : A → Bool) (xs : List A) → Nodup xs → Nodup (keep_if p xs)
  nodup_keep p [] n = tt
  nodup_keep p (x ∷ xs) n = go (p x) (nodup_keep p xs n.1)
    where
      go : (b : Bool) → Nodup (keep_if p xs) → Nodup (cond b (x ∷ keep_if p xs) (keep_if p xs))
      go true r = (λ m. n.0 (keep_from p xs x m), r)
      go false r = r

  -- two lists that share nothing
  pub nodup_append : (xs ys : List A) → Nodup xs → Nodup ys → ((x : A) → x ∈ xs → x ∈ ys → ⊥) → Nodup (xs ++ ys)
  nodup_append [] ys n m d = m
  nodup_append (x ∷ xs) ys n m d = (λ k. case (Memᴰ.append_cases xs k) n.0 (d x (here refl)), nodup_append xs ys n.1 m (λ y k. d y (there k)))

  -- one entry of a key
  pub one_of : {K : Type 0} (key : A → K) (xs : List A) → Nodup (map key xs) → (x y : A) → x ∈ xs → y ∈ xs → key x ≡ key y → x ≡ y
  one_of {K = K} key [] n x y x6 _ e = elim x6 [ ]
  one_of key (z ∷ xs) n x y (here p) (here q) e = p ∙ sym q
  one_of {K} key (z ∷ xs) n x y (here p) (there k) e = absurd (n.0 (subst (λ (j : K). j ∈ map key xs) (sym e ∙ ap key p) (map_to key xs y k)))
  one_of {K} key (z ∷ xs) n x y (there m) (here q) e = absurd (n.0 (subst (λ (j : K). j ∈ map key xs) (e ∙ ap key q) (map_to key xs x m)))
  one_of key (z ∷ xs) n x y (there m) (there k) e = one_of key xs n.1 x y m k e

  -- one entry of a class
  pub apart_one : (same : A → A → Bool) (xs : List A) → Apart same xs → (x y : A) → x ∈ xs → y ∈ xs → same x y ≡ true → same y x ≡ true → x ≡ y
  apart_one same [] a x y x7 _ e f = elim x7 [ ]
  apart_one same (z ∷ xs) a x y (here p) (here q) e f = p ∙ sym q
  apart_one same (z ∷ xs) a x y (here p) (there n) e f = never (sym (a.0 y n) ∙ ap (same y) (sym p) ∙ f)
  apart_one same (z ∷ xs) a x y (there m) (here q) e f = never (sym (a.0 x m) ∙ ap (same x) (sym q) ∙ e)
  apart_one same (z ∷ xs) a x y (there m) (there n) e f = apart_one same xs a.1 x y m n e f

  -- so no name comes twice, if two of one name are the same
  pub apart_names : {B : Type 0} (same : A → A → Bool) (name : A → B) (xs : List A) → ((x y : A) → x ∈ xs → y ∈ xs → name x ≡ name y → same x y ≡ true) → Apart same xs → Nodup (map name xs)
  apart_names same name [] h a = tt
  apart_names same name (x ∷ xs) h a =
      (λ m. let (y, n, e) = map_from name xs (name x) m in never (sym (a.0 y n) ∙ h y x (there n) (here refl) (sym e)), apart_names same name xs (λ y z m n. h y z (there m) (there n)) a.1)
