-- How many: lists without repetition, and how many pass a test. Assumes nothing.
use Rattle.std.specs.Prelude.{◌≡◌, refl, suc, ◌+◌, ◌≤◌, Bool, true, false, not, List, [], ◌∷◌, ◌++◌, length}
use Rattle.std.proofs.Common.{sym, ap, ◌∙◌, subst, arith}
use mathlib.Core.List.Memᴰ.{head as here}
use mathlib.Core.List.Memᴰ.{tail as there}
use Rattle.lists.specs.Tests.{case, either}
use Rattle.lists.specs.Lists.{◌∈◌, count}

module _ {A : Type 0} where
  -- ---- lists without repetition

  abbrev pub Nodup : List A → Type 0
  Nodup [] = Unit {0}
  Nodup (x ∷ xs) = (x ∈ xs → ⊥) × Nodup xs

  -- the list without one of its members
  abbrev without : (x : A) (ys : List A) → x ∈ ys → List A
  without x [] x'' = elim x'' [ ]
  without x (y ∷ ys) (here e) = ys
  without x (y ∷ ys) (there m) = y ∷ without x ys m

  length_without : (x : A) (ys : List A) (m : x ∈ ys) → length ys ≡ suc (length (without x ys m))
  length_without x [] m = elim m [ ]
  length_without x (y ∷ ys) (here e) = refl
  length_without x (y ∷ ys) (there m) = ap suc (length_without x ys m)

  in_without : (x : A) (ys : List A) (m : x ∈ ys) (z : A) → z ∈ ys → (z ≡ x → ⊥) → z ∈ without x ys m
  in_without x [] m z _ d = elim m [ ]
  in_without x (y ∷ ys) (here e) z (here q) d = absurd (d (q ∙ sym e))
  in_without x (y ∷ ys) (here e) z (there n) d = n
  in_without x (y ∷ ys) (there m) z (here q) d = here q
  in_without x (y ∷ ys) (there m) z (there n) d = there (in_without x ys m z n d)

  -- a list without repetition is at most as long as one that has its members
  pub fewer : (xs ys : List A) → Nodup xs → ((z : A) → z ∈ xs → z ∈ ys) → length xs ≤ length ys
  fewer [] ys n f = omega arith
  fewer (x ∷ xs) ys n f =
      let m = f x (here refl) in
      let l = fewer xs (without x ys m) n.1 (λ z k. in_without x ys m z (f z (there k)) (λ e. n.0 (subst (λ (w : A). w ∈ xs) e k))) in
      omega (arith, length_without x ys m)

  pub as_many : (xs ys : List A) → Nodup xs → Nodup ys → ((z : A) → z ∈ xs → z ∈ ys) → ((z : A) → z ∈ ys → z ∈ xs) → length xs ≡ length ys
  as_many xs ys n k f g = omega (arith, fewer xs ys n f, fewer ys xs k g)

  -- ---- how many pass a test

  count_yes : (p : A → Bool) (x : A) (xs : List A) → p x ≡ true → count p (x ∷ xs) ≡ suc (count p xs)
  count_yes p x xs e = simp e

  count_no : (p : A → Bool) (x : A) (xs : List A) → p x ≡ false → count p (x ∷ xs) ≡ count p xs
  count_no p x xs e = simp e

  pub count-append : (p : A → Bool) (xs ys : List A) → count p (xs ++ ys) ≡ count p xs + count p ys
  count-append p [] ys = omega arith
  count-append p (x ∷ xs) ys =
      let r = count-append p xs ys in
      case (either (p x)) (λ e. omega (arith, count_yes p x (xs ++ ys) e, count_yes p x xs e)) (λ e. omega (arith, count_no p x (xs ++ ys) e, count_no p x xs e))

  pub count_split : (p : A → Bool) (xs : List A) → count p xs + count (λ x. not (p x)) xs ≡ length xs
  count_split p [] = refl
  count_split p (x ∷ xs) =
      let q : A → Bool = λ y. not (p y) in
      let r = count_split p xs in
      case (either (p x)) (λ e. omega (arith, count_yes p x xs e, count_no q x xs (ap not e))) (λ e. omega (arith, count_no p x xs e, count_yes q x xs (ap not e)))

  pub count_le : (p : A → Bool) (xs : List A) → count p xs ≤ length xs
  count_le p xs = omega (arith, count_split p xs)

  -- a weaker test passes at least as often
  pub count_mono : (p q : A → Bool) (xs : List A) → ((x : A) → x ∈ xs → p x ≡ true → q x ≡ true) → count p xs ≤ count q xs
  count_mono p q [] f = omega arith
  count_mono p q (x ∷ xs) f =
      let r = count_mono p q xs (λ y m. f y (there m)) in
      case (either (p x)) (λ e. omega (arith, count_yes p x xs e, count_yes q x xs (f x (here refl) e)))
      (λ e. case (either (q x)) (λ g. omega (arith, count_no p x xs e, count_yes q x xs g)) (λ g. omega (arith, count_no p x xs e, count_no q x xs g)))

  pub count_all : (p : A → Bool) (xs : List A) → ((x : A) → x ∈ xs → p x ≡ true) → count p xs ≡ length xs
  count_all p [] f = refl
  count_all p (x ∷ xs) f = count_yes p x xs (f x (here refl)) ∙ ap suc (count_all p xs (λ y m. f y (there m)))

  pub count_none : (p : A → Bool) (xs : List A) → ((x : A) → x ∈ xs → p x ≡ false) → count p xs ≡ 0
  count_none p [] f = refl
  count_none p (x ∷ xs) f = count_no p x xs (f x (here refl)) ∙ count_none p xs (λ y m. f y (there m))
