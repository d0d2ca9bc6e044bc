-- Lists: the definitions that the library lacks. Assumes nothing.
use Rattle.std.specs.Prelude.{ℕ, zero, suc, ◌+◌, Bool, true, false, ◌&&◌, ◌||◌, cond, length}
use mathlib.Core.List.{List, [], ◌∷◌, Memᴰ}

module _ {ℓ} {A : Type ℓ} where
  infix 36 ◌∈◌
  abbrev pub ◌∈◌ : A → List A → Type ℓ
  x ∈ xs = Memᴰ x xs

  abbrev pub any : (A → Bool) → List A → Bool
  any p [] = false
  any p (x ∷ xs) = p x || any p xs

  abbrev pub all : (A → Bool) → List A → Bool
  all p [] = true
  all p (x ∷ xs) = p x && all p xs

  abbrev pub keep_if : (A → Bool) → List A → List A
  keep_if p [] = []
  keep_if p (x ∷ xs) = let r = keep_if p xs in cond (p x) (x ∷ r) r

  -- how many pass a test
  abbrev pub count : (A → Bool) → List A → ℕ
  count p xs = length (keep_if p xs)

  -- x into a sorted list: behind those that stand strictly before it
  abbrev pub insert_by : (A → A → Bool) → A → List A → List A
  insert_by before x [] = x ∷ []
  insert_by before x (y ∷ ys) = cond (before y x) (y ∷ insert_by before x ys) (x ∷ y ∷ ys)

  -- sorted by a strict order, and stable: of two equals the one that stood first stays first
  abbrev pub sort_by : (A → A → Bool) → List A → List A
  sort_by before [] = []
  sort_by before (x ∷ xs) = insert_by before x (sort_by before xs)

  -- of each class the first: `seen` are the ones before
  abbrev pub firsts : (A → A → Bool) → List A → List A → List A
  firsts same seen [] = []
  firsts same seen (x ∷ xs) = elim (any (same x) seen) [ true ↦ firsts same seen xs | false ↦ x ∷ firsts same (x ∷ seen) xs ]

  abbrev pub eq_list : (A → A → Bool) → List A → List A → Bool
  eq_list same [] [] = true
  eq_list same [] (y ∷ ys) = false
  eq_list same (x ∷ xs) [] = false
  eq_list same (x ∷ xs) (y ∷ ys) = same x y && eq_list same xs ys

-- n numbers from a on
abbrev pub range : ℕ → ℕ → List ℕ
range a zero = []
range a (suc n) = a ∷ range (suc a) n

abbrev pub sum : List ℕ → ℕ
sum [] = 0
sum (x ∷ xs) = x + sum xs
