-- A part of a list, a run of stores, and lists made over a range. Assumes nothing.
use Rattle.std.specs.Prelude.{◌≡◌, refl, ℕ, zero, suc, ◌+◌, ◌-◌, ◌≤◌, ◌<◌, List, [], ◌∷◌, ◌++◌, map, length, get_or, take, drop, set}
use Rattle.std.proofs.Common.{sym, ap, ap₂, ◌∙◌, subst, arith, zero-add, add-zero, suc-add, add-suc, length-drop, length-take-le, get_or-take, get_or-drop}
use mathlib.Core.List.Memᴰ.{head as here}
use mathlib.Core.List.Memᴰ.{tail as there}
use Rattle.std.proofs.lemmas.List.Edits.{sets}
use Rattle.lists.specs.Lists.{◌∈◌, range}

pub part_length : {A : Type 0} (xs : List A) (a e n : ℕ) → length xs ≡ n → a ≤ e → e ≤ n → length (take (e - a) (drop a xs)) ≡ e - a
part_length xs a e n l h k = length-take-le (e - a) (drop a xs) (simp length-drop (omega arith))

pub part_at : {A : Type 0} (xs : List A) (a n i : ℕ) (d : A) → i < n → get_or (take n (drop a xs)) (0 + i) d ≡ get_or xs (a + i) d
part_at xs a n i d h = ap (λ (k : ℕ). get_or (take n (drop a xs)) k d) (zero-add i) ∙ get_or-take n (drop a xs) i d h ∙ get_or-drop a xs i d

pub sets_append : {A : Type 0} (l : List A) (i : ℕ) (xs ys : List A) → sets l i (xs ++ ys) ≡ sets (sets l i xs) (i + length xs) ys
sets_append l i [] ys = rw add-zero
sets_append l i (x ∷ xs) ys = let e : suc i + length xs ≡ i + suc (length xs) = omega arith in rw (← e) (sets_append (set l i x) (suc i) xs ys)

pub in_range : {A : Type 0} (f : ℕ → A) (a n i : ℕ) → i < n → f (a + i) ∈ map f (range a n)
in_range f a zero i h = absurd (omega arith)
in_range f a (suc n) zero h = here (ap f (add-zero a))
in_range f a (suc n) (suc i) h = there (subst (λ (k : ℕ). f k ∈ map f (range (suc a) n)) (suc-add a i ∙ sym (add-suc a i)) (in_range f (suc a) n i (omega arith)))

pub range_many : {A : Type 0} (f : ℕ → A) (a n : ℕ) → length (map f (range a n)) ≡ n
range_many f a zero = refl
range_many f a (suc n) = ap suc (range_many f (suc a) n)

pub range_at : {A : Type 0} (f : ℕ → A) (a n i : ℕ) (d : A) → i < n → get_or (map f (range a n)) i d ≡ f (a + i)
range_at f a zero i d h = absurd (omega arith)
range_at f a (suc n) zero d h = ap f (omega arith)
range_at f a (suc n) (suc i) d h = range_at f (suc a) n i d (omega arith) ∙ ap f (omega arith)

-- two functions that agree, from a on and from b on
pub ranges_alike : {A : Type 0} (f g : ℕ → A) (a b n : ℕ) → ((i : ℕ) → i < n → f (a + i) ≡ g (b + i)) → map f (range a n) ≡ map g (range b n)
ranges_alike f g a b zero h = refl
ranges_alike {A} f g a b (suc n) h =
    ap₂ (λ (x : A) (xs : List A). x ∷ xs) (rw (add-zero a, add-zero b) at (h 0 (omega arith)))
    (ranges_alike f g (suc a) (suc b) n (λ i l. rw (suc-add a i, suc-add b i, ← add-suc a i, ← add-suc b i) (h (suc i) (omega arith))))
