-- The first of one slice in another. Assumes nothing.
use Rattle.std.specs.Prelude.{◌≡◌, refl, ℕ, ◌+◌, ◌≤◌, ◌<◌, List, [], ◌∷◌, ◌++◌, length, get_or, take, drop, set}
use Rattle.std.proofs.Common.{sym, ap, ◌∙◌, add-one, length-append, length-take-le, take-append-drop, take-suc, take-suc-set}
use Rattle.std.proofs.lemmas.List.{take_at}
use Rattle.listing.specs.Listed.{Copied}

-- none yet
pub copied_none : (from to' : List ℕ) → Copied from to' 0
copied_none from to' = record { is = none to' ∙ sym (none from) }
  where
    none : (xs : List ℕ) → take 0 xs ≡ []
    none [] = refl
    none (x ∷ xs) = refl

-- one more
pub copied_more : {from to' : List ℕ} {i : ℕ} → Copied from to' i → i < length from → i < length to' → Copied from (set to' i (get_or from i 0)) (i + 1)
copied_more {from} {to'} {i} C l k =
    record { is = rw add-one (take-suc-set to' i (get_or from i 0) k ∙ ap (λ (xs : List ℕ). xs ++ (get_or from i 0 ∷ [])) C.is ∙ sym (take-suc from i 0 l)) }

-- where they stand in front
pub copied_front : {from ys : List ℕ} {n : ℕ} (rest : List ℕ) → n ≤ length from → ys ≡ take n from → Copied from (ys ++ rest) n
copied_front {from} {ys} {n} rest l e = record { is = take_at ys rest n (ap length e ∙ length-take-le n from l) ∙ e }

-- the slice is as long as it was
pub copied_long : (to' ys : List ℕ) (n : ℕ) → length ys ≡ length (take n to') → length (ys ++ drop n to') ≡ length to'
copied_long to' ys n e = length-append ys (drop n to') ∙ ap (λ (k : ℕ). k + length (drop n to')) e ∙ sym (length-append (take n to') (drop n to')) ∙ ap length (take-append-drop n to')
