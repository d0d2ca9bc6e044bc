-- The search of a word in a reading list: the first reading that contains it.
use Rattle.std.proofs.Math.Path.{◌≡◌}
use Rattle.std.specs.Prelude.{refl, ℕ, zero, suc, ◌+◌, ◌-◌, ◌≤◌, true, false, List, [], ◌∷◌, ℤ, length, get_or}
use Rattle.std.proofs.Common.{sym, ap, ◌∙◌, arith}
use Rattle.std.proofs.Math.Option.{Option, none, some}
use Rattle.lists.specs.Tests.{case, either, never}
use Rattle.model.specs.Basics.{ok}
use Rattle.model.specs.Search.{Listing, parts_wrong, readings_from, readings_of, contains, first_from, first_reading, IsFirst, Walked}

walked : (i : ℕ) (w : ℤ) (rs : List (List ℤ)) → Walked i w rs (first_from i w rs)
walked i w [] = λ k. refl
walked i w (r ∷ rs) =
    case (either (contains w r))
    (λ t. rw t (0, omega arith, record { listed = omega arith; has = t; least = λ m e. omega arith }))
    (λ f. rw f (later f (first_from (i + 1) w rs) (walked (i + 1) w rs)))
  where
    later : contains w r ≡ false → (o : Option ℕ) → Walked (i + 1) w rs o → Walked i w (r ∷ rs) o
    later f none g = nowhere
      where
        nowhere : (k : ℕ) → contains w (get_or (r ∷ rs) k []) ≡ false
        nowhere zero = f
        nowhere (suc k) = g k
    later f (some n) (k, e, g) = (suc k, omega arith, record { listed = let h = g.listed in omega arith; has = g.has; least = least_of_lem })
      where
        least_of_lem : (m : ℕ) → contains w (get_or (r ∷ rs) m []) ≡ true → suc k ≤ m
        least_of_lem zero e = never (sym f ∙ e)
        least_of_lem (suc m) e = let h = g.least m e in omega arith

module _ (w : ℤ) (l : Listing) where
  accepted : (o : Option ℕ) → first_reading w l ≡ ok o → first_from 0 w (readings_of l) ≡ o
  unfolding first_reading
  accepted o e =
      case (either (parts_wrong 0 (length l.words) l.ends))
      (λ t. let f = rw t at e in let z : ◌≡◌ {A = ℕ} 0 1 = cc in absurd (omega arith))
      (λ t. let f = rw t at e in cc)

  -- the index given is that of a reading with the word, and at most that of any other
  pub first_is : (n : ℕ) → first_reading w l ≡ ok (some n) → IsFirst w (readings_of l) n
  first_is n e =
      let (k, q, f) = rw (accepted (some n) e) at (walked 0 w (readings_of l)) in
      let z : k ≡ n = omega arith in
      rw z at f

  -- none is given only where no reading has it
  pub none_has : first_reading w l ≡ ok none → (k : ℕ) → contains w (get_or (readings_of l) k []) ≡ false
  none_has e = rw (accepted none e) at (walked 0 w (readings_of l))

pub readings-length : (from : ℕ) (ends : List ℕ) (words : List ℤ) → length (readings_from from ends words) ≡ length ends
readings-length from [] words = refl
readings-length from (e ∷ es) words = ap suc (readings-length e es words)
