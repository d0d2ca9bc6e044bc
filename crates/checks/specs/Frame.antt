-- The number that a frame is refused by before its passes. Assumes nothing.
use Rattle.std.specs.Prelude.{◌≡◌, ℕ, suc, ◌+◌, ◌<◌, Bool, not, ◌&&◌, List, [], ◌∷◌, leb, eqb, length, get_or, drop, Float, Result, Ok, Err}
use Rattle.std.proofs.Common.{ap, ◌∙◌, arith, drop-cons}
use Rattle.std.proofs.Math.Option.{Option, none, some}
use Rattle.lists.specs.Lists.{all}
use Rattle.real32.specs.Small.{tame}
use Rattle.model.specs.Basics.{first_of, refuse}
use Rattle.refusals.specs.declared.Reason.{Reason}
use Rattle.refusals.specs.Numbers.{number_of as reason_number}

-- every log-likelihood, one after the other
pub all_next : (p : Float → Bool) (xs : List Float) (i : ℕ) (d : Float) → i < length xs → all p (drop i xs) ≡ (p (get_or xs i d) && all p (drop (i + 1) xs))
all_next p xs i d l =
    let one : suc i ≡ i + 1 = omega arith in
    ap (all p) (drop-cons xs i d l) ∙ ap (λ (k : ℕ). p (get_or xs i d) && all p (drop k xs)) one

-- the number that a frame is refused by before its passes; 0 for none
abbrev pub number_of : Option ℕ → ℕ
number_of none = 0
number_of (some n) = n

abbrev pub numbered : (a b t : Bool) → ℕ
numbered a b t = number_of (first_of (refuse 10 a ∷ refuse 8 b ∷ refuse 9 t ∷ []))

abbrev pub frame_number : (loglikes : List Float) → (frames pdfs : ℕ) → ℕ
frame_number ls n pdfs = numbered (leb 65_536 n) (not (eqb (length ls) pdfs)) (not (all tame ls))

-- the number of the reason that a check gives; 0 for none
abbrev pub told : Result (Unit {0}) Reason → ℕ
told (Ok x) = 0
told (Err e) = reason_number e
