-- What an answer of the search means, case by case. Assumes nothing.
use Rattle.std.specs.Prelude.{◌≡◌, ℕ, ◌≤◌, ◌<◌, List, ℤ, length, Option, Some, None, Result, Ok, Err}
use Rattle.std.proofs.Common.{sym, arith}
use Rattle.std.proofs.Math.Option.{Option as Maybe, none, some}
use Rattle.model.specs.Basics.{Outcome, ok, refused}
use Rattle.model.specs.Search.{Listing, first_reading}
use Rattle.model.proofs.Search.{first_is, readings-length}
use Rattle.refusals.specs.Numbers.{number_of}
use Rattle.refusals.specs.declared.Reason.{Reason}

abbrev pub listing : List ℕ → List ℤ → Listing
listing ends words = record { ends = ends; words = words }

-- an index, none, or a refusal by its number
abbrev pub found_of : Result (Option ℕ) Reason → Outcome (Maybe ℕ)
found_of (Ok (Some i)) = ok (some i)
found_of (Ok None) = ok none
found_of (Err e) = refused (number_of e)

-- an index, if it is one, is below n
abbrev pub Below : ℕ → Result (Option ℕ) Reason → Type 0
Below n (Ok (Some i)) = i < n
Below n (Ok None) = Unit {0}
Below n (Err e) = Unit {0}

-- what is found is one of the readings; n is at least their number
pub found_below : (w : ℤ) (l : Listing) (n : ℕ) (r : Result (Option ℕ) Reason) → length l.ends ≤ n → found_of r ≡ first_reading w l → Below n r
found_below w l n (Ok (Some i)) h e = let k = (first_is w l i (sym e)).listed in omega (arith, readings-length 0 l.ends l.words)
found_below w l n (Ok None) h e = tt
found_below w l n (Err k) h e = tt
