-- What the functions of the program ask of one another. Assumes nothing.
use Rattle.std.specs.Prelude.{◌≡◌, ℕ, ◌+◌, ◌*◌, ◌≤◌, Option, Some, None, Result, Ok, Err}
use Rattle.silence_weighting.specs.declared.Weighed.{Weighed}
use Rattle.refusals.specs.declared.Reason.{Reason}

-- with the phones' number before them the lists fill the payload
abbrev pub FillUp : ℕ → Option (ℕ × ℕ) → Type 0
FillUp count (Some n) = 1 + n.0 + 3 * n.1 ≡ count
FillUp count None = Unit {0}

-- the differences of an answer are at most n
abbrev pub CountWithin : ℕ → Result Weighed Reason → Type 0
CountWithin n (Err e) = Unit {0}
CountWithin n (Ok w) = w.count ≤ n
