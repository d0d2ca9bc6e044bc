-- What the functions of the program ask of one another. Assumes nothing.
use Rattle.std.specs.Prelude.{◌≡◌, ℕ, ◌+◌, Option, Some, None}

-- with the three words beside them the lists fill the payload
abbrev pub FillUp : ℕ → Option (ℕ × ℕ) → Type 0
FillUp count (Some n) = n.0 + n.1 + 3 ≡ count
FillUp count None = Unit {0}
