-- A line has at most 96 bytes, and tells its refusal. Assumes nothing.
use Rattle.std.specs.Prelude.{ℕ, false}
use Rattle.decimals.specs.declared.Numbers.{Numbers}
use Rattle.refusals.specs.declared.Place.{Place}
use Rattle.refusals.specs.declared.Place.TheVariants.{Nowhere, AtArc, AtState, AtFrames}

-- ---- the numbers of a line

abbrev pub just : ℕ → Numbers
just n = record { inside = false; first = 0; second = 0; third = n }

-- a number and its place, as they are found
abbrev pub found : ℕ → Place → Numbers
found n Nowhere = just n
found n (AtArc state arc) = record { inside = false; first = n; second = state; third = arc }
found n (AtState state) = record { inside = false; first = 0; second = n; third = state }
found n (AtFrames frames) = record { inside = false; first = 0; second = n; third = frames }
