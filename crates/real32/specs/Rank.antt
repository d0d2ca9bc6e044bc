-- A value's place among those of its format, a number below 2 ^ 32 for binary32 and 2 ^ 64 for binary64: it grows strictly with the value, and is the same at -0 and +0.
-- Assumes nothing.
use Rattle.std.specs.Prelude.{ℕ, ◌+◌, ◌-◌, ◌*◌, ◌/◌, ◌^◌, true, false, ℤ}
use lib.Ieee.{Float, nan, inf, fin, Format, prec, low, hid, ones, top, up, down, size}

-- the magnitude's pattern, by how many units it is
abbrev pub mag : Format → ℕ → ℕ
mag f n = (size n - prec f) * hid f + n / 2 ^ (size n - prec f)

abbrev pub unit : Format → ℕ → ℤ → ℕ
unit f m e = m * up e * 2 ^ low f / down e

unfoldable pub rank : Format → Float → ℕ
rank f nan = 0
rank f (inf true) = top f - ones f * hid f
rank f (inf false) = top f + ones f * hid f
rank f (fin true m e) = top f - mag f (unit f m e)
rank f (fin false m e) = top f + mag f (unit f m e)
