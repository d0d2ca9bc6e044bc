-- A table of numbers, row by row in one list, and its transposition. Assumes nothing.
use Rattle.std.specs.Prelude.{get_or}
use Prim.Native.Nat.{ℕ, ◌+◌, ◌*◌}
use mathlib.Core.List.{List, map, flat_map}
use Rattle.lists.specs.Lists.{range}

-- the numbers of column c, from the first row to the last
abbrev pub column : (rows columns : ℕ) → List ℕ → ℕ → List ℕ
column rows columns table c = map (λ r. get_or table (r * columns + c) 0) (range 0 rows)

-- the columns, from the first to the last: what were columns are rows
unfoldable pub transpose : (rows columns : ℕ) → List ℕ → List ℕ
transpose rows columns table = flat_map (column rows columns table) (range 0 columns)
