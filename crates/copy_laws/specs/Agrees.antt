-- Where a metered run accepts, the unlimited one gives the same; where it refuses, so does the unlimited one by the same number, or the number is a store's. Assumes nothing.
use Rattle.std.specs.Prelude.{Bool, ◌||◌, eqb}
use Prim.Native.Nat.{ℕ}
use Rattle.model.specs.Path.{unlimited}
use Rattle.model.specs.Arrive.{Here}
use Rattle.model.specs.Passes.{frame}

-- ---- two outcomes

-- 13 or 14: a start or frame meets no 15
abbrev pub of_store : ℕ → Bool
of_store n = eqb n 13 || eqb n 14

-- ---- an arriving arc

abbrev pub free : Here → Here
free h = record { graph = h.graph; limits = unlimited; margin = h.margin; frame = h.frame; before = h.before }
