-- No state passed is final.
use mathlib.Core.Path.{◌≡◌}
use Prim.Native.Nat.{◌-◌}
use mathlib.Core.List.{List}
use lib.Ieee.{Float}
use Rattle.model.specs.Graph.{Graph}
use Rattle.model.specs.Reads.{any_final}
use Rattle.traceback.specs.Table.{Walking}
use Rattle.traceback.proofs.finals_count.Given as goal

abbrev pub invariant-loop-s : goal.invariant-loop-s
invariant-loop-s l = (g : Graph) → g.finals ≡ l.finals → (sm : List Float) → Walking l.tokens sm l.side l.states l.s (any_final g) (any_final g 0)

abbrev pub decreases-loop-s : goal.decreases-loop-s
decreases-loop-s l = l.states - l.s
