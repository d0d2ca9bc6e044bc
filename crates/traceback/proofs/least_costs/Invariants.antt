-- The least of the states passed, from which the walk goes on.
use mathlib.Core.Path.{◌≡◌}
use Prim.Native.Nat.{ℕ, ◌-◌}
use lib.Ieee.{Float}
use Rattle.model.specs.Basics.{∞}
use Rattle.model.specs.Graph.{Graph}
use Rattle.model.specs.Path.{Table}
use Rattle.model.specs.Reads.{least_from}
use Rattle.traceback.specs.Table.{Walking}
use Rattle.traceback.proofs.least_costs.Given as goal

abbrev pub from : Graph → (cost ending : Float) → ℕ → Table → Float × Float
from g x y s ts = least_from g s ts (x, y)

abbrev pub whole : Graph → Table → Float × Float
whole g ts = least_from g 0 ts (∞, ∞)

abbrev pub invariant-loop-s : goal.invariant-loop-s
invariant-loop-s l = (g : Graph) → g.finals ≡ l.finals → Walking l.tokens l.sums l.side l.states l.s (from g l.cost l.ending) (whole g)

abbrev pub decreases-loop-s : goal.decreases-loop-s
decreases-loop-s l = l.states - l.s
