-- The words from the record are those from the cursor down, since no record passed has one.
use Prim.Native.Nat.{◌≤◌}
use mathlib.Core.Path.{◌≡◌}
use Rattle.routes.specs.Back.{back_along}
use Rattle.routes.proofs.next_on.Given as goal

abbrev pub invariant-loop-r : goal.invariant-loop-r
invariant-loop-r l =
    (l.r ≤ l.link) × (back_along l.records l.labels l.route l.link ≡ back_along l.records l.labels l.route l.r)

abbrev pub decreases-loop-r : goal.decreases-loop-r
decreases-loop-r l =
    l.r
