-- What the words passed say of the order, and the words from the cursors down, as many of one as of the other.
use Prim.Native.Nat.{◌≤◌}
use mathlib.Core.Path.{◌≡◌}
use lib.ListN.{length}
use Rattle.routes.specs.Back.{back_along}
use Rattle.routes.specs.Before.{before_by}
use Rattle.routes.proofs.before_along.Given as goal

abbrev pub invariant-loop-x : goal.invariant-loop-x
invariant-loop-x l =
    (l.p ≤ l.used) × (l.q ≤ l.used) × (length (back_along l.records l.labels l.ra l.p) ≡ length (back_along l.records l.labels l.rb l.q)) × (before_by (back_along l.records l.labels l.ra l.a) (back_along l.records l.labels l.rb l.b) l.newer ≡ before_by (back_along l.records l.labels l.ra l.p) (back_along l.records l.labels l.rb l.q) l.before)

abbrev pub decreases-loop-x : goal.decreases-loop-x
decreases-loop-x l =
    l.p
