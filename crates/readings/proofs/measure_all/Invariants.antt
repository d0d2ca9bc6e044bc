-- The sizes so far.
use Prim.Native.Nat.{◌-◌, ◌≤◌}
use Rattle.readings.specs.Paths.{TotalIs, size_by}
use Rattle.readings.proofs.measure_all.Given as goal

abbrev pub invariant-loop-i : goal.invariant-loop-i
invariant-loop-i l =
    (l.i ≤ l.k) × TotalIs l.tokens l.records l.labels l.side l.used l.n l.order l.i (size_by l.words l.segments)

abbrev pub decreases-loop-i : goal.decreases-loop-i
decreases-loop-i l =
    l.k - l.i
