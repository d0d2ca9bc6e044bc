-- The paths so far.
use Prim.Native.Nat.{◌-◌}
use Rattle.readings.specs.Paths.{cost_in, outputs}
use Rattle.readings.specs.Writing.{Going}
use Rattle.readings.proofs.write_all.Given as goal

abbrev pub invariant-loop-i : goal.invariant-loop-i
invariant-loop-i l =
    Going l.tokens l.records l.labels l.side l.n (cost_in l.sums l.finals l.side l.counts) l.order l.k l.i l.at (outputs l.initial.words l.initial.frames l.initial.segments l.initial.ends l.initial.costs) (outputs l.words l.frames l.segments l.ends l.costs)

abbrev pub decreases-loop-i : goal.decreases-loop-i
decreases-loop-i l =
    l.k - l.i
