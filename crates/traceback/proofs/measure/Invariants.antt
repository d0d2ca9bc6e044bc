-- What is counted so far, and what is still to come.
use Rattle.traceback.specs.Walk.{Measuring}
use Rattle.traceback.proofs.measure.Given as goal

abbrev pub invariant-loop-r : goal.invariant-loop-r
invariant-loop-r l = Measuring l.records l.labels l.route l.n l.link l.words l.head l.r

abbrev pub decreases-loop-r : goal.decreases-loop-r
decreases-loop-r l = l.r
