-- What is written of the records passed, and what is still to come.
use Rattle.traceback.specs.Write.{Writing}
use Rattle.traceback.proofs.write.Given as goal

abbrev pub invariant-loop-r : goal.invariant-loop-r
invariant-loop-r l = Writing l.records l.labels l.route l.n l.link l.size l.initial.words l.initial.frames l.initial.segments l.words l.frames l.segments l.at l.head l.r

abbrev pub decreases-loop-r : goal.decreases-loop-r
decreases-loop-r l = l.r
