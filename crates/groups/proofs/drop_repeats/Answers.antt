-- Those from the j-th sorted place on are judged, and what the others stand for is untouched.
use Rattle.groups.specs.Laws.{dropped_next}
use Rattle.groups.proofs.drop_repeats.Goals as goal

pub loop-j-preserved : goal.loop-j-preserved
loop-j-preserved c = dropped_next c.requires.0 c.loop-j.invariant c.loop-j-test.true _ c.repeats-again.ensures _ c.drop_at.ensures
