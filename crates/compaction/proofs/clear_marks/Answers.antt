-- Each record passed has no mark.
use Rattle.compaction.proofs.Marking.{cleared_none, cleared_more}
use native.Mathlib.Omega.{arith}
use Rattle.compaction.proofs.clear_marks.Goals as goal

pub loop-k-init : goal.loop-k-init
loop-k-init c = cleared_none _

pub loop-k-preserved : goal.loop-k-preserved
loop-k-preserved c = cleared_more _ _ _ (omega arith) c.loop-k.invariant
