-- One store, of the record's mark.
use Rattle.compaction.proofs.Marking.{mark_some}
use native.Mathlib.Omega.{arith}
use Rattle.compaction.proofs.mark.Goals as goal

pub returns : goal.returns
returns c = mark_some _ _ c.if-r-eq0.false (omega arith)
