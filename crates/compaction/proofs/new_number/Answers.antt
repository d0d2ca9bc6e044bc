-- 0 has no mark, and record k + 1 has its own.
use Rattle.compaction.proofs.Marking.{new_none, new_some}
use Rattle.compaction.proofs.new_number.Goals as goal

pub returns-then-r-eq0 : goal.returns-then-r-eq0
returns-then-r-eq0 c = new_none _ _ c.if-r-eq0.true

pub returns : goal.returns
returns c = new_some _ _ c.if-r-eq0.false
