-- 0 is no record, and record k + 1 has its own place.
use Rattle.summaries.proofs.Steps.{join_0, join_some}
use Rattle.summaries.proofs.join_at.Goals as goal

pub returns-then-r-eq0 : goal.returns-then-r-eq0
returns-then-r-eq0 c = join_0 _ _ c.if-r-eq0.true

pub returns : goal.returns
returns c = join_some _ _ c.if-r-eq0.false
