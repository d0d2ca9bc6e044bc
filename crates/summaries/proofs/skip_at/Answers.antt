-- 0 is no record, and record k + 1 has its own place.
use Rattle.summaries.proofs.Steps.{skip_0, skip_some}
use Rattle.summaries.proofs.skip_at.Goals as goal

pub returns-then-r-eq0 : goal.returns-then-r-eq0
returns-then-r-eq0 c = skip_0 _ _ c.if-r-eq0.true

pub returns : goal.returns
returns c = skip_some _ _ c.if-r-eq0.false
