-- 0 is no record, and record k + 1 has its own places.
use Rattle.summaries.proofs.Steps.{key_0, key_join, key_whole}
use Rattle.summaries.proofs.key_at.Goals as goal

pub returns-then-r-eq0 : goal.returns-then-r-eq0
returns-then-r-eq0 c = key_0 _ _ _ c.if-r-eq0.true

pub returns-then-to_join : goal.returns-then-to_join
returns-then-to_join c = key_join _ _ _ c.if-r-eq0.false c.if-to_join.true

pub returns : goal.returns
returns c = key_whole _ _ _ c.if-r-eq0.false c.if-to_join.false
