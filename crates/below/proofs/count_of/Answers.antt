-- The start's list has one path.
use Rattle.below.proofs.Marking.{count_none, count_some}
use Rattle.below.proofs.count_of.Goals as goal

pub returns-then-join-eq0 : goal.returns-then-join-eq0
returns-then-join-eq0 c = count_none _ _ c.if-join-eq0.true

pub returns : goal.returns
returns c = count_some _ _ c.if-join-eq0.false
