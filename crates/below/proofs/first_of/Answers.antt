-- The start has the list 0.
use Rattle.below.proofs.Marking.{first_none, first_some}
use Rattle.below.proofs.first_of.Goals as goal

pub returns-then-join-eq0 : goal.returns-then-join-eq0
returns-then-join-eq0 c = first_none _ _ c.if-join-eq0.true

pub returns : goal.returns
returns c = first_some _ _ c.if-join-eq0.false
