-- One store, of the join's count.
use Rattle.below.proofs.Marking.{marks_none, marks_one}
use native.Mathlib.Omega.{arith}
use Rattle.below.proofs.want.Goals as goal

pub returns-then-join-eq0 : goal.returns-then-join-eq0
returns-then-join-eq0 c = marks_none _ _ (λ j l e. omega arith)

pub returns : goal.returns
returns c = marks_one _ _ c.if-join-eq0.false (omega arith)
