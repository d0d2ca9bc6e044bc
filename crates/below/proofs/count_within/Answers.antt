-- The margin's test.
use mathlib.Core.Path.{refl}
use Rattle.below.proofs.count_within.Goals as goal

pub returns-then-cost-margin : goal.returns-then-cost-margin
returns-then-cost-margin c = rw c.if-cost-margin.true c.count_of.ensures

pub returns : goal.returns
returns c = rw c.if-cost-margin.false refl
