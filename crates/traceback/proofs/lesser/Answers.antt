-- By its test.
use Rattle.real32.specs.Least.{fmin}
use Rattle.traceback.proofs.lesser.Goals as goal

pub returns-then-y-x : goal.returns-then-y-x
unfolding fmin
returns-then-y-x c = simp c.if-y-x.true

pub returns-else-y-x : goal.returns-else-y-x
unfolding fmin
returns-else-y-x c = simp c.if-y-x.false
