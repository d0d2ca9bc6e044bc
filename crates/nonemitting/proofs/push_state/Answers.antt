-- A state without epsilon arcs stays off the queue.
use mathlib.Core.Path.{refl}
use Rattle.nonemitting.specs.Pushes.{state_stays, state_pushed}
use Rattle.nonemitting.proofs.push_state.Goals as goal

pub returns-then-eps-s-eq0 : goal.returns-then-eps-s-eq0
returns-then-eps-s-eq0 c = state_stays c.if-eps-s-eq0.true refl

pub returns : goal.returns
returns c = state_pushed c.if-eps-s-eq0.false c.push.ensures
