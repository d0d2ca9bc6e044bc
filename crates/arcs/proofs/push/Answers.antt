-- A push, or a full queue.
use mathlib.Core.Path.{refl}
use Rattle.arcs.specs.Passed.{push_full, push_on}
use Rattle.arcs.proofs.push.Goals as goal

pub returns-then-queue-n : goal.returns-then-queue-n
returns-then-queue-n c = push_full c.if-queue-n.true refl

pub returns : goal.returns
returns c = push_on c.if-queue-n.false refl
