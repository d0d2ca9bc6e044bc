-- `replay_calls::say_called` meets its contract: what a call gave back goes on.
use mathlib.Core.Path.{refl}
use Rattle.replay_calls.proofs.say_called.Goals as goal

pub returns-in-Done : goal.returns-in-Done
returns-in-Done c = rw (c.in-Done.is, c.say_done.ensures) refl

pub returns-in-Refused : goal.returns-in-Refused
returns-in-Refused c = rw c.in-Refused.is c.say_refused.ensures
