-- `replay_calls::say_fitted` meets its contract: the decoder that was fitted goes on.
use mathlib.Core.Path.{refl}
use Rattle.replay_calls.proofs.say_fitted.Goals as goal

pub returns-in-Err : goal.returns-in-Err
returns-in-Err c = rw c.in-Err.is refl

pub returns-in-Ok : goal.returns-in-Ok
returns-in-Ok c = rw c.in-Ok.is c.say_called.ensures
