-- `replay_calls::calls::frame` meets its contract.
use Rattle.replay_calls.specs.Held.{called_left}
use Rattle.replay_calls.proofs.calls.frame.Goals as goal

pub returns : goal.returns
returns c = called_left _ _ _ _ _ _ _ _ _ c.frame-called.ensures.answer c.say_called.ensures
