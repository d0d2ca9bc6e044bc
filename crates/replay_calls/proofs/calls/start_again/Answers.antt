-- `replay_calls::calls::start_again` meets its contract.
use Rattle.replay_calls.specs.Held.{called_left}
use Rattle.replay_calls.proofs.calls.start_again.Goals as goal

pub returns : goal.returns
returns c = called_left _ _ _ _ _ _ _ _ _ c.start-called.ensures.answer c.say_called.ensures
