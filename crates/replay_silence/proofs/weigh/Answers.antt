-- `replay_silence::weigh` meets its contract: the differences lie within what is lent.
use Rattle.std.proofs.Common.{length-take-le}
use Rattle.replay_silence.proofs.Within.{deltas_within}
use Rattle.replay_silence.proofs.weigh.Goals as goal

pub returns : goal.returns
returns c = deltas_within _ _ _ _ _ c.get_delta_weights.result c.args.lent c.get_delta_weights.ensures (length-take-le _ _ c.requires.2)
