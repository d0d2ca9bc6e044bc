-- `replay_answers::say_words`: fewer words than the sixteen that there are places for.
use Rattle.std.proofs.Common.{◌<◌}
use Rattle.replay_answers.proofs.say_words.Given as goal

abbrev pub invariant-loop-w : goal.invariant-loop-w
invariant-loop-w l = l.n < 16
