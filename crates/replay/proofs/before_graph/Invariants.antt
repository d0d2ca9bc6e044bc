-- `replay::before_graph` ends: each whole record takes at least its header's two words of those that are left.
use Rattle.std.proofs.Common.{◌-◌}
use Rattle.script.specs.Words.{word_count}
use Rattle.replay.proofs.before_graph.Given as goal

abbrev pub decreases-loop-r : goal.decreases-loop-r
decreases-loop-r l = word_count l.calls - l.at
