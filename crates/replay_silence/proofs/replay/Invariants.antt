-- `replay_silence::replay` ends: each whole record takes at least its header's two words of those that are left.
use Rattle.std.proofs.Common.{◌≡◌, length, ◌-◌}
use Rattle.script.specs.Words.{word_count}
use Rattle.replay_silence.proofs.replay.Given as goal

abbrev pub invariant-loop-r : goal.invariant-loop-r
invariant-loop-r l = (length l.status ≡ length l.initial.status) × (length l.weights ≡ length l.initial.weights)

abbrev pub decreases-loop-r : goal.decreases-loop-r
decreases-loop-r l = word_count l.bytes - l.at
