-- `replay::graphs::before_fit` is safe, ends and stops at a record of the script.
use Prim.Native.Nat.{◌-◌, ◌≤◌}
use Rattle.script.specs.Words.{word_count}
use Rattle.replay.proofs.graphs.before_fit.Given as goal

abbrev pub invariant-loop-r : goal.invariant-loop-r
invariant-loop-r l =
    l.from ≤ l.at

abbrev pub decreases-loop-r : goal.decreases-loop-r
decreases-loop-r l =
    word_count l.calls - l.at
