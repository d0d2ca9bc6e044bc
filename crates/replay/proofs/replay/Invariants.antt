-- `replay::replay` is safe and ends: each graph stands further on.
use Rattle.replay.specs.Places.{Behind, ahead}
use Rattle.replay.proofs.replay.Given as goal

abbrev pub invariant-loop-stop : goal.invariant-loop-stop
invariant-loop-stop l =
    Behind l.calls 0 l.stop

abbrev pub decreases-loop-stop : goal.decreases-loop-stop
decreases-loop-stop l =
    ahead l.calls l.stop
