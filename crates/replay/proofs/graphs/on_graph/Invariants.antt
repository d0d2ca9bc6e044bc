-- `replay::graphs::on_graph` meets its contract: each run of calls ends further on.
use Rattle.replay.specs.Places.{Behind, ahead}
use Rattle.replay.proofs.graphs.on_graph.Given as goal

abbrev pub invariant-loop-stop : goal.invariant-loop-stop
invariant-loop-stop l =
    Behind l.calls l.from l.stop

abbrev pub decreases-loop-stop : goal.decreases-loop-stop
decreases-loop-stop l =
    ahead l.calls l.stop
