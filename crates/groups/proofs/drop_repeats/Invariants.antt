-- Those from the j-th sorted place on are judged, and what the others stand for is untouched.
use Rattle.groups.specs.Laws.{DroppedTo}
use Rattle.groups.proofs.drop_repeats.Given as goal

abbrev pub invariant-loop-j : goal.invariant-loop-j
invariant-loop-j l =
    DroppedTo l.tokens l.records l.labels l.side l.used l.to_join l.initial.order l.n l.keys l.places l.order l.j
