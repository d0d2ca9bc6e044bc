-- The places so far have their keys.
use Rattle.groups.specs.Laws.{FilledTo}
use Rattle.groups.proofs.fill_keys.Given as goal

abbrev pub invariant-loop-i : goal.invariant-loop-i
invariant-loop-i l =
    FilledTo l.tokens l.records l.labels l.side l.used l.to_join l.order l.initial.keys l.initial.places l.keys l.places l.i
