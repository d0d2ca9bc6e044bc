-- From the next place before it on, none reads the same so far.
use Rattle.groups.specs.Laws.{AloneTo}
use Rattle.groups.proofs.repeats.Given as goal

abbrev pub invariant-loop-i : goal.invariant-loop-i
invariant-loop-i l =
    AloneTo l.tokens l.records l.labels l.side l.used l.to_join l.order l.keys l.places l.j l.i
