-- The first m are what was not dropped so far.
use Rattle.groups.specs.Laws.{ClosedTo}
use Rattle.groups.proofs.close_up.Given as goal

abbrev pub invariant-loop-i : goal.invariant-loop-i
invariant-loop-i l =
    ClosedTo l.initial.order l.order l.m l.i
