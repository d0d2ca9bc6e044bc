-- The margin cuts none so far.
use Rattle.entries.specs.Laws.{UncutTo}
use Rattle.entries.proofs.within.Given as goal

abbrev pub invariant-loop-i : goal.invariant-loop-i
invariant-loop-i l =
    UncutTo l.hashes l.nexts l.sums l.w l.margin l.i
