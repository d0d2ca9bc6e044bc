-- The words passed, and those from the cursor down, which are still to be counted.
use Rattle.routes.specs.Skips.{Counted}
use Rattle.routes.proofs.count_words.Given as goal

abbrev pub invariant-loop-x : goal.invariant-loop-x
invariant-loop-x l =
    Counted l.records l.labels l.route l.link l.r l.n

abbrev pub decreases-loop-x : goal.decreases-loop-x
decreases-loop-x l =
    l.r
