-- The best of the states passed, from the last one down.
use Rattle.traceback.specs.Ranking.{Chosen}
use Rattle.traceback.proofs.best_token.Given as goal

abbrev pub invariant-loop-s : goal.invariant-loop-s
invariant-loop-s l = Chosen l.tokens l.sums l.finals l.side l.states l.counts l.s l.best

abbrev pub decreases-loop-s : goal.decreases-loop-s
decreases-loop-s l = l.s
