-- The records above the one at hand have handed their marks on.
use Rattle.compaction.proofs.Marking.{Handed}
use Rattle.compaction.proofs.spread.Given as goal

abbrev pub invariant-loop-k : goal.invariant-loop-k
invariant-loop-k l = Handed l.initial.records l.records l.used l.k
