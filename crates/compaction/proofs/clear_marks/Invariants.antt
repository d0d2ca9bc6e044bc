-- Each record passed has no mark.
use Rattle.compaction.specs.Marks.{Cleared}
use Rattle.compaction.proofs.clear_marks.Given as goal

abbrev pub invariant-loop-k : goal.invariant-loop-k
invariant-loop-k l = Cleared l.initial.records l.records l.k
