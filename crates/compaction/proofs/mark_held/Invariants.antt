-- The records that the places passed hold are marked, beside what was.
use Rattle.compaction.specs.Marks.{Held, MarksPut}
use Rattle.compaction.proofs.mark_held.Given as goal

abbrev pub invariant-loop-p : goal.invariant-loop-p
invariant-loop-p l = MarksPut (Held l.tokens l.p) l.initial.records l.records
