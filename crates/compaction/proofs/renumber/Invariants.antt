-- The places passed hold their records by the new numbers, and the others what they held.
use Rattle.compaction.specs.Carried.{Renumbered}
use Rattle.compaction.proofs.renumber.Given as goal

abbrev pub invariant-loop-place : goal.invariant-loop-place
invariant-loop-place l = Renumbered l.records l.initial.tokens l.tokens l.place
