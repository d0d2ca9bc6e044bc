-- The records below the one at hand are in the table.
use Rattle.summaries.specs.Summed.{SummedTo}
use Rattle.summaries.proofs.fill.Given as goal

abbrev pub invariant-loop-k : goal.invariant-loop-k
invariant-loop-k l = SummedTo l.records l.labels l.used l.k l.history_keys l.history_skips
