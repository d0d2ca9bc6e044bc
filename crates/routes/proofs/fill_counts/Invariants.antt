-- The records below the one at hand are in the table.
use Rattle.routes.specs.Counts.{Counts}
use Rattle.routes.proofs.fill_counts.Given as goal

abbrev pub invariant-loop-k : goal.invariant-loop-k
invariant-loop-k l =
    Counts l.records l.labels l.used l.k l.history_counts
