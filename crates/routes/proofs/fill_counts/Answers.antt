-- The records below the one at hand are in the table.
use Rattle.routes.specs.Counts.{counts_none}
use Rattle.routes.proofs.fill_counts.Goals as goal

pub loop-k-init : goal.loop-k-init
loop-k-init c = counts_none c.requires.1

pub put_count-requires : goal.put_count-requires
put_count-requires c = (c.requires.0, c.loop-k-test.true, c.loop-k.invariant)

pub loop-k-preserved : goal.loop-k-preserved
loop-k-preserved c = c.put_count.ensures
