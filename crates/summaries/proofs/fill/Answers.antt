-- The records below the one at hand are in the table.
use Rattle.summaries.proofs.Table.{summed_none}
use Rattle.summaries.proofs.fill.Goals as goal

pub loop-k-init : goal.loop-k-init
loop-k-init c = summed_none c.requires.1 c.requires.2
