-- `real32::is_tame` meets its contract: its two comparisons are the definition's.
use lib.Ieee.{of_bits, neg}
use Rattle.real32.specs.Small.{tame}
use Rattle.real32.proofs.is_tame.Goals as goal

pub returns-then-x : goal.returns-then-x
unfolding tame of_bits neg
returns-then-x c = let t = c.if-x.true in rw t

pub returns-else-x : goal.returns-else-x
unfolding tame of_bits neg
returns-else-x c = let t = c.if-x.false in rw t
