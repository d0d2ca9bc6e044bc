-- The scale is the definition's.
use lib.Ieee.{of_bits}
use Rattle.kept_readings.proofs.scaled.Goals as goal

pub returns-then-counts : goal.returns-then-counts
unfolding of_bits
returns-then-counts c = simp c.if-counts.true

pub returns-else-counts : goal.returns-else-counts
unfolding of_bits
returns-else-counts c = simp c.if-counts.false
