-- Entry 0 is the start; any other is read from its place.
use lib.Ieee.{of_bits}
use Rattle.std.proofs.Common.{arith}
use Rattle.entries.specs.Laws.{entry_none, entry_in_lem}
use Rattle.entries.proofs.entry_at.Goals as goal

pub returns-then-e-eq0 : goal.returns-then-e-eq0
unfolding of_bits
returns-then-e-eq0 c = entry_none _ _ _ _ c.if-e-eq0.true

pub returns : goal.returns
returns c = entry_in_lem _ _ _ _ (let z = c.if-e-eq0.false in omega arith)
