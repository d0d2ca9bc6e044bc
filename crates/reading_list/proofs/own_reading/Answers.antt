-- By whether there is a token.
use mathlib.Core.Path.{ap, sym}
use lib.Ieee.{of_bits}
use Rattle.reading_list.specs.Items.{own_reading}
use Rattle.reading_list.proofs.own_reading.Goals as goal

pub returns-in-None : goal.returns-in-None
unfolding of_bits
returns-in-None c = ap own_reading (sym c.in-None.is)

pub returns-in-Some : goal.returns-in-Some
returns-in-Some c = ap own_reading (sym c.in-Some.is)
