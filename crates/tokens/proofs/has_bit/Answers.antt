-- Shifting it down leaves the bit as the lowest.
use mathlib.Core.Path.{ap}
use lib.Dec.{ltb}
use Rattle.tokens.proofs.Bits.{bit_is}
use Rattle.tokens.proofs.has_bit.Goals as goal

pub returns : goal.returns
returns c = ap (ltb 0) (bit_is c.args.n c.args.j)
