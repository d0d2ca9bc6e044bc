-- The values as they are.
use mathlib.Core.Path.{refl}
use lib.Ieee.{of_bits}
use Rattle.decoder.proofs.new_decoder.Goals as goal

pub returns : goal.returns
unfolding of_bits
returns c = refl
