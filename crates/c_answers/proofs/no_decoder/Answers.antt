-- The zeros are those of the bits.
use lib.Ieee.{of_bits}
use mathlib.Core.Path.{refl}
use Rattle.c_answers.proofs.no_decoder.Goals as goal

pub returns : goal.returns
unfolding of_bits
returns c = refl
