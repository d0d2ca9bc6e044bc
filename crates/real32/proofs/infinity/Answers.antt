-- `real32::infinity` meets its contract: the constant is +∞, and so is one divided by zero.
use lib.Ieee.{of_bits, div}
use mathlib.Core.Path.{refl}
use Rattle.real32.proofs.infinity.Goals as goal

pub returns : goal.returns
unfolding of_bits div
returns c = refl
