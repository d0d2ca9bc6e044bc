-- The shift leaves the bits from `j` on, and its lowest set bit is the first of them.
use native.Mathlib.Omega.{arith}
use Rattle.tokens.proofs.Blocks.{no_bit, one_bit, first_low}
use Rattle.tokens.proofs.first_bit.Goals as goal

pub returns-then-rest-eq0 : goal.returns-then-rest-eq0
returns-then-rest-eq0 c = no_bit _ _ c.requires.1 c.if-rest-eq0.true

pub overflow_add-result : goal.overflow_add-result
overflow_add-result c = record { fits = omega (arith, first_low _ _ c.requires.1 c.requires.0 c.if-rest-eq0.false) }

pub returns : goal.returns
returns c = one_bit _ _ c.requires.1 c.requires.0 c.if-rest-eq0.false
