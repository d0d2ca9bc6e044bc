-- Of what is not negative, the test of magnitude is one comparison.
use mathlib.Core.Path.{◌∙◌}
use lib.Ieee.{of_bits}
use Rattle.checks.specs.Margin.{fair_is, unfair_is}
use Rattle.checks.proofs.is_fair.Goals as goal

pub returns-then-x : goal.returns-then-x
unfolding of_bits
returns-then-x c = c.is_tame.ensures ∙ fair_is c.args.x c.if-x.true

pub returns-else-x : goal.returns-else-x
unfolding of_bits
returns-else-x c = c.if-x.false ∙ unfair_is c.args.x c.if-x.false
