-- By the flag.
use mathlib.Core.Path.{sym, ap}
use mathlib.Core.Bool.{Bool, cond}
use lib.Ieee.{of_bits}
use Rattle.model.specs.Basics.{0f}
use Rattle.decoder.proofs.kept_margin.Goals as goal

pub returns-then-keeps : goal.returns-then-keeps
returns-then-keeps c = sym (ap (λ (b : Bool). cond b c.args.margin 0f) c.if-keeps.true)

pub returns-else-keeps : goal.returns-else-keeps
unfolding of_bits
returns-else-keeps c = sym (ap (λ (b : Bool). cond b c.args.margin 0f) c.if-keeps.false)
