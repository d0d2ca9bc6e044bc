-- `fst::weight_wrong` meets its contract: its tests are the definition's.
use mathlib.Core.Path.{sym, ◌∙◌}
use lib.Ieee.{of_bits}
use Rattle.model.specs.Graph.{weight_wrong}
use Rattle.model.specs.Ints.{nonzero_yes, nonzero_no}
use Rattle.fst.proofs.weight_wrong.Goals as goal

pub returns-then-not-is_tame : goal.returns-then-not-is_tame
unfolding weight_wrong of_bits
returns-then-not-is_tame c = simp (sym c.is_tame.ensures ∙ c.if-not-is_tame.true)

pub returns-then-ilabel-ne0 : goal.returns-then-ilabel-ne0
unfolding weight_wrong of_bits
returns-then-ilabel-ne0 c =
    simp (sym c.is_tame.ensures ∙ c.if-not-is_tame.false, nonzero_yes c.args.ilabel c.if-ilabel-ne0.true)

pub returns : goal.returns
unfolding weight_wrong of_bits
returns c =
    simp (sym c.is_tame.ensures ∙ c.if-not-is_tame.false, nonzero_no c.args.ilabel c.ranges.ilabel c.if-ilabel-ne0.false)
