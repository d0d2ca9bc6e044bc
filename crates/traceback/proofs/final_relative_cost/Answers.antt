-- By which of the two least costs is finite.
use mathlib.Core.Path.{sym, ◌∙◌}
use Rattle.traceback.specs.Table.{relative_cost, relative_ending, relative_none}
use Rattle.traceback.proofs.final_relative_cost.Goals as goal

pub returns-then-is_finite : goal.returns-then-is_finite
returns-then-is_finite c = relative_cost _ c.least_costs-least.ensures (sym c.is_finite.ensures ∙ c.if-is_finite.true)

pub returns-then-is_finite-2 : goal.returns-then-is_finite-2
returns-then-is_finite-2 c = relative_ending _ c.least_costs-least.ensures (sym c.is_finite.ensures ∙ c.if-is_finite.false) (sym c.is_finite-2.ensures ∙ c.if-is_finite-2.true)

pub returns : goal.returns
returns c = relative_none _ c.least_costs-least.ensures _ c.infinity.ensures (sym c.is_finite.ensures ∙ c.if-is_finite.false) (sym c.is_finite-2.ensures ∙ c.if-is_finite-2.false)
