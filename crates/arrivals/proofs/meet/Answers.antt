-- The tests of the definition, in its order.
use Rattle.std.proofs.Common.{sym, ◌∙◌}
use Rattle.tokens.specs.Layout.{cell_at}
use Rattle.arrivals.specs.Arrival.{meets_at}
use Rattle.arrivals.proofs.meet.Goals as goal

pub returns-then-cutoff-total : goal.returns-then-cutoff-total
unfolding meets_at cell_at
returns-then-cutoff-total c = rw c.if-cutoff-total.true

pub returns-then-not-is_active : goal.returns-then-not-is_active
unfolding meets_at cell_at
returns-then-not-is_active c = rw (c.if-cutoff-total.false, sym c.is_active.ensures ∙ c.if-not-is_active.true)

pub returns-then-total-cost : goal.returns-then-total-cost
unfolding meets_at cell_at
returns-then-total-cost c = rw (c.if-cutoff-total.false, sym c.is_active.ensures ∙ c.if-not-is_active.false, sym c.cost_at-cost.ensures, c.if-total-cost.true)

pub returns-else-total-cost : goal.returns-else-total-cost
unfolding meets_at cell_at
returns-else-total-cost c = rw (c.if-cutoff-total.false, sym c.is_active.ensures ∙ c.if-not-is_active.false, sym c.cost_at-cost.ensures, c.if-total-cost.false)
