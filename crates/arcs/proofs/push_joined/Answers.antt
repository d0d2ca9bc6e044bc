-- The state is marked before it is pushed.
use mathlib.Core.Path.{refl, sym, ◌∙◌}
use Rattle.arcs.specs.Finish.{joined_stays, joined_pushed}
use Rattle.arcs.proofs.push_joined.Goals as goal

pub returns-then-not-requeues : goal.returns-then-not-requeues
returns-then-not-requeues c = joined_stays (sym c.requeues.ensures ∙ c.if-not-requeues.true) refl refl

pub returns : goal.returns
returns c = joined_pushed (sym c.requeues.ensures ∙ c.if-not-requeues.false) c.set_requeued.ensures c.push.ensures
