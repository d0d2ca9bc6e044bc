-- By whether its kept history is taken.
use mathlib.Core.Path.{sym, ◌∙◌}
use Prim.Native.Nat.{◌-◌}
use Rattle.traceback.specs.Walk.{step_kept, step_own}
use Rattle.traceback.proofs.step_at.Goals as goal

pub returns-then-takes_kept : goal.returns-then-takes_kept
returns-then-takes_kept c = c.kept_step.ensures ∙ step_kept c.args.records.now c.args.labels.now c.args.route.now (c.args.r - 1) c.args.n (sym c.takes_kept.ensures ∙ c.if-takes_kept.true)

pub returns-else-takes_kept : goal.returns-else-takes_kept
returns-else-takes_kept c = c.own_step.ensures ∙ step_own c.args.records.now c.args.labels.now c.args.route.now (c.args.r - 1) c.args.n (sym c.takes_kept.ensures ∙ c.if-takes_kept.false)
