-- The lower of two, in the emitting pass.
use mathlib.Core.Path.{sym, ap, ◌∙◌}
use mathlib.Core.Bool.{Bool, cond}
use Rattle.model.specs.Basics.{◌⊕◌}
use Rattle.arcs.specs.declared.Pass.{Pass}
use Rattle.arcs.specs.Part.{lower_by}
use Rattle.arcs.proofs.lower.Goals as goal

pub returns-then-low-cutoff : goal.returns-then-low-cutoff
returns-then-low-cutoff c = let low = c.args.total ⊕ c.in-Emitting.adaptive in
    sym (ap (λ (p : Pass). lower_by p c.args.total c.args.cutoff) c.in-Emitting.is ∙ ap (λ (b : Bool). cond b low c.args.cutoff) c.if-low-cutoff.true)

pub returns-else-low-cutoff : goal.returns-else-low-cutoff
returns-else-low-cutoff c = let low = c.args.total ⊕ c.in-Emitting.adaptive in
    sym (ap (λ (p : Pass). lower_by p c.args.total c.args.cutoff) c.in-Emitting.is ∙ ap (λ (b : Bool). cond b low c.args.cutoff) c.if-low-cutoff.false)

pub returns-in-Nonemitting : goal.returns-in-Nonemitting
returns-in-Nonemitting c = sym (ap (λ (p : Pass). lower_by p c.args.total c.args.cutoff) c.in-Nonemitting.is)
