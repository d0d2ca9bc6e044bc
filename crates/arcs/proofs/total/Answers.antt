-- The sums, in their order, by the pass.
use mathlib.Core.Path.{sym, ap, ap₂, ◌∙◌, subst}
use native.Mathlib.Omega.{arith}
use lib.Ieee.{Float, nan}
use Rattle.model.specs.Basics.{◌⊕◌, ◌⊖◌, 0f}
use Rattle.lists.specs.Members.{get_d_any}
use Rattle.arcs.specs.declared.Pass.{Pass}
use Rattle.arcs.specs.Part.{HeardAt, total_in}
use Rattle.arcs.proofs.total.Goals as goal

pub loglike-requires : goal.loglike-requires
loglike-requires c = subst (λ (p : Pass). HeardAt p c.args.ilabels.now c.args.tid2pdf.now c.args.loglikes.now c.args.i) c.in-Emitting.is c.requires.1

pub returns-in-Emitting : goal.returns-in-Emitting
returns-in-Emitting c = ap₂ (λ (x w : Float). (c.args.cost ⊕ (c.in-Emitting.offset ⊖ x)) ⊕ w) c.loglike.ensures (get_d_any c.args.weights.now c.args.i nan 0f (omega arith)) ∙
    sym (ap (λ (p : Pass). total_in p c.args.ilabels.now c.args.weights.now c.args.tid2pdf.now c.args.loglikes.now c.args.cost c.args.i) c.in-Emitting.is)

pub returns-in-Nonemitting : goal.returns-in-Nonemitting
returns-in-Nonemitting c = ap (λ (w : Float). c.args.cost ⊕ w) (get_d_any c.args.weights.now c.args.i nan 0f (omega arith)) ∙
    sym (ap (λ (p : Pass). total_in p c.args.ilabels.now c.args.weights.now c.args.tid2pdf.now c.args.loglikes.now c.args.cost c.args.i) c.in-Nonemitting.is)
