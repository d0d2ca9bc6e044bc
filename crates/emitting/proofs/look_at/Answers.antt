-- An arc without a label is passed over; the others tighten the cutoff, or are refused.
use mathlib.Core.Path.{◌≡◌, sym, ap₂, ◌∙◌}
use native.Mathlib.Omega.{arith}
use lib.ListN.{get_or}
use lib.Ieee.{Float, nan}
use Rattle.lists.specs.Members.{get_d_any}
use Rattle.model.specs.Basics.{◌⊕◌, ◌⊖◌, 0f}
use Rattle.emitting.specs.Look.{look_total, look_skips, look_refuses, look_lowers}
use borrow.Author.Rules.{rules}
use Rattle.emitting.proofs.look_at.Goals as goal

pub returns-then-not-takes : goal.returns-then-not-takes
returns-then-not-takes c = look_skips c.args.ilabels.now c.args.weights.now c.args.tid2pdf.now c.args.loglikes.now c.args.offset c.args.adaptive c.args.cost c.args.i c.args.next (sym c.takes.ensures ∙ c.if-not-takes.true)

pub offset_bounds-weights-i : goal.offset_bounds-weights-i
offset_bounds-weights-i c = let e = c.requires.0.weights in let l = c.requires.1 in search rules

pub bounds-weights-i : goal.bounds-weights-i
bounds-weights-i c = let e = c.requires.0.weights in let l = c.requires.1 in search rules

pub loglike-requires : goal.loglike-requires
loglike-requires c = c.requires.0.heard _ c.requires.1 (sym c.takes.ensures ∙ c.if-not-takes.false)

pub returns-then-not-is_tame : goal.returns-then-not-is_tame
returns-then-not-is_tame c = let sums_are : get_or c.args.weights.now c.args.i nan ⊕ c.args.offset ⊖ c.loglike.result ⊕ c.args.cost ≡ look_total c.args.ilabels.now c.args.weights.now c.args.tid2pdf.now c.args.loglikes.now c.args.offset c.args.adaptive c.args.cost c.args.i =
    ap₂ (λ (w l : Float). w ⊕ c.args.offset ⊖ l ⊕ c.args.cost) (get_d_any c.args.weights.now c.args.i nan 0f (let e = c.requires.0.weights in let l = c.requires.1 in omega arith)) c.loglike.ensures in
    look_refuses c.args.ilabels.now c.args.weights.now c.args.tid2pdf.now c.args.loglikes.now c.args.offset c.args.adaptive c.args.cost c.args.i c.args.next (sym c.takes.ensures ∙ c.if-not-takes.false) _ sums_are (sym c.is_tame.ensures ∙ c.if-not-is_tame.true)

pub returns : goal.returns
returns c = let sums_are : get_or c.args.weights.now c.args.i nan ⊕ c.args.offset ⊖ c.loglike.result ⊕ c.args.cost ≡ look_total c.args.ilabels.now c.args.weights.now c.args.tid2pdf.now c.args.loglikes.now c.args.offset c.args.adaptive c.args.cost c.args.i =
    ap₂ (λ (w l : Float). w ⊕ c.args.offset ⊖ l ⊕ c.args.cost) (get_d_any c.args.weights.now c.args.i nan 0f (let e = c.requires.0.weights in let l = c.requires.1 in omega arith)) c.loglike.ensures in
    look_lowers c.args.ilabels.now c.args.weights.now c.args.tid2pdf.now c.args.loglikes.now c.args.offset c.args.adaptive c.args.cost c.args.i c.args.next (sym c.takes.ensures ∙ c.if-not-takes.false) _ sums_are (sym c.is_tame.ensures ∙ c.if-not-is_tame.false) _ c.lower.ensures
