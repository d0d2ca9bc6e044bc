-- Only the nonemitting pass sends a state back, where it has epsilon arcs, and once.
use mathlib.Core.Path.{sym, ap, ◌∙◌}
use native.Mathlib.Omega.{arith}
use mathlib.Core.Bool.{Bool, not, ◌&&◌}
use lib.Dec.{ltb}
use lib.ListN.{get_or}
use borrow.Author.Tests.{eq-eqb, le-ltb, lt-ltb}
use Rattle.arcs.specs.declared.Pass.{Pass}
use Rattle.arcs.specs.Finish.{requeues_at}
use Rattle.tokens.specs.Layout.{place_in, requeued_at}
use Rattle.arcs.proofs.requeues.Goals as goal

pub returns-else-eps-s-ne0 : goal.returns-else-eps-s-ne0
returns-else-eps-s-ne0 c = let a = c.args in
    ap not (eq-eqb _ 0 c.if-eps-s-ne0.false) ∙ sym (ap (λ (p : Pass). requeues_at p a.tokens.now a.eps.now a.side a.s) c.in-Nonemitting.is ∙ ap (λ (b : Bool). b && not (ltb 0 (requeued_at a.tokens.now (place_in a.side a.s)))) (le-ltb 0 (get_or a.eps.now a.s 0) (omega (arith, c.if-eps-s-ne0.false))))

pub returns-in-Emitting : goal.returns-in-Emitting
returns-in-Emitting c = let a = c.args in sym (ap (λ (p : Pass). requeues_at p a.tokens.now a.eps.now a.side a.s) c.in-Emitting.is)

pub returns-then-eps-s-ne0 : goal.returns-then-eps-s-ne0
returns-then-eps-s-ne0 c = let a = c.args in
    ap not c.was_requeued.ensures ∙
    sym (ap (λ (p : Pass). requeues_at p a.tokens.now a.eps.now a.side a.s) c.in-Nonemitting.is ∙ ap (λ (b : Bool). b && not (ltb 0 (requeued_at a.tokens.now (place_in a.side a.s)))) (lt-ltb 0 (get_or a.eps.now a.s 0) (omega (arith, c.if-eps-s-ne0.true))))
