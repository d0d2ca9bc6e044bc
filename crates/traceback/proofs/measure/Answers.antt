-- What is counted so far, and what is still to come.
use mathlib.Core.Path.{refl, ap, ◌∙◌}
use mathlib.Core.Logic.{inl, inr}
use Prim.Native.Nat.{ℕ, ◌-◌}
use native.Mathlib.Omega.{arith}
use Rattle.model.specs.Ints.{nonzero_yes, nonzero_no}
use Rattle.traceback.specs.declared.Step.{Step}
use Rattle.traceback.specs.declared.Head.{Head}
use Rattle.traceback.specs.Chain.{head_on}
use Rattle.traceback.specs.Walk.{step_low, head_few, measuring_none, measuring_next, measuring_end}
use Rattle.traceback.proofs.measure.Goals.{then-s-ne0, else-s-ne0}
use Rattle.traceback.proofs.measure.Goals as goal

pub loop-r-init : goal.loop-r-init
loop-r-init c = measuring_none c.args.link _ (record { count = refl; phone = refl; start = refl })

pub begin-head-requires-in-loop-r : goal.begin-head-requires-in-loop-r
begin-head-requires-in-loop-r c = let many = c.loop-r.invariant.many in
    let l = head_few c.loop-r.head c.resumes.result c.step_at-s.result.at in
    omega (arith, c.requires.0.few, ap (λ (x : Head). x.count) c.begin-head.ensures)

pub loop-r-smaller : goal.loop-r-smaller
loop-r-smaller c = let few = c.loop-r.invariant.few in
    let a = c.args in
    let l = step_low a.records.now a.labels.now a.route.now a.n a.used c.requires.0 (c.loop-r.r - 1) (omega arith) in
    omega (arith, ap (λ (s : Step). s.next) c.step_at-s.ensures)

pub loop-r-preserved : goal.loop-r-preserved
loop-r-preserved c = let s = c.step_at-s.result in
    measuring_next c.args.link c.requires.0 c.requires.1 s c.loop-r-test.true c.step_at-s.ensures
    (elim c.if-s-ne0.branch [
      | then-s-ne0 w ↦ inl (nonzero_yes s.word w.if-s-ne0.true, w.words-is)
      | else-s-ne0 w ↦ inr (nonzero_no s.word (record { sfits = search }) w.if-s-ne0.false, w.words-is)
    ])
    (c.begin-head.ensures ∙ ap (λ (x : ℕ). head_on c.loop-r.head x s.at) c.resumes.ensures) c.begin-head-in-loop-r.ensures c.loop-r.invariant

pub returns : goal.returns
returns c = measuring_end c.args.link c.requires.1 c.loop-r-test.false c.loop-r.invariant
