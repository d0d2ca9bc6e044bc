-- What is written of the records passed, and what is still to come.
use mathlib.Core.Path.{refl, ap, ◌∙◌}
use Prim.Native.Nat.{ℕ, ◌-◌}
use native.Mathlib.Omega.{arith}
use Rattle.model.specs.Ints.{back}
use Rattle.traceback.specs.declared.Step.{Step}
use Rattle.traceback.specs.Chain.{head_on}
use Rattle.traceback.specs.Walk.{step_low}
use Rattle.traceback.specs.Write.{writing_none, lengths, word_asks, first_asks, second_asks, writing_next, end_asks, end_none, end_put}
use Rattle.traceback.proofs.write.Goals as goal

pub loop-r-init : goal.loop-r-init
loop-r-init c = let p = c.requires in writing_none p.0 p.1 p.2 p.3 _ (record { count = refl; phone = refl; start = refl })

pub put_word-at-requires : goal.put_word-at-requires
put_word-at-requires c = let p = c.requires in
    let s = c.step_at-s.result in
    rw (back s.word search) (word_asks p.0 p.1 p.2 p.3 c.loop-r.invariant s c.loop-r-test.true c.step_at-s.ensures)

pub begin_in-head-requires : goal.begin_in-head-requires
begin_in-head-requires c = let p = c.requires in
    let i = c.loop-r.invariant in
    let l = lengths p.0 p.1 p.2 p.3 i in
    let s = c.step_at-s.result in (first_asks p.0 p.1 p.2 p.3 i s c.loop-r-test.true c.step_at-s.ensures, omega (arith, p.2.few, p.0.few), omega (arith, p.3.segments))

pub begin_in-head-requires-in-loop-r : goal.begin_in-head-requires-in-loop-r
begin_in-head-requires-in-loop-r c = let p = c.requires in
    let i = c.loop-r.invariant in
    let l = lengths p.0 p.1 p.2 p.3 i in
    let s = c.step_at-s.result in (
      second_asks p.0 p.1 p.2 p.3 i s c.loop-r-test.true c.step_at-s.ensures c.begin_in-head.result (c.begin_in-head.ensures.head ∙ ap (λ (x : ℕ). head_on c.loop-r.head x s.at) c.resumes.ensures),
      omega (arith, p.2.few, p.0.few),
      omega (arith, p.3.segments, c.begin_in-head.auto.segments),
    )

pub loop-r-smaller : goal.loop-r-smaller
loop-r-smaller c = let low = c.loop-r.invariant.low in
    let a = c.args in
    let l = step_low a.records.now a.labels.now a.route.now a.n a.used c.requires.0 (c.loop-r.r - 1) (omega (arith, c.requires.1)) in
    omega (arith, ap (λ (s : Step). s.next) c.step_at-s.ensures)

pub loop-r-preserved : goal.loop-r-preserved
loop-r-preserved c = let p = c.requires in
    let s = c.step_at-s.result in
    writing_next p.0 p.1 p.2 p.3 c.loop-r.invariant s c.loop-r-test.true c.step_at-s.ensures c.begin_in-head.result (c.begin_in-head.ensures.head ∙ ap (λ (x : ℕ). head_on c.loop-r.head x s.at) c.resumes.ensures)
    (rw (back s.word search) at c.put_word-at.ensures) c.begin_in-head.ensures.written c.begin_in-head-in-loop-r.ensures

pub put_segment-requires : goal.put_segment-requires
put_segment-requires c = let p = c.requires in
    let i = c.loop-r.invariant in
    let l = lengths p.0 p.1 p.2 p.3 i in (omega arith, end_asks p.0 p.1 p.2 p.3 i c.loop-r-test.false, omega (arith, p.3.segments))

pub returns-then-head-ne0 : goal.returns-then-head-ne0
returns-then-head-ne0 c = let p = c.requires in end_put p.0 p.1 p.2 p.3 c.loop-r.invariant c.loop-r-test.false c.if-head-ne0.true c.put_segment.ensures

pub returns-else-head-ne0 : goal.returns-else-head-ne0
returns-else-head-ne0 c = let p = c.requires in end_none p.0 p.1 p.2 p.3 c.loop-r.invariant c.loop-r-test.false c.if-head-ne0.false
