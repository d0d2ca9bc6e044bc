-- The words from the record are those from the cursor down, since no record passed has one.
use borrow.Author.Rules.{rules}
use mathlib.Core.Path.{refl, ap, ◌∙◌}
use native.Mathlib.Omega.{arith}
use Rattle.model.specs.Ints.{nonzero_yes, nonzero_no, back}
use Rattle.routes.specs.Back.{back_along, ended, a_word}
use Rattle.routes.specs.Words.{next_low, back_word, back_quiet, back_none}
use Rattle.routes.proofs.next_on.Goals as goal

pub loop-r-init : goal.loop-r-init
loop-r-init c = (omega arith, refl)

pub step_at-s-requires : goal.step_at-s-requires
step_at-s-requires c = let w = c.requires.0 in
    let low = c.loop-r.invariant.0 in (omega arith, omega (arith, w.records, c.requires.1), omega (arith, w.labels, c.requires.1))

pub returns-then-word-ne0 : goal.returns-then-word-ne0
returns-then-word-ne0 c = let s = c.step_at-s.result in
    let low = c.loop-r.invariant.0 in
    let yes = nonzero_yes s.word c.if-word-ne0.true in
    let l = next_low c.args.route.now c.requires.0 c.loop-r.r s c.loop-r-test.true (omega (arith, c.requires.1)) c.step_at-s.ensures in
    rw (back s.word (search rules)) (a_word yes (omega arith) (c.loop-r.invariant.1 ∙ back_word c.args.route.now c.requires.0 c.loop-r.r s c.loop-r-test.true (omega (arith, c.requires.1)) c.step_at-s.ensures yes))

pub loop-r-smaller : goal.loop-r-smaller
loop-r-smaller c = let s = c.step_at-s.result in
    let low = c.loop-r.invariant.0 in
    next_low c.args.route.now c.requires.0 c.loop-r.r s c.loop-r-test.true (omega (arith, c.requires.1)) c.step_at-s.ensures

pub loop-r-preserved : goal.loop-r-preserved
loop-r-preserved c = let s = c.step_at-s.result in
    let low = c.loop-r.invariant.0 in
    let l = next_low c.args.route.now c.requires.0 c.loop-r.r s c.loop-r-test.true (omega (arith, c.requires.1)) c.step_at-s.ensures in (omega arith, c.loop-r.invariant.1 ∙ back_quiet c.args.route.now c.requires.0 c.loop-r.r s c.loop-r-test.true (omega (arith, c.requires.1)) c.step_at-s.ensures (nonzero_no s.word (search rules) c.if-word-ne0.false))

pub returns : goal.returns
returns c = let a = c.args in
    ended refl (c.loop-r.invariant.1 ∙ ap (back_along a.records.now a.labels.now a.route.now) c.loop-r-test.false ∙ back_none a.records.now a.labels.now a.route.now)
