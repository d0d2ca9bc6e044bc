-- What the words passed say of the order, and the words from the cursors down, as many of one as of the other.
use borrow.Author.Rules.{rules}
use mathlib.Core.Path.{refl, sym, ◌∙◌}
use native.Mathlib.Omega.{arith}
use Rattle.model.specs.Ints.{nonzero_yes, nonzero_no, back}
use Rattle.routes.specs.Words.{at_word}
use Rattle.routes.specs.Before.{before_ended, other_passed, before_long, before_next}
use Rattle.routes.proofs.before_along.Goals as goal

pub loop-x-init : goal.loop-x-init
loop-x-init c = (c.requires.1, c.requires.2, c.requires.3, refl)

pub next_on-x-requires : goal.next_on-x-requires
next_on-x-requires c = (c.requires.0, c.loop-x.invariant.0)

pub next_on-y-requires : goal.next_on-y-requires
next_on-y-requires c = (c.requires.0, c.loop-x.invariant.1)

pub returns-then-v-eq0 : goal.returns-then-v-eq0
returns-then-v-eq0 c = let x = c.next_on-x in
    before_ended x.ensures c.next_on-y.ensures (nonzero_no x.result.word (search rules) c.if-v-eq0.true) c.loop-x.before ∙ sym c.loop-x.invariant.3

pub loop-x-smaller : goal.loop-x-smaller
loop-x-smaller c = let x = c.next_on-x in
    (at_word x.ensures (nonzero_yes x.result.word c.if-v-eq0.false)).low

pub loop-x-preserved : goal.loop-x-preserved
loop-x-preserved c = let x = c.next_on-x in
    let y = c.next_on-y in
    let yes = nonzero_yes x.result.word c.if-v-eq0.false in
    let i = c.loop-x.invariant in
    let a = i.0 in
    let b = i.1 in
    let l = (at_word x.ensures yes).low in
    let k = (other_passed x.ensures y.ensures yes i.2).low in
    let r = rw (back x.result.word (search rules), back y.result.word (search rules)) at c.is_before-before.ensures in (omega arith, omega arith, before_long x.ensures y.ensures yes i.2, i.3 ∙ before_next x.ensures y.ensures yes i.2 c.loop-x.before r)
