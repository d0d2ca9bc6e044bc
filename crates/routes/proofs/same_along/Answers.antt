-- The two read the same where they do from the cursors down: the words passed agree.
use borrow.Author.Rules.{rules}
use mathlib.Core.Path.{refl, sym, ap, ◌∙◌}
use native.Mathlib.Omega.{arith}
use mir.Syntax.{w32}
use mir.Val.{of_z}
use Rattle.model.specs.Basics.{nonzero}
use Rattle.model.specs.Ints.{nonzero_yes, nonzero_no, bits_eq}
use Rattle.routes.specs.Words.{at_word, same_apart, same_ended, same_next}
use Rattle.routes.proofs.same_along.Goals as goal

pub loop-x-init : goal.loop-x-init
loop-x-init c = (c.requires.1, c.requires.2, refl)

pub next_on-x-requires : goal.next_on-x-requires
next_on-x-requires c = (c.requires.0, c.loop-x.invariant.0)

pub next_on-y-requires : goal.next_on-y-requires
next_on-y-requires c = (c.requires.0, c.loop-x.invariant.1)

pub returns-then-v-w : goal.returns-then-v-w
returns-then-v-w c = same_apart c.next_on-x.ensures c.next_on-y.ensures (λ e. c.if-v-w.true (ap (of_z w32) e)) ∙ sym c.loop-x.invariant.2

pub returns-then-v-eq0 : goal.returns-then-v-eq0
returns-then-v-eq0 c = let x = c.next_on-x in
    let y = c.next_on-y in
    same_ended x.ensures y.ensures (bits_eq x.result.word y.result.word (search rules) (search rules) c.if-v-w.false) (nonzero_no x.result.word (search rules) c.if-v-eq0.true) ∙ sym c.loop-x.invariant.2

pub loop-x-smaller : goal.loop-x-smaller
loop-x-smaller c = let x = c.next_on-x in
    (at_word x.ensures (nonzero_yes x.result.word c.if-v-eq0.false)).low

pub loop-x-preserved : goal.loop-x-preserved
loop-x-preserved c = let x = c.next_on-x in
    let y = c.next_on-y in
    let e = bits_eq x.result.word y.result.word (search rules) (search rules) c.if-v-w.false in
    let yes = nonzero_yes x.result.word c.if-v-eq0.false in
    let i = c.loop-x.invariant in
    let a = i.0 in
    let b = i.1 in
    let l = (at_word x.ensures yes).low in
    let k = (at_word y.ensures (ap nonzero (sym e) ∙ yes)).low in (omega arith, omega arith, i.2 ∙ same_next x.ensures y.ensures e yes)
