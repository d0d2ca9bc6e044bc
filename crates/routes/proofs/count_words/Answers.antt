-- The words passed, and those from the cursor down, which are still to be counted.
use native.Mathlib.Omega.{arith}
use Rattle.model.specs.Ints.{nonzero_yes, nonzero_no}
use Rattle.routes.specs.Words.{at_word}
use Rattle.routes.specs.Skips.{skip_room, skip_low, skip_next, counted_none, counted_next, counted_end}
use borrow.Author.Rules.{rules}
use Rattle.routes.proofs.count_words.Goals as goal

pub loop-x-init : goal.loop-x-init
loop-x-init c = counted_none

pub skip_at-requires : goal.skip_at-requires
skip_at-requires c = let low = c.loop-x.invariant.low in skip_room c.requires.2 (omega (arith, c.requires.1))

pub next_on-x-requires : goal.next_on-x-requires
next_on-x-requires c = let low = c.loop-x.invariant.low in (c.requires.0, skip_low c.requires.2 (omega (arith, c.requires.1)) c.skip_at.ensures)

pub returns-then-word-eq0 : goal.returns-then-word-eq0
returns-then-word-eq0 c = let low = c.loop-x.invariant.low in
    counted_end c.loop-x.invariant (skip_next c.requires.2 (omega (arith, c.requires.1)) c.skip_at.ensures c.requires.0 c.next_on-x.ensures) (nonzero_no c.next_on-x.result.word (search rules) c.if-word-eq0.true)

pub overflow_add-n : goal.overflow_add-n
overflow_add-n c = let low = c.loop-x.invariant.low in
    let p = at_word c.next_on-x.ensures (nonzero_yes c.next_on-x.result.word c.if-word-eq0.false) in search rules

pub loop-x-smaller : goal.loop-x-smaller
loop-x-smaller c = let low = c.loop-x.invariant.low in
    (at_word (skip_next c.requires.2 (omega (arith, c.requires.1)) c.skip_at.ensures c.requires.0 c.next_on-x.ensures) (nonzero_yes c.next_on-x.result.word c.if-word-eq0.false)).low

pub loop-x-preserved : goal.loop-x-preserved
loop-x-preserved c = let low = c.loop-x.invariant.low in
    counted_next c.loop-x.invariant (skip_next c.requires.2 (omega (arith, c.requires.1)) c.skip_at.ensures c.requires.0 c.next_on-x.ensures) (nonzero_yes c.next_on-x.result.word c.if-word-eq0.false)
