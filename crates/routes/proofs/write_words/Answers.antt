-- What is written, and the words from the cursor down, which are still to come.
use native.Mathlib.Omega.{arith}
use Rattle.model.specs.Ints.{back}
use Rattle.routes.specs.Skips.{skip_room, skip_low, skip_next}
use Rattle.routes.specs.Written.{writing_none, writing_low, writing_next, writing_end}
use borrow.Author.Rules.{rules}
use Rattle.routes.proofs.write_words.Goals as goal

pub loop-k-init : goal.loop-k-init
loop-k-init c = writing_none c.requires.2 c.requires.3

pub skip_at-requires : goal.skip_at-requires
skip_at-requires c = let low = c.loop-k.invariant.low in skip_room c.requires.4 (omega (arith, c.requires.1))

pub next_on-x-requires : goal.next_on-x-requires
next_on-x-requires c = let low = c.loop-k.invariant.low in (c.requires.0, skip_low c.requires.4 (omega (arith, c.requires.1)) c.skip_at.ensures)

pub offset_bounds-words-k : goal.offset_bounds-words-k
offset_bounds-words-k c = let l = writing_low c.requires.2 c.requires.3 c.loop-k.invariant in search rules

pub bounds-words-k : goal.bounds-words-k
bounds-words-k c = let l = writing_low c.requires.2 c.requires.3 c.loop-k.invariant in omega arith

pub loop-k-smaller : goal.loop-k-smaller
loop-k-smaller c = omega arith

pub loop-k-preserved : goal.loop-k-preserved
loop-k-preserved c = let x = c.next_on-x.result in
    let low = c.loop-k.invariant.low in
    rw (back x.word (search rules)) (writing_next c.requires.2 c.requires.3 c.loop-k.invariant c.loop-k-test.true (skip_next c.requires.4 (omega (arith, c.requires.1)) c.skip_at.ensures c.requires.0 c.next_on-x.ensures))

pub returns : goal.returns
returns c = writing_end c.requires.2 c.requires.3 c.loop-k-test.false c.loop-k.invariant
