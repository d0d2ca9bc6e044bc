-- The words passed are hashed, and those from the cursor down are to come. The numbers fall.
use Rattle.std.proofs.Common.{◌-◌, ap, ◌∙◌, arith}
use Rattle.model.specs.Ints.{back}
use Rattle.histories.specs.Reading.{older}
use Rattle.histories.proofs.Steps.{hashing_none, hashing_more, hashing_end}
use Rattle.histories.proofs.hash_above.Goals as goal

pub loop-r-init : goal.loop-r-init
loop-r-init c = hashing_none c.next_word-r.ensures

pub loop-r-preserved : goal.loop-r-preserved
loop-r-preserved c =
    let w = c.word_of in
    let p = c.prev_of in
    hashing_more c.loop-r.invariant c.loop-r-test.true w.ensures
    (c.hash_older-h.ensures ∙ ap (older c.loop-r.h) (back w.result w.type_inv)) p.ensures
    (omega (arith, c.requires.0.prev_low (c.loop-r.r - 1) (omega (arith, c.loop-r.invariant.low)), p.ensures)) c.next_word-r-in-loop-r.ensures

pub returns : goal.returns
returns c = hashing_end c.loop-r.invariant c.loop-r-test.false
