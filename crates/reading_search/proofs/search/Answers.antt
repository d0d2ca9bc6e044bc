-- `reading_search::search` meets its contract: what is found among all readings is found among those not yet passed.
use Rattle.std.proofs.Common.{sym, ◌∙◌, arith}
use mir.Syntax.{w32}
use mir.ValLaws.{to_z-of_z}
use Rattle.model.specs.Search.{first_reading}
use Rattle.reading_search.proofs.Searching.{found_here, searching_more, found_nowhere}
use Rattle.reading_search.proofs.search.Goals as goal

pub returns-then-has_word : goal.returns-then-has_word
unfolding first_reading
returns-then-has_word c =
    let a = c.args in
    let l = c.loop-reading in
    let own = to_z-of_z w32 a.word c.ranges.word in
    let has = sym (rw own at c.has_word.ensures) ∙ c.if-has_word.true in
    rw (c.requires, found_here a.word a.ends.now a.words.now l.from l.reading (rw own at l.invariant) (omega arith) has)

pub loop-reading-preserved : goal.loop-reading-preserved
loop-reading-preserved c =
    let a = c.args in
    let l = c.loop-reading in
    let own = to_z-of_z w32 a.word c.ranges.word in
    let lacks = sym (rw own at c.has_word.ensures) ∙ c.if-has_word.false in
    rw own (searching_more a.word a.ends.now a.words.now l.from l.reading (rw own at l.invariant) (omega arith) lacks)

pub returns : goal.returns
unfolding first_reading
returns c =
    let a = c.args in
    let l = c.loop-reading in
    rw (c.requires, found_nowhere a.word a.ends.now a.words.now l.from l.reading (rw (to_z-of_z w32 a.word c.ranges.word) at l.invariant) (omega arith))
