-- `script::fill` meets its contract: after i turns the first i words are in place.
use mathlib.Core.Path.{ap, ◌∙◌}
use Rattle.script.proofs.Stores.{filling_more}
use Rattle.script.proofs.fill.Goals as goal

pub loop-i-preserved : goal.loop-i-preserved
loop-i-preserved g c =
    let a = c.args in
    let l = c.loop-i in
    let f = g.T.Word.of_word in
    filling_more f a.bytes.now a.at a.n a.out.now c.from_word.result l.out l.i l.invariant c.loop-i-test.true (c.from_word.ensures ∙ ap f c.word_at.ensures)
