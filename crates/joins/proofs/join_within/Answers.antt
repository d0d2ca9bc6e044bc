-- A record with neither word nor phone is a join, and only that.
use lib.IntN.{pos}
use Rattle.model.specs.Ints.{nonzero_yes, nonzero_no}
use Rattle.records.specs.Layout.{rec_at}
use Rattle.joins.proofs.join_within.Goals as goal

pub returns-then-word_of-ne0 : goal.returns-then-word_of-ne0
unfolding rec_at
returns-then-word_of-ne0 c = simp (← c.word_of.ensures, nonzero_yes c.word_of.result c.if-word_of-ne0.true)

pub returns-then-starts_of-ne0 : goal.returns-then-starts_of-ne0
unfolding rec_at
returns-then-starts_of-ne0 c =
    let w = c.word_of in
    let s = c.starts_of in
    simp (← w.ensures, ← s.ensures, nonzero_no w.result (record { sfits = w.type_inv }) c.if-word_of-ne0.false, nonzero_yes (pos s.result) c.if-starts_of-ne0.true)

pub returns : goal.returns
unfolding rec_at
returns c =
    let w = c.word_of in
    let e = c.if-word_of-ne0.false in
    let z = c.if-starts_of-ne0.false in
    simp (← w.ensures, ← c.starts_of.ensures, ← c.cost_of.ensures, nonzero_no w.result (record { sfits = w.type_inv }) e, z)
