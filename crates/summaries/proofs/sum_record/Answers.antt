-- The record before it is in the table, and its own word stands on top of that one's.
use mathlib.Core.Path.{◌∙◌}
use Rattle.model.specs.Ints.{back}
use Rattle.summaries.proofs.Table.{summed_more}
use native.Mathlib.Omega.{arith}
use Rattle.summaries.proofs.sum_record.Goals as goal

pub returns : goal.returns
returns c =
    let w = c.word_of-word in
    let f = c.well_formed.1.1.1.0 in
    let g = c.requires in
    let e = c.put_summary.ensures in
    summed_more (omega arith) (omega arith) (omega arith) g.0 g.1 g.2 c.prev_of-prev.ensures (back w.result w.type_inv ∙ w.ensures) c.is_join-joined.ensures
    c.key_at.ensures c.key_over-whole.ensures c.key_from-key.ensures c.skip_from-skip.ensures c.join_from-join.ensures e.0 e.1
