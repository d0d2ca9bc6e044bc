-- A record without a mark stays behind; one with a mark moves, slice by slice, with the new numbers of what it names.
use mathlib.Core.Path.{◌∙◌}
use lib.IntN.{pos}
use lib.Ieee.{nan}
use Rattle.records.specs.Layout.{store}
use Rattle.compaction.proofs.Slides.{one_moves}
use Rattle.compaction.proofs.slide_one.Goals as goal

pub returns : goal.returns
returns c =
    let a = c.args in
    let mg = c.move_pair-2 in
    let ml = c.move_pair in
    let mn = c.move_numbers in
    let q = c.new_number-new_kept in
    let p = c.new_number-new_prev in
    let b = c.kept_of-kept in
    let d = c.prev_of-prev in
    let n = c.new_number in
    one_moves (store a.records.now a.labels.now a.gaps.now) a.k a.n c.requires.n_le_k.0 p.result q.result d.result b.result
    (λ e. c.if-new_number-eq0.false (n.ensures ∙ e)) c.requires.k_in_bounds.0 c.requires.k_in_bounds.1 c.requires.k_in_bounds.2 d.ensures b.ensures p.ensures q.ensures
    (store mn.new.records ml.new.pairs mg.new.pairs) (λ i. record { records = mn.ensures i; labels = ml.ensures (pos 0) i; gaps = mg.ensures nan i })
