-- Marking, sliding, renumbering.
use Rattle.records.specs.Layout.{store}
use Rattle.compaction.proofs.Compacting.{marked_shape, compacted}
use native.Mathlib.Omega.{arith}
use Rattle.compaction.proofs.compact.Goals as goal

pub slide-left-requires : goal.slide-left-requires
slide-left-requires c =
    let m = c.mark_live in
    (marked_shape _ c.args.tokens.now m.new.records _ _ _ c.requires m.ensures m.auto.records, c.requires.few)

pub returns : goal.returns
returns c =
    let a = c.args in
    let m = c.mark_live in
    let d = c.slide-left in
    let t = c.renumber in
    compacted (store a.records.now a.labels.now a.gaps.now) a.tokens.now m.new.records a.places a.used a.x c.requires m.ensures m.auto.records
    (store d.new.records d.new.labels d.new.gaps) d.result d.ensures t.new.tokens t.ensures
    (record {
      records = omega (arith, d.ensures.few, c.requires.shape.room.records, d.auto.records, m.auto.records);
      labels = omega (arith, d.ensures.few, c.requires.shape.room.labels, d.auto.labels);
      gaps = omega (arith, d.ensures.few, c.requires.shape.room.gaps, d.auto.gaps);
    }) _ c.new_number.ensures
