-- Two places are left, or a compaction leaves live records only.
use Rattle.records.specs.Layout.{store}
use Rattle.compaction.proofs.Compacting.{room_left, room_made_lem}
use Rattle.compaction.proofs.make_room.Goals as goal

pub returns-then-used-cap : goal.returns-then-used-cap
returns-then-used-cap c =
    let a = c.args in
    room_left (store a.records.now a.labels.now a.gaps.now) a.tokens.now a.places a.used a.cap a.x c.requires c.if-used-cap.true

pub returns : goal.returns
returns c =
    let a = c.args in
    let k = c.compact in
    room_made_lem (store a.records.now a.labels.now a.gaps.now) (store k.new.records k.new.labels k.new.gaps) a.tokens.now k.new.tokens _ _ _ _ _ _ k.ensures
