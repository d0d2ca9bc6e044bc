-- What is ready holds records, and making room keeps it ready.
use Rattle.records.specs.Layout.{store}
use Rattle.store_cases.proofs.Keeps.{ready_holds, ready_made}
use Rattle.store_cases.proofs.make.Goals as goal

pub make_room-m-requires : goal.make_room-m-requires
make_room-m-requires c = ready_holds _ c.args.tokens.now _ _ _ _ c.requires.0 c.requires.2 c.requires.1 c.if-z-x.false

pub returns : goal.returns
returns c =
    let a = c.args in
    let m = c.make_room-m in
    ready_made (store a.records.now a.labels.now a.gaps.now) a.tokens.now _ _ _ a.x c.requires.0 c.requires.2 (store m.new.records m.new.labels m.new.gaps) m.new.tokens _ _
    c.requires.1 c.if-z-x.false m.auto.tokens m.ensures
