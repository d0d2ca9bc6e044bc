-- Where a record can be wanted, the compaction's room.
use Rattle.std.proofs.Common.{sym, refl, ◌∙◌}
use Rattle.arrivals.specs.Room.{not_wanted, room_made}
use Rattle.arrivals.proofs.make_room.Goals as goal

pub returns-then-not-wants_record : goal.returns-then-not-wants_record
returns-then-not-wants_record c = not_wanted (sym c.wants_record.ensures ∙ c.if-not-wants_record.true) refl refl

pub returns : goal.returns
returns c = room_made c.make_room.ensures
