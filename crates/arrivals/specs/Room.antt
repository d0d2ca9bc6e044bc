-- What room was made: none where no record can be wanted.
use Rattle.std.specs.Prelude.{is_some, ◌≡◌, ℕ, ◌*◌, Bool, false, ◌||◌, List}
use Rattle.tokens.specs.declared.Token.{Token as Stored}
use Rattle.records.specs.Layout.{Store}
use Rattle.compaction.specs.declared.Made.{Made}
use Rattle.compaction.specs.Carried.{RoomMade}
use Rattle.arrivals.specs.declared.Arrival.{Arrival}
use Rattle.arrivals.specs.declared.Setting.{Setting}
use Rattle.arrivals.specs.Arrival.{links}

-- a link, or a join where a margin is set
abbrev pub wants : Setting → Stored → Arrival → Bool
wants g x a = links x a || is_some g.margin

pub data RoomIs (s s' : Store) (tk tk' : List ℕ) (g : Setting) (used : ℕ) (x : Stored) (a : Arrival) : Made → Type 0 where
  not_wanted : wants g x a ≡ false → s' ≡ s → tk' ≡ tk → RoomIs s s' tk tk' g used x a (record { used = used; x = x.link })
  room_made : {r : Made} → RoomMade s s' tk tk' (g.states * 2) used r.used g.cap x.link r.x → RoomIs s s' tk tk' g used x a r
