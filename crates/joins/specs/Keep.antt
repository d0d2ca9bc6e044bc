-- What `keep` leaves: one constructor for each way out.
use Rattle.std.specs.Prelude.{◌≡◌, ℕ, ◌≤◌, ◌<◌, Bool, true, false, ◌&&◌, ℤ, Float, Option, Some, None, Result, Ok, Err}
use Rattle.model.specs.Basics.{◌⊖◌, ◌≼◌}
use Rattle.tokens.specs.declared.Token.{Token}
use Rattle.records.specs.declared.Kept.{Kept}
use Rattle.records.specs.History.{History}
use Rattle.records.specs.Layout.{Store, Room}
use Rattle.records.specs.Stands.{Stands}
use Rattle.records.specs.Shape.{Shape}
use Rattle.records.specs.Puts.{JoinPut}
use Rattle.joins.specs.Worth.{worth}
use Rattle.refusals.specs.declared.Reason.{Reason}
use Rattle.refusals.specs.declared.Reason.TheVariants.{RecordsFull}

-- within the margin, and worth it
unfoldable pub keeps_of : Option Float → (gap : Float) → (won lost : History) → (over : ℤ) → Bool
keeps_of None gap won lost over = false
keeps_of (Some m) gap won lost over = gap ≼ m && worth won lost over (m ⊖ gap)

-- the answer b, whatever histories the records stand for
pub record KeptIs (s : Store) (n : ℕ) (margin : Option Float) (gap : Float) (won lost : Token) (over : ℤ) (b : Bool) : Type 0 where
  pub is : (h : ℕ → History) → Stands s n h → b ≡ keeps_of margin gap (h won.link) (h lost.link) over

-- what the join holds
abbrev pub kept_of : (gap : Float) → (won lost : Token) → (over : ℤ) → (starts : ℕ) → Kept
kept_of gap won lost over starts =
    record { link = lost.link; word = over; starts = starts; cost = gap; graph = lost.graph ⊖ won.graph; phone = lost.phone; winner = won.phone }

-- what `keep` asks: the store holds `used` records and has places for `cap`
pub record KeepAsks (s : Store) (used cap : ℕ) (won lost : Token) : Type 0 where
  pub shape : Shape s used
  pub room : Room s cap
  pub fits : used ≤ cap
  pub small : cap ≤ 1048576
  pub won_low : won.link ≤ used
  pub lost_low : lost.link ≤ used

-- The loser is dropped, or its join finds the store full, or the join is put on. The stores are s before and s' after.
pub data KeepIs (s s' : Store) (used cap frame : ℕ) (margin : Option Float) (gap : Float) (won lost : Token) (over : ℤ) (starts : ℕ) : Result (Option ℕ) Reason → Type 0 where
  drops_loser : KeptIs s used margin gap won lost over false → s' ≡ s → KeepIs s s' used cap frame margin gap won lost over starts (Ok None)
  finds_full : KeptIs s used margin gap won lost over true → used ≡ cap → s' ≡ s → KeepIs s s' used cap frame margin gap won lost over starts (Err RecordsFull)
  joins_loser : {r : ℕ} → KeptIs s used margin gap won lost over true → used < cap → JoinPut s s' used won.link frame (kept_of gap won lost over starts) r
      → KeepIs s s' used cap frame margin gap won lost over starts (Ok (Some r))
