-- What an item of the list is read as, and what its path asks.
use Rattle.std.specs.Prelude.{ℕ, ◌+◌, ◌-◌, ◌*◌, ◌≤◌, ◌<◌, Bool, cond, List, ℤ, ltb, length, Float, Option, Some, None}
use Rattle.model.specs.Basics.{0f}
use Rattle.traceback.specs.declared.Candidate.{Candidate}
use Rattle.traceback.specs.Ranks.{candidate_at}
use Rattle.traceback.specs.Trail.{Trail, no_trail}
use Rattle.traceback.specs.Chain.{Walkable, trail_from}
use Rattle.groups.specs.Firsts.{link_at}
use Rattle.kept_readings.specs.declared.KeptReading.{KeptReading}
use Rattle.kept_readings.specs.Kept.{kept_read_in, Room}
use Rattle.routes.specs.Entries.{joins_of, RouteAsks}
use Rattle.merged.specs.Items.{OwnAsks}
use Rattle.reading_list.specs.declared.Reading.{Reading}

abbrev pub own_reading : Option Candidate → Reading
own_reading None = record { state = 0; entry = 0; rank = 0f; cost = 0f }
own_reading (Some c) = record { state = c.state; entry = 0; rank = c.rank; cost = c.cost }

abbrev pub kept_reading : KeptReading → Reading
kept_reading k = record { state = k.state; entry = k.entry; rank = k.rank; cost = k.cost }

-- a state's own group, or from 2 ^ 31 on a kept reading
unfoldable pub item_reading : List ℕ → (sm fs : List Float) → (side : ℕ) → (counts : Bool) → (khs kns : List ℕ) → List Float → ℕ → Reading
item_reading tk sm fs b counts khs kns kxs i = cond (ltb i 2_147_483_648) (own_reading (candidate_at tk sm fs b i counts)) (kept_reading (kept_read_in khs kns kxs (i - 2_147_483_648)))

-- its state or its kept reading has its places
pub record ItemAsks (tk : List ℕ) (sm fs : List Float) (b : ℕ) (khs kns : List ℕ) (kxs : List Float) (i : ℕ) : Type 0 where
  pub side : b ≤ 1
  pub own : i < 2_147_483_648 → OwnAsks tk sm fs i
  pub kept : 2_147_483_648 ≤ i → Room khs kns kxs (i - 2_147_483_648 + 1)

-- the path of a reading: its token's, along its entry's route
abbrev pub trail_of : (tk rs : List ℕ) → List ℤ → (nexts : List ℕ) → (side n : ℕ) → Reading → Trail
trail_of tk rs ls ns b n g = trail_from rs ls (joins_of ns g.entry) n (link_at tk b g.state) no_trail

pub record PathAsks (tk rs : List ℕ) (ls : List ℤ) (ns : List ℕ) (b used : ℕ) (g : Reading) (route : List ℕ) : Type 0 where
  pub side : b ≤ 1
  pub walkable : Walkable rs ls used
  pub inside : g.state * 8 + 8 ≤ length tk
  pub low : link_at tk b g.state ≤ used
  pub routed : RouteAsks ns g.entry route
