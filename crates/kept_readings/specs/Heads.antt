-- The heads: tokens of which the readings below their newest join are added to the map.
use Rattle.std.specs.Prelude.{◌≡◌, ℕ, ◌+◌, ◌-◌, ◌*◌, ◌%◌, ◌^◌, ◌<◌, ◌≤◌, Bool, true, false, cond, not, ◌&&◌, ◌||◌, List, [], ◌∷◌, ◌++◌, map, length, take, ℤ, nat_lt, slice_index, slice_set, Float, Option, Some, None, is_some}
use Rattle.lists.specs.Lists.{keep_if, range}
use Rattle.model.specs.Basics.{◌≼◌, ◌⊕◌, ◌⊖◌, ◌⊗◌, 0f, 1f}
use Rattle.model.specs.Reads.{graph_scale}
use Rattle.records.specs.History.{History}
use Rattle.records.specs.Layout.{store}
use Rattle.records.specs.Stands.{Stands}
use Rattle.joins.specs.Walk.{Chains}
use Rattle.histories.specs.declared.Hashed.{Hashed}
use Rattle.histories.specs.Reading.{join_tag, EndIs, HashIs}
use Rattle.traceback.specs.declared.Candidate.{Candidate}
use Rattle.traceback.specs.Ranks.{candidate_at}
use Rattle.groups.specs.Firsts.{link_at}
use Rattle.entries.specs.declared.Entry.{Entry}
use Rattle.entries.specs.Entries.{entry_at, Room as EntryRoom}
use Rattle.below.specs.Stored.{first_at, count_at}
use Rattle.kept_readings.specs.declared.KeptReading.{KeptReading}
use Rattle.kept_readings.specs.Kept.{Room, Added, within}

-- ---- the readings below one head

-- entry e's path below a token's newest join; above it are the token's own words
abbrev pub kept_by : Candidate → (counts : Bool) → Hashed → (e : ℕ) → Entry → KeptReading
kept_by c counts above e b =
    record {
      hash = (b.hash * above.shift % 2 ^ 64 + above.hash) % 2 ^ 64;
      len = b.len + above.len;
      state = c.state;
      entry = e;
      seq = c.seq;
      rank = c.rank ⊕ b.cost ⊖ cond counts ((1f ⊖ graph_scale) ⊗ b.graph) 0f;
      cost = c.cost ⊕ b.cost;
    }

-- of the n entries from this one on
abbrev pub kept_starts_from : (hs ns : List ℕ) → List Float → Candidate → (counts : Bool) → Hashed → (from n : ℕ) → List KeptReading
kept_starts_from hs ns xs c counts above from n = map (λ (e : ℕ). kept_by c counts above e (entry_at hs ns xs e)) (range from n)

-- the first of a list is the token's own path, which is no kept reading
abbrev pub kept_under : (hs ns : List ℕ) → List Float → Option Candidate → (counts : Bool) → (bound : Float) → Hashed → (first count : ℕ) → List KeptReading
kept_under hs ns xs None counts bound above first count = []
kept_under hs ns xs (Some c) counts bound above first count = within bound (kept_starts_from hs ns xs c counts above (first + 1) (count - 1))

-- the entries of a list have places, and no number of words passes u32
pub record EntriesAsk (hs ns : List ℕ) (xs : List Float) (first count len : ℕ) : Type 0 where
  pub room : EntryRoom hs ns xs (first + count - 1)
  pub fits : first + count < 2 ^ 32
  pub lens : (i : ℕ) → i < count → (entry_at hs ns xs (first + i)).len + len < 2 ^ 32

-- ---- one head

pub record HeadAsks (tk : List ℕ) (sm fs : List Float) (rs : List ℕ) (ls : List ℤ) (b used : ℕ) (lists hs ns : List ℕ) (xs : List Float) (s : ℕ) : Type 0 where
  pub tokens : s * 8 + 8 ≤ length tk
  pub sums : s * 4 + 4 ≤ length sm
  pub finals : s < length fs
  pub low : link_at tk b s ≤ used
  pub below : (join : ℕ) (above : Hashed) → EndIs rs ls used (link_at tk b s) true join → HashIs rs ls used (link_at tk b s) join above → EntriesAsk hs ns xs (first_at lists join) (count_at lists join) above.len

-- what is added of it
pub record HeadKept (tk : List ℕ) (sm fs : List Float) (rs : List ℕ) (ls : List ℤ) (b used : ℕ) (counts : Bool) (bound : Float) (lists hs ns : List ℕ) (xs : List Float) (s : ℕ) (ks : List KeptReading) : Type 0 where
  pub join : ℕ
  pub above : Hashed
  pub end_is : EndIs rs ls used (link_at tk b s) true join
  pub hash_is : HashIs rs ls used (link_at tk b s) join above
  pub is : ks ≡ kept_under hs ns xs (candidate_at tk sm fs b s counts) counts bound above (first_at lists join) (count_at lists join)

pub record HeadAdded (tk : List ℕ) (sm fs : List Float) (rs : List ℕ) (ls : List ℤ) (b used : ℕ) (counts : Bool) (bound : Float) (lists hs ns : List ℕ) (xs : List Float) (s : ℕ)
    (khs kns : List ℕ) (kxs : List Float) (n places : ℕ) (khs' kns' : List ℕ) (kxs' : List Float) (r : Option ℕ) : Type 0 where
  pub ks : List KeptReading
  pub are : HeadKept tk sm fs rs ls b used counts bound lists hs ns xs s ks
  pub added : Added khs kns kxs n ks places khs' kns' kxs' r

-- ---- all of them

pub data HeadsKept (tk : List ℕ) (sm fs : List Float) (rs : List ℕ) (ls : List ℤ) (b used : ℕ) (counts : Bool) (bound : Float) (lists hs ns : List ℕ) (xs : List Float) : List ℕ → List KeptReading → Type 0 where
  no_heads : HeadsKept tk sm fs rs ls b used counts bound lists hs ns xs [] []
  head_on : {s : ℕ} {ks : List KeptReading} {ss : List ℕ} {ls' : List KeptReading} → HeadKept tk sm fs rs ls b used counts bound lists hs ns xs s ks → HeadsKept tk sm fs rs ls b used counts bound lists hs ns xs ss ls'
      → HeadsKept tk sm fs rs ls b used counts bound lists hs ns xs (s ∷ ss) (ks ++ ls')

pub record FillAsks (tk : List ℕ) (sm fs : List Float) (rs : List ℕ) (ls : List ℤ) (b used : ℕ) (heads : List ℕ) (m : ℕ) (lists hs ns : List ℕ) (xs : List Float) (khs kns : List ℕ) (kxs : List Float) (places : ℕ) : Type 0 where
  pub side : b ≤ 1
  pub chains : Chains rs ls used
  pub long : m ≤ length heads
  pub lists_long : used * 2 ≤ length lists
  pub room : Room khs kns kxs places
  pub each : (i : ℕ) → i < m → HeadAsks tk sm fs rs ls b used lists hs ns xs (slice_index heads i)

-- The map of what is below the first j heads; these are all where there are places for it.
pub record FillIs (tk : List ℕ) (sm fs : List Float) (rs : List ℕ) (ls : List ℤ) (b used : ℕ) (counts : Bool) (bound : Float) (heads : List ℕ) (m : ℕ) (lists hs ns : List ℕ) (xs : List Float)
    (khs kns : List ℕ) (kxs : List Float) (places : ℕ) (khs' kns' : List ℕ) (kxs' : List Float) (r : Option ℕ) : Type 0 where
  pub j : ℕ
  pub few : j ≤ m
  pub all : is_some r ≡ true → j ≡ m
  pub ks : List KeptReading
  pub are : HeadsKept tk sm fs rs ls b used counts bound lists hs ns xs (take j heads) ks
  pub added : Added khs kns kxs 0 ks places khs' kns' kxs' r

-- ---- which tokens are heads

-- a token that ranks below the bound
abbrev pub best_within : Float → Option Candidate → Bool
best_within bound None = false
best_within bound (Some c) = not (bound ≼ c.rank)

-- a kept reading of its token can rank below the bound
abbrev pub may_rank : List ℕ → (sm fs : List Float) → (side : ℕ) → (counts : Bool) → (bound : Float) → (s : ℕ) → Bool
may_rank tk sm fs b counts bound s = counts || best_within bound (candidate_at tk sm fs b s counts)

-- it has a join, and where finals do not count it ranks below the bound
abbrev pub is_head : (ℕ → History) → List ℕ → (sm fs : List Float) → (side : ℕ) → (counts : Bool) → (bound : Float) → (s : ℕ) → Bool
is_head h tk sm fs b counts bound s = nat_lt 0 (join_tag (h (link_at tk b s))) && may_rank tk sm fs b counts bound s

pub record StateAsks (tk : List ℕ) (sm fs : List Float) (b used s : ℕ) : Type 0 where
  pub tokens : s * 8 + 8 ≤ length tk
  pub sums : s * 4 + 4 ≤ length sm
  pub finals : s < length fs
  pub low : link_at tk b s ≤ used

pub record IsHeadIs (tk : List ℕ) (sm fs : List Float) (rs : List ℕ) (ls : List ℤ) (b used : ℕ) (counts : Bool) (bound : Float) (s : ℕ) (r : Bool) : Type 0 where
  pub is : (gs : List Float) (h : ℕ → History) → Stands (store rs ls gs) used h → r ≡ is_head h tk sm fs b counts bound s

pub record HeadsAsk (tk : List ℕ) (sm fs : List Float) (rs : List ℕ) (ls : List ℤ) (b used : ℕ) (heads : List ℕ) (n : ℕ) : Type 0 where
  pub side : b ≤ 1
  pub chains : Chains rs ls used
  pub long : n ≤ length heads
  pub each : (i : ℕ) → i < n → StateAsks tk sm fs b used (slice_index heads i)

-- one state more, if it is kept
pub data KeptIf (heads heads' : List ℕ) (m s : ℕ) (kept : Bool) (r : ℕ) : Type 0 where
  not_kept : kept ≡ false → heads' ≡ heads → r ≡ m → KeptIf heads heads' m s kept r
  is_kept : kept ≡ true → heads' ≡ slice_set heads m s → r ≡ m + 1 → KeptIf heads heads' m s kept r

-- the heads among the first n states, in their order
pub record HeadsAre (tk : List ℕ) (sm fs : List Float) (rs : List ℕ) (ls : List ℤ) (b used : ℕ) (counts : Bool) (bound : Float) (heads heads' : List ℕ) (n m : ℕ) : Type 0 where
  pub few : m ≤ n
  pub is : (gs : List Float) (h : ℕ → History) → Stands (store rs ls gs) used h → take m heads' ≡ keep_if (is_head h tk sm fs b counts bound) (take n heads)
