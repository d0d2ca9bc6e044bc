-- Which lists are wanted, and what marking them leaves.
use Rattle.std.specs.Prelude.{◌≡◌, ◌⊎◌, ℕ, ◌+◌, ◌-◌, ◌*◌, ◌≤◌, ◌<◌, true, List, map, ℤ, length, get_or, take, Float}
use Rattle.model.specs.Basics.{◌≼◌}
use Rattle.tokens.specs.Layout.{held_at, place_in}
use Rattle.records.specs.History.{History, tag}
use Rattle.records.specs.Layout.{store, prev_at, kept_at, cost_at}
use Rattle.records.specs.Stands.{Stands}
use Rattle.joins.specs.Walk.{Chains}
use Rattle.histories.specs.Reading.{join_tag}
use Rattle.entries.specs.declared.Way.{Way}
use Rattle.below.specs.Stored.{first_at, count_at}
use Rattle.below.specs.Ways.{OwnWay, KeptWay}

-- ---- the ways

-- Of the records above a way's end each has at most one word.
pub record OwnReach (rs : List ℕ) (ls : List ℤ) (used : ℕ) (lists : List ℕ) (r : ℕ) (w : Way) : Type 0 where
  pub way : OwnWay rs ls used lists r w
  pub low : w.len + way.end < r

pub record KeptReach (rs : List ℕ) (ls : List ℤ) (gs : List Float) (used : ℕ) (lists : List ℕ) (r : ℕ) (margin : Float) (w : Way) : Type 0 where
  pub way : KeptWay rs ls gs used lists r margin w
  pub low : w.len + way.end ≤ r
  pub end_low : way.end < r

-- ---- marks

pub record Cleared (lists : List ℕ) (used : ℕ) : Type 0 where
  pub first : (k : ℕ) → k < used → get_or lists (k * 2) 0 ≡ 0
  pub count : (k : ℕ) → k < used → get_or lists (k * 2 + 1) 0 ≡ 0

-- put on the joins of P, and on no other
pub record MarksPut (P : ℕ → Type 0) (lists lists' : List ℕ) : Type 0 where
  pub first : (j : ℕ) → first_at lists' j ≡ first_at lists j
  pub all : (j : ℕ) → 0 < j → P j → 0 < count_at lists' j
  pub only : (j : ℕ) → (count_at lists' j ≡ count_at lists j) ⊎ ((count_at lists' j ≡ 1) × P j)

-- record j is the newest join of this history
abbrev pub LeadsTo : (used : ℕ) → (ℕ → History) → History → ℕ → Type 0
LeadsTo used h x j = (j ≤ used) × (tag (h j) ≡ join_tag x)

pub record EndWanted (rs : List ℕ) (ls : List ℤ) (used link : ℕ) (lists lists' : List ℕ) : Type 0 where
  pub is : (gs : List Float) (h : ℕ → History) → Stands (store rs ls gs) used h → MarksPut (LeadsTo used h (h link)) lists lists'

-- the newest record of a state's token
abbrev pub link_of : List ℕ → (side s : ℕ) → ℕ
link_of tk b s = held_at tk (place_in b s) - 1

-- of the first n states
abbrev pub head_links : List ℕ → (side : ℕ) → (heads : List ℕ) → (n : ℕ) → List ℕ
head_links tk b heads n = map (link_of tk b) (take n heads)

pub record HeadsAsk (tk rs : List ℕ) (ls : List ℤ) (b used : ℕ) (heads : List ℕ) (n : ℕ) : Type 0 where
  pub side : b ≤ 1
  pub chains : Chains rs ls used
  pub long : n ≤ length heads
  pub inside : (i : ℕ) → i < n → get_or heads i 0 * 8 + 8 ≤ length tk
  pub low : (i : ℕ) → i < n → link_of tk b (get_or heads i 0) ≤ used

-- record j is the newest join of the history of one of the first n states
abbrev pub HeadTo : List ℕ → (side used : ℕ) → (heads : List ℕ) → (n : ℕ) → (ℕ → History) → ℕ → Type 0
HeadTo tk b used heads n h j = (i : ℕ) × (i < n) × LeadsTo used h (h (link_of tk b (get_or heads i 0))) j

pub record HeadsWanted (tk rs : List ℕ) (ls : List ℤ) (b used : ℕ) (heads : List ℕ) (n : ℕ) (lists lists' : List ℕ) : Type 0 where
  pub is : (gs : List Float) (h : ℕ → History) → Stands (store rs ls gs) used h → MarksPut (HeadTo tk b used heads n h) lists lists'

-- record r's kept history leads to j, within the margin
abbrev pub KeptTo : List ℕ → List Float → (used : ℕ) → (margin : Float) → (ℕ → History) → (r j : ℕ) → Type 0
KeptTo rs gs used margin h r j = ((cost_at gs (r - 1) ≼ margin) ≡ true) × LeadsTo used h (h (kept_at rs (r - 1))) j

pub record KeptWanted (rs : List ℕ) (ls : List ℤ) (gs : List Float) (used : ℕ) (margin : Float) (r : ℕ) (lists lists' : List ℕ) : Type 0 where
  pub is : (h : ℕ → History) → Stands (store rs ls gs) used h → MarksPut (KeptTo rs gs used margin h r) lists lists'

-- one of its two ways does
abbrev pub WayTo : List ℕ → List Float → (used : ℕ) → (margin : Float) → (ℕ → History) → (r j : ℕ) → Type 0
WayTo rs gs used margin h r j = LeadsTo used h (h (prev_at rs (r - 1))) j ⊎ KeptTo rs gs used margin h r j

abbrev pub Wanted : List ℕ → ℕ → Type 0
Wanted lists j = (0 < j) × (0 < count_at lists j)

pub record WaysWanted (rs : List ℕ) (ls : List ℤ) (gs : List Float) (used : ℕ) (margin : Float) (r : ℕ) (lists lists' : List ℕ) : Type 0 where
  pub is : (h : ℕ → History) → Stands (store rs ls gs) used h → MarksPut (λ j. Wanted lists r × WayTo rs gs used margin h r j) lists lists'

-- led to from a root
pub data Reach (rs : List ℕ) (gs : List Float) (used : ℕ) (margin : Float) (h : ℕ → History) (R : ℕ → Type 0) : ℕ → Type 0 where
  from_root : {j : ℕ} → R j → Reach rs gs used margin h R j
  through_way : {j : ℕ} (r : ℕ) → 0 < r → r ≤ used → Reach rs gs used margin h R r → WayTo rs gs used margin h r j → Reach rs gs used margin h R j

pub record BelowWanted (rs : List ℕ) (ls : List ℤ) (gs : List Float) (used : ℕ) (margin : Float) (lists lists' : List ℕ) : Type 0 where
  pub is : (h : ℕ → History) → Stands (store rs ls gs) used h → MarksPut (Reach rs gs used margin h (Wanted lists)) lists lists'
