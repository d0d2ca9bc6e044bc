-- The layout of the token tables. The strides stand in these accessors, in the code that reads and writes the tables, compaction's too, and in every contract that asks for places.
use Rattle.std.specs.Prelude.{◌≡◌, ℕ, zero, suc, ◌+◌, ◌-◌, ◌*◌, ◌/◌, ◌%◌, ◌^◌, ◌≤◌, ◌<◌, List, get_or, set, Float, Option, MatchOption}
use Rattle.std.specs.Int.Bits.{bit_or}
use Rattle.std.specs.Float.{nan}
use Rattle.tokens.specs.declared.Token.{Token}

-- a state's place in one of the two tables
abbrev pub place_in : (side s : ℕ) → ℕ
place_in b s = s * 2 + b

-- Sixteen states of a table make a block. The place of the state with the block's number has its marks: which of its states are active,
abbrev pub active_in : List ℕ → (block : ℕ) → ℕ
active_in tk b = get_or tk (b * 4 + 3) 0 % 65536

-- and which were requeued
abbrev pub requeued_in : List ℕ → (block : ℕ) → ℕ
requeued_in tk b = get_or tk (b * 4 + 3) 0 / 65536

-- the place of the marks of a place's block
abbrev pub block_of : (place : ℕ) → ℕ
block_of p = p / 32 * 2 + p % 2

-- the bit of a place among the marks
abbrev pub bit_of : (place : ℕ) → ℕ
bit_of p = p / 2 % 16

-- bit j of a number, the lowest first
unfoldable pub bit_at : (n j : ℕ) → ℕ
bit_at n zero = n % 2
bit_at n (suc j) = bit_at (n / 2) j

-- a mark of a place set
abbrev pub marked : List ℕ → (place mark : ℕ) → List ℕ
marked tk p m = set tk (block_of p * 4 + 3) (bit_or (get_or tk (block_of p * 4 + 3) 0) (m * 2 ^ bit_of p))

-- what a place holds, by its mark and its record number
abbrev pub held_by : (mark r : ℕ) → ℕ
held_by zero r = 0
held_by (suc m) r = suc r

-- the record number plus one, 0 for no token
unfoldable pub held_at : List ℕ → (place : ℕ) → ℕ
held_at tk p = held_by (bit_at (active_in tk (block_of p)) (bit_of p)) (get_or tk (p * 4) 0)

abbrev pub seq_at : List ℕ → (place : ℕ) → ℕ
seq_at tk p = get_or tk (p * 4 + 1) 0

abbrev pub phone_at : List ℕ → (place : ℕ) → ℕ
phone_at tk p = get_or tk (p * 4 + 2) 0

unfoldable pub requeued_at : List ℕ → (place : ℕ) → ℕ
requeued_at tk p = bit_at (requeued_in tk (block_of p)) (bit_of p)

abbrev pub cost_at : List Float → (place : ℕ) → Float
cost_at sm p = get_or sm (p * 2) nan

abbrev pub graph_at : List Float → (place : ℕ) → Float
graph_at sm p = get_or sm (p * 2 + 1) nan

-- a place, read out
pub record Cell : Type 0 where
  pub held : ℕ
  pub seq : ℕ
  pub phone : ℕ
  pub cost : Float
  pub graph : Float

unfoldable pub cell_at : List ℕ → List Float → (place : ℕ) → Cell
cell_at tk sm p = record { held = held_at tk p; seq = seq_at tk p; phone = phone_at tk p; cost = cost_at sm p; graph = graph_at sm p }

abbrev pub cell_of : Token → Cell
cell_of t = record { held = suc t.link; seq = t.seq; phone = t.phone; cost = t.cost; graph = t.graph }

-- the token of a cell that holds one
abbrev pub token_of : Cell → Token
token_of c = record { cost = c.cost; graph = c.graph; link = c.held - 1; phone = c.phone; seq = c.seq }

-- a token put: new at its place, old elsewhere
pub record TokenPut (tk tk' : List ℕ) (sm sm' : List Float) (p : ℕ) (t : Token) : Type 0 where
  pub there : cell_at tk' sm' p ≡ cell_of t
  pub elsewhere : (q : ℕ) → (q ≡ p → ⊥) → cell_at tk' sm' q ≡ cell_at tk sm q
  pub requeued : (q : ℕ) → requeued_at tk' q ≡ requeued_at tk q

-- one table emptied, and nothing else
pub record Cleared (tk tk' : List ℕ) (b n : ℕ) : Type 0 where
  pub none : (s : ℕ) → s < n → held_at tk' (place_in b s) ≡ 0
  pub fresh : (s : ℕ) → s < n → requeued_at tk' (place_in b s) ≡ 0
  pub cells : (q : ℕ) → ((s : ℕ) → q ≡ place_in b s → ⊥) → (sm : List Float) → cell_at tk' sm q ≡ cell_at tk sm q
  pub requeued : (q : ℕ) → ((s : ℕ) → q ≡ place_in b s → ⊥) → requeued_at tk' q ≡ requeued_at tk q

-- the state was requeued, and nothing else changes
pub record Requeued (tk tk' : List ℕ) (p : ℕ) : Type 0 where
  pub there : requeued_at tk' p ≡ 1
  pub elsewhere : (q : ℕ) → (q ≡ p → ⊥) → requeued_at tk' q ≡ requeued_at tk q
  pub cells : (q : ℕ) (sm : List Float) → cell_at tk' sm q ≡ cell_at tk sm q

-- the first bit of n from j on that is set, 16 where there is none
pub record FirstBit (n j r : ℕ) : Type 0 where
  pub from : j ≤ r
  pub upto : r ≤ 16
  pub none : (i : ℕ) → j ≤ i → i < r → bit_at n i ≡ 0
  pub is_set : r < 16 → bit_at n r ≡ 1
  pub found : (n / 2 ^ j ≡ 0 → ⊥) → r < 16

-- block r is the first from k on with an active state, of those that n states make
pub record BlockIs (tk : List ℕ) (b k n r : ℕ) : Type 0 where
  pub from : k ≤ r
  pub upto : r * 16 < n
  pub none : (i : ℕ) → k ≤ i → i < r → active_in tk (place_in b i) ≡ 0
  pub some : active_in tk (place_in b r) ≡ 0 → ⊥

-- that block, or none where none from k on has one
abbrev pub NextBlock : List ℕ → (b k n : ℕ) → Option ℕ → Type 0
NextBlock tk b k n r = MatchOption r ((i : ℕ) → k ≤ i → i * 16 < n → active_in tk (place_in b i) ≡ 0) (BlockIs tk b k n)

-- the first active state from s on, n where there is none
pub record NextActive (tk : List ℕ) (b s n r : ℕ) : Type 0 where
  pub from : s ≤ r
  pub upto : r ≤ n
  pub none : (i : ℕ) → s ≤ i → i < r → held_at tk (place_in b i) ≡ 0
  pub active : r < n → (held_at tk (place_in b r) ≡ 0 → ⊥)
