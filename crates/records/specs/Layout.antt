-- The layout of the record store: record number k + 1 stands at k. The strides stand in these accessors, in what a put and a compaction write, and in every contract that asks for places.
use Rattle.std.specs.Prelude.{ℕ, ◌+◌, ◌*◌, ◌≤◌, Bool, ◌||◌, List, ℤ, pos, length, get_or, Float}
use Rattle.std.specs.Float.{nan}
use Rattle.model.specs.Basics.{nonzero}
use Rattle.records.specs.declared.Kept.{Kept}
use Rattle.records.specs.History.{Beside}

abbrev pub prev_at : List ℕ → ℕ → ℕ
prev_at rs k = get_or rs (k * 8) 0

abbrev pub frame_at : List ℕ → ℕ → ℕ
frame_at rs k = get_or rs (k * 8 + 1) 0

-- the phone that it starts, 0 for none
abbrev pub starts_at : List ℕ → ℕ → ℕ
starts_at rs k = get_or rs (k * 8 + 2) 0

-- the newest record of the kept history, 0 for none
abbrev pub kept_at : List ℕ → ℕ → ℕ
kept_at rs k = get_or rs (k * 8 + 3) 0

abbrev pub kept_starts_at : List ℕ → ℕ → ℕ
kept_starts_at rs k = get_or rs (k * 8 + 4) 0

abbrev pub kept_phone_at : List ℕ → ℕ → ℕ
kept_phone_at rs k = get_or rs (k * 8 + 5) 0

abbrev pub winner_at : List ℕ → ℕ → ℕ
winner_at rs k = get_or rs (k * 8 + 6) 0

-- scratch of the compaction
abbrev pub mark_at : List ℕ → ℕ → ℕ
mark_at rs k = get_or rs (k * 8 + 7) 0

abbrev pub word_at : List ℤ → ℕ → ℤ
word_at ls k = get_or ls (k * 2) (pos 0)

abbrev pub kept_word_at : List ℤ → ℕ → ℤ
kept_word_at ls k = get_or ls (k * 2 + 1) (pos 0)

-- what the kept history cost over the winner
abbrev pub cost_at : List Float → ℕ → Float
cost_at gs k = get_or gs (k * 2) nan

abbrev pub graph_at : List Float → ℕ → Float
graph_at gs k = get_or gs (k * 2 + 1) nan

-- the three lists at one moment
pub record Store : Type 0 where
  pub records : List ℕ
  pub labels : List ℤ
  pub gaps : List Float

abbrev pub store : List ℕ → List ℤ → List Float → Store
store rs ls gs = record { records = rs; labels = ls; gaps = gs }

-- a record, read out
pub record Rec : Type 0 where
  pub prev : ℕ
  pub frame : ℕ
  pub kept : ℕ
  pub word : ℤ
  pub starts : ℤ
  pub beside : Beside

unfoldable pub rec_at : Store → ℕ → Rec
rec_at s k =
    record {
      prev = prev_at s.records k;
      frame = frame_at s.records k;
      kept = kept_at s.records k;
      word = word_at s.labels k;
      starts = pos (starts_at s.records k);
      beside = record {
        word = kept_word_at s.labels k;
        starts = pos (kept_starts_at s.records k);
        cost = cost_at s.gaps k;
        graph = graph_at s.gaps k;
        phone = pos (kept_phone_at s.records k);
        winner = pos (winner_at s.records k);
      };
    }

-- a link has a word or starts a phone, and a join has neither
abbrev pub is_link_rec : Rec → Bool
is_link_rec r = nonzero r.word || nonzero r.starts

-- what the code hands over for a join
abbrev pub beside_in : Kept → Beside
beside_in k = record { word = k.word; starts = pos k.starts; cost = k.cost; graph = k.graph; phone = pos k.phone; winner = pos k.winner }

-- places for n records
pub record Room (s : Store) (n : ℕ) : Type 0 where
  pub records : n * 8 ≤ length s.records
  pub labels : n * 2 ≤ length s.labels
  pub gaps : n * 2 ≤ length s.gaps
