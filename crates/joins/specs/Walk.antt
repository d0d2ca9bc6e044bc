-- What the steps of the comparing walk give.
use Rattle.std.specs.Prelude.{◌≡◌, ℕ, ◌-◌, ◌*◌, ◌≤◌, ◌<◌, Bool, true, not, ◌&&◌, List, [], ◌∷◌, ℤ, ltb, length, Float, Option, Some, None}
use Rattle.model.specs.Basics.{◌≼◌}
use Rattle.model.specs.Path.{with_word, same_words}
use Rattle.records.specs.History.{History, tag}
use Rattle.records.specs.Layout.{Store, store, Rec, is_link_rec, prev_at, word_at}
use Rattle.records.specs.Stands.{Stands}
use Rattle.records.specs.Shape.{Shape}
use Rattle.joins.specs.Worth.{words_of, above_of, worth}

-- a join whose kept history costs at most `slack`
abbrev pub join_within : Float → Rec → Bool
join_within slack r = not (is_link_rec r) && (r.beside.cost ≼ slack)

unfoldable pub under : ℕ → ℕ → Bool
under k n = ltb n k

-- the part of record r's history above record m: the model's numbers ascend with the records'
abbrev pub part_up_to : (ℕ → History) → (m r : ℕ) → History
part_up_to h m r = above_of (under (tag (h m))) (h r)

abbrev pub words_to : (ℕ → History) → (m r : ℕ) → List ℤ
words_to h m r = words_of (part_up_to h m r)

-- what the comparison of words asks of the first n records
pub record Chains (rs : List ℕ) (ls : List ℤ) (n : ℕ) : Type 0 where
  pub records : n * 8 ≤ length rs
  pub labels : n * 2 ≤ length ls
  pub prev_low : (k : ℕ) → k < n → prev_at rs k ≤ k

-- a store's shape gives it
pub chains_of : (rs : List ℕ) (ls : List ℤ) (gs : List Float) (n : ℕ) → Shape (store rs ls gs) n → Chains rs ls n
chains_of rs ls gs n ok = record { records = ok.room.records; labels = ok.room.labels; prev_low = ok.prev_low }

-- at record m: the words above it decide
pub record MetAt (s : Store) (n won lost : ℕ) (slack : Float) (m : ℕ) : Type 0 where
  pub low : m ≤ n
  pub worth_is : (h : ℕ → History) (over : ℤ) → Stands s n h → worth (h won) (h lost) over slack ≡ not (same_words (words_to h m won) (with_word over (words_to h m lost)))

-- a kept history fits: the loser is worth keeping, whatever stands on top of it
pub record FitsAbove (s : Store) (n won lost : ℕ) (slack : Float) : Type 0 where
  pub worth_is : (h : ℕ → History) (over : ℤ) → Stands s n h → worth (h won) (h lost) over slack ≡ true

abbrev pub MeetingIs : Store → (n won lost : ℕ) → (slack : Float) → Option ℕ → Type 0
MeetingIs s n won lost slack (Some m) = MetAt s n won lost slack m
MeetingIs s n won lost slack None = FitsAbove s n won lost slack

-- From record r down to record m, the next word is that of record q, if q is above m.
pub record NextWord (rs : List ℕ) (ls : List ℤ) (n r m q : ℕ) : Type 0 where
  pub low : q ≤ r
  pub none : q ≤ m → (gs : List Float) (h : ℕ → History) → Stands (store rs ls gs) n h → words_to h m r ≡ []
  pub some : m < q → (gs : List Float) (h : ℕ → History) → Stands (store rs ls gs) n h → words_to h m r ≡ word_at ls (q - 1) ∷ words_to h m (prev_at rs (q - 1))

-- whether the words above record m are the same, with `over` on top of the loser
pub record SameWords (rs : List ℕ) (ls : List ℤ) (n won lost : ℕ) (over : ℤ) (m : ℕ) (r : Bool) : Type 0 where
  pub is : (gs : List Float) (h : ℕ → History) → Stands (store rs ls gs) n h → r ≡ same_words (words_to h m won) (with_word over (words_to h m lost))

-- the answer r, whatever histories the records stand for
pub record WorthIs (s : Store) (n won lost : ℕ) (over : ℤ) (slack : Float) (r : Bool) : Type 0 where
  pub is : (h : ℕ → History) → Stands s n h → r ≡ worth (h won) (h lost) over slack
