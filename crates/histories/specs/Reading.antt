-- What a history reads: its words down to its newest join, or down to the start.
use Rattle.std.specs.Prelude.{◌≡◌, ℕ, suc, ◌+◌, ◌*◌, ◌%◌, ◌^◌, ◌≤◌, Bool, cond, not, ◌&&◌, ◌||◌, List, length, ℤ, pos, ◌==◌, Float}
use Rattle.model.specs.Basics.{nonzero, unsigned}
use Rattle.model.specs.Path.{same_words}
use Rattle.model.specs.Hash.{hash_base, hash_words, shift_past}
use Rattle.records.specs.History.{History, no_history, link_onto, join_on, tag}
use Rattle.records.specs.Layout.{store, word_at, starts_at}
use Rattle.records.specs.Stands.{Stands}
use Rattle.joins.specs.Worth.{words_of, above_of}
use Rattle.joins.specs.Walk.{under, words_to}
use Rattle.histories.specs.declared.Hashed.{Hashed}

-- one more than the newest join's number, 0 for none
unfoldable pub join_tag : History → ℕ
join_tag no_history = 0
join_tag (link_onto n f w s t) = join_tag t
join_tag (join_on n f b k t) = suc n

-- where the reading of a history ends, by the same measure
abbrev pub end_tag : (to_join_lem : Bool) → History → ℕ
end_tag to_join_lem x = cond to_join_lem (join_tag x) 0

-- its words above that, newest first
abbrev pub read_words : (to_join_lem : Bool) → History → List ℤ
read_words to_join_lem x = words_of (above_of (under (end_tag to_join_lem x)) x)

-- the same end and the same words
unfoldable pub same_reading : (to_join_lem : Bool) → (x y : History) → Bool
same_reading to_join_lem x y = end_tag to_join_lem x == end_tag to_join_lem y && same_words (read_words to_join_lem x) (read_words to_join_lem y)

-- the record at which the reading of record r's history ends
pub record EndIs (rs : List ℕ) (ls : List ℤ) (n r : ℕ) (to_join_lem : Bool) (e : ℕ) : Type 0 where
  pub low : e ≤ r
  pub is : (gs : List Float) (h : ℕ → History) → Stands (store rs ls gs) n h → tag (h e) ≡ end_tag to_join_lem (h r)

-- whether record k + 1 is a join
abbrev pub is_join_at : List ℕ → List ℤ → ℕ → Bool
is_join_at rs ls k = not (nonzero (word_at ls k) || nonzero (pos (starts_at rs k)))

-- the hash of words, the factor past them, and how many there are
abbrev pub hashed : List ℤ → Hashed
hashed ws = record { hash = hash_words ws; shift = shift_past ws; len = length ws }

-- with one more word, older than these
unfoldable pub older : Hashed → ℤ → Hashed
older x w = record { hash = (x.hash + unsigned w * x.shift % 2 ^ 64) % 2 ^ 64; shift = x.shift * hash_base % 2 ^ 64; len = x.len + 1 }

-- with one more, newer than these; 0 is none
unfoldable pub newer : Hashed → ℤ → Hashed
newer x w = cond (nonzero w) (record { hash = (x.hash * hash_base % 2 ^ 64 + unsigned w) % 2 ^ 64; shift = x.shift * hash_base % 2 ^ 64; len = x.len + 1 }) x

-- of the words above record m, at most one for each record
pub record HashIs (rs : List ℕ) (ls : List ℤ) (n r m : ℕ) (x : Hashed) : Type 0 where
  pub low : m ≤ r → x.len + m ≤ r
  pub is : (gs : List Float) (h : ℕ → History) → Stands (store rs ls gs) n h → x ≡ hashed (words_to h m r)

-- the key of a reading that ends at record e
abbrev pub key_of : (e : ℕ) → List ℤ → ℕ
key_of e ws = (e * shift_past ws + hash_words ws) % 2 ^ 64

-- record r's key
pub record KeyIs (rs : List ℕ) (ls : List ℤ) (n r : ℕ) (to_join_lem : Bool) (k : ℕ) : Type 0 where
  pub e : ℕ
  pub end : EndIs rs ls n r to_join_lem e
  pub is : (gs : List Float) (h : ℕ → History) → Stands (store rs ls gs) n h → k ≡ key_of e (words_to h e r)

-- whether the two read the same
pub record SameIs (rs : List ℕ) (ls : List ℤ) (n a b : ℕ) (to_join_lem : Bool) (r : Bool) : Type 0 where
  pub is : (gs : List Float) (h : ℕ → History) → Stands (store rs ls gs) n h → r ≡ same_reading to_join_lem (h a) (h b)
