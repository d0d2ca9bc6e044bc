-- Whole paths: what a token carries where the Rust has its chain of links.
use Rattle.std.specs.Prelude.{ℕ, Bool, false, not, ◌&&◌, ◌||◌, cond, List, [], ◌∷◌, ◌++◌, map, ℤ, ltb, eqb, length, Float}
use Rattle.std.proofs.Math.Option.{Option, none, some}
use Rattle.lists.specs.Lists.{any, eq_list, firsts}
use Rattle.model.specs.Basics.{◌≼◌, eqℤ, nonzero}
use Rattle.model.specs.Graph.{Arc}

-- An arc put on a path: its own fresh number, the frame, and the phone it starts, 0 for none.
-- `beside` is true of the last arc of an arrival that lost and is kept: its record is held beside the join (the Rust's `Kept`), and is none of the store's.
pub record Step : Type 0 where
  pub number : ℕ
  pub arc : Arc
  pub frame : ℕ
  pub starts : ℤ
  pub beside : Bool

-- A branch put on a path (the Rust's `Join` and `Kept`): its own fresh number, the frame, the winner's phone at the merge, the loser's, and what the loser cost over the winner.
pub record Merge : Type 0 where
  pub number : ℕ
  pub frame : ℕ
  pub phone : ℤ
  pub kept_phone : ℤ
  pub cost : Float
  pub graph : Float

-- Newest first. A branch holds the loser's whole path, branches too, beside the winner's.
pub data Path : Type 0 where
  empty_path : Path
  arc_onto : Step → Path → Path
  branch_on : Merge → (kept : Path) → Path → Path

-- the Rust's `Token`, with a path for its link
pub record Token : Type 0 where
  pub cost : Float
  pub graph : Float
  pub path : Path
  pub phone : ℤ
  pub seq : ℕ

-- a place for each state, so that active states are visited in ascending number
abbrev pub Table : Type 0
Table = List (Option Token)

abbrev pub tokens : Table → List Token
tokens [] = []
tokens (none ∷ ts) = tokens ts
tokens (some t ∷ ts) = t ∷ tokens ts

abbrev pub paths : Table → List Path
paths ts = map (λ (t : Token). t.path) (tokens ts)

-- ---- links

abbrev pub word : Step → ℤ
word s = s.arc.olabel

-- an arc with a word or a change of phone
abbrev pub is_link : Step → Bool
is_link s = nonzero (word s) || nonzero s.starts

-- w in front where it is a word
abbrev pub with_word : ℤ → List ℤ → List ℤ
with_word w ws = cond (nonzero w) (w ∷ ws) ws

-- the numbers of the links and branches of a path, newest first, and no kept path's
unfoldable pub links : Path → List ℕ
links empty_path = []
links (arc_onto s p) = cond (is_link s) (s.number ∷ links p) (links p)
links (branch_on m k p) = m.number ∷ links p

-- the words of a path, newest first
unfoldable pub words_back : Path → List ℤ
words_back empty_path = []
words_back (arc_onto s p) = with_word (word s) (words_back p)
words_back (branch_on m k p) = words_back p

abbrev pub memℕ : ℕ → List ℕ → Bool
memℕ n = any (eqb n)

abbrev pub same_words : List ℤ → List ℤ → Bool
same_words = eq_list eqℤ

-- ---- the Rust's `worth_keeping`

-- A path above the first of its links and branches that is among `others`: the part above the shared record.
unfoldable pub above : List ℕ → Path → Path
above others empty_path = empty_path
above others (arc_onto s p) = cond (is_link s && memℕ s.number others) empty_path (arc_onto s (above others p))
above others (branch_on m k p) = cond (memℕ m.number others) empty_path (branch_on m k (above others p))

-- some branch's kept history costs at most `slack`
unfoldable pub kept_within : Float → Path → Bool
kept_within slack empty_path = false
kept_within slack (arc_onto s p) = kept_within slack p
kept_within slack (branch_on m k p) = m.cost ≼ slack || kept_within slack p

-- above the shared record the loser has a kept history that still fits, or the words differ
unfoldable pub worth_keeping : (won lost : Path) → (slack : Float) → Bool
worth_keeping won lost slack =
    let w = above (links lost) won in
    let l = above (links won) lost in
    kept_within slack l || not (same_words (words_back w) (words_back l))

-- ---- records: what the store holds

-- the numbers of the records that a path reaches, through `prev` and through kept histories
unfoldable pub records : Path → List ℕ
records empty_path = []
records (arc_onto s p) = cond (is_link s && not s.beside) (s.number ∷ records p) (records p)
records (branch_on m k p) = m.number ∷ (records k ++ records p)

abbrev pub records_of : List Path → List ℕ
records_of [] = []
records_of (p ∷ ps) = records p ++ records_of ps

-- how many records are live, where these are the paths of the tokens and of what is in hand
unfoldable pub live : List Path → ℕ
live ps = length (firsts eqb [] (records_of ps))

-- What the lent stores hold: the meter of the records and the places of the others. The definition with `unlimited` is the copy that is told of 13 to 15.
pub record Limits : Type 0 where
  pub full : List Path → Bool  -- 13: these paths are live, and a record is wanted
  pub queue : Option ℕ  -- 14: the places of the epsilon queue
  pub below : Option ℕ  -- 15: the places for the lists below joins
  pub kept : Option ℕ  -- 15: the places for the kept readings

-- a store of so many places: full where live records fill it
unfoldable pub full_at : ℕ → List Path → Bool
full_at cap ps = not (ltb (live ps) cap)

unfoldable pub unlimited : Limits
unlimited = record { full = λ ps. false; queue = none; below = none; kept = none }
