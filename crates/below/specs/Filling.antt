-- What filling the lists asks and leaves.
use Rattle.std.specs.Prelude.{◌≡◌, ℕ, suc, ◌*◌, ◌^◌, ◌-◌, ◌≤◌, ◌<◌, List, [], ◌∷◌, ◌++◌, map, T, eqb, ℤ, length, Float, Option, Some, None, IfSome}
use Rattle.lists.specs.Lists.{◌∈◌, firsts, sum}
use Rattle.real32.specs.Small.{huge}
use Rattle.model.specs.Basics.{◌≺◌}
use Rattle.model.specs.Readings.{Below}
use Rattle.records.specs.History.{History, tag}
use Rattle.records.specs.Layout.{store}
use Rattle.records.specs.Stands.{Stands}
use Rattle.histories.specs.Reading.{join_tag}
use Rattle.traceback.specs.Chain.{Walkable}
use Rattle.entries.specs.Entries.{Room}
use Rattle.below.specs.Lists.{below_of, visited_of}
use Rattle.below.specs.Stored.{Decoded, list_at}
use Rattle.below.specs.Short.{Short}

-- the joins that are visited below these histories
abbrev pub visited_below : (margin : Float) → (cap : ℕ) → List History → List (ℕ × ℕ)
visited_below margin cap [] = []
visited_below margin cap (x ∷ xs) = visited_of margin cap x ++ visited_below margin cap xs

-- the entries of all their lists, each join's once
abbrev pub entries_below : (margin : Float) → (cap : ℕ) → List History → ℕ
entries_below margin cap xs = sum (map (λ (v : ℕ × ℕ). v.1) (firsts (λ (a b : ℕ × ℕ). eqb a.0 b.0) [] (visited_below margin cap xs)))

-- a store that stands for some histories, a margin that is accepted, two numbers for each record, places for the entries, and records to begin from
pub record BelowAsks (rs : List ℕ) (ls : List ℤ) (gs : List Float) (used : ℕ) (margin : Float) (links lists hs ns : List ℕ) (xs : List Float) (places : ℕ) : Type 0 where
  pub walkable : Walkable rs ls used
  pub gaps_long : used * 2 ≤ length gs
  pub h : ℕ → History
  pub stands : Stands (store rs ls gs) used h
  pub fair : T (margin ≺ huge)
  pub links_low : (l : ℕ) → l ∈ links → l ≤ used
  pub lists_long : used * 2 ≤ length lists
  pub room : Room hs ns xs places
  pub few : places < 2 ^ 31 - 2

-- every entry stands for a path, and the list of each history's newest join for what is listed below that
pub record Listed (h : ℕ → History) (used : ℕ) (margin : Float) (cap : ℕ) (links lists hs ns : List ℕ) (xs : List Float) (n : ℕ) : Type 0 where
  pub bs : List Below
  pub many : length bs ≡ n
  pub decoded : Decoded h used hs ns xs bs
  pub lists_are : (l : ℕ) → l ∈ links → (e : ℕ) → e ≤ used → tag (h e) ≡ join_tag (h l) → list_at lists bs e ≡ below_of margin cap (h e)

-- the next free entry; or none, where the lists have more entries than there are places
pub data Outcome (h : ℕ → History) (used : ℕ) (margin : Float) (cap : ℕ) (links lists hs ns : List ℕ) (xs : List Float) (places : ℕ) : Option ℕ → Type 0 where
  was_full : places < entries_below margin cap (map h links) → Outcome h used margin cap links lists hs ns xs places None
  was_filled : (n : ℕ) → n ≡ entries_below margin cap (map h links) → n ≤ places → Listed h used margin cap links lists hs ns xs n → Outcome h used margin cap links lists hs ns xs places (Some (suc n))

-- the definition's lists, whatever histories the records stand for
pub record BelowIs (rs : List ℕ) (ls : List ℤ) (gs : List Float) (used : ℕ) (margin : Float) (cap : ℕ) (links lists hs ns : List ℕ) (xs : List Float) (places : ℕ) (r : Option ℕ) : Type 0 where
  pub is : (h : ℕ → History) → Stands (store rs ls gs) used h → Outcome h used margin cap links lists hs ns xs places r
  -- a list's entries are among those put, and each has at most as many words as its join has records before it
  pub short : IfSome r (Short lists hs ns xs used)
