-- What filling the wanted lists asks and leaves, one join at a time.
use Rattle.std.specs.Prelude.{◌≡◌, ℕ, ◌+◌, ◌-◌, ◌*◌, ◌^◌, ◌≤◌, ◌<◌, true, List, T, ℤ, length, Float, Option, Some, None, IfSome}
use Rattle.lists.specs.Lists.{◌∈◌}
use Rattle.real32.specs.Small.{huge}
use Rattle.model.specs.Basics.{◌≺◌}
use Rattle.records.specs.History.{History}
use Rattle.records.specs.Layout.{store}
use Rattle.records.specs.Stands.{Stands}
use Rattle.traceback.specs.Chain.{Walkable}
use Rattle.entries.specs.declared.Way.{Way}
use Rattle.entries.specs.Entries.{Room}
use Rattle.entries.specs.Ways.{FillIs}
use Rattle.below.specs.Stored.{first_at, count_at, is_wanted}
use Rattle.below.specs.Filling.{Outcome}
use Rattle.below.specs.Totals.{IsVisited}
use Rattle.below.specs.Short.{Short}
use Rattle.below.specs.Marks.{OwnReach, KeptReach}

-- record r's two numbers are put
pub record ListPut (lists lists' : List ℕ) (r f n : ℕ) : Type 0 where
  pub first : first_at lists' r ≡ f
  pub count : count_at lists' r ≡ n
  pub firsts : (j : ℕ) → (j ≡ r → ⊥) → first_at lists' j ≡ first_at lists j
  pub counts : (j : ℕ) → (j ≡ r → ⊥) → count_at lists' j ≡ count_at lists j

-- ---- one join

pub record OneAsks (rs : List ℕ) (ls : List ℤ) (gs : List Float) (used : ℕ) (lists hs ns : List ℕ) (xs : List Float) (places r free : ℕ) : Type 0 where
  pub walkable : Walkable rs ls used
  pub gaps_long : used * 2 ≤ length gs
  pub lists_long : used * 2 ≤ length lists
  pub room : Room hs ns xs places
  pub few : places < 2 ^ 31 - 2
  pub begins : 0 < r
  pub low : r ≤ used
  pub free_begins : 0 < free
  pub free_low : free ≤ places + 1
  pub short : Short lists hs ns xs used free

-- its list is made of its two ways; n is the next free entry, or none
pub record ListFilled (rs : List ℕ) (ls : List ℤ) (gs : List Float) (used : ℕ) (margin : Float) (cap : ℕ) (lists hs ns : List ℕ) (xs : List Float) (hs' ns' : List ℕ) (xs' : List Float) (places r free : ℕ) (n : Option ℕ) : Type 0 where
  pub own : Way
  pub kept : Way
  pub wanted : 0 < count_at lists r
  pub own_way : OwnReach rs ls used lists r own
  pub kept_way : KeptReach rs ls gs used lists r margin kept
  pub fill : FillIs hs ns xs hs' ns' xs' own kept margin cap free places n

pub data OneIs (rs : List ℕ) (ls : List ℤ) (gs : List Float) (used : ℕ) (margin : Float) (cap : ℕ) (lists hs ns : List ℕ) (xs : List Float) (lists' hs' ns' : List ℕ) (xs' : List Float) (places r free : ℕ) : Option ℕ → Type 0 where
  not_wanted : count_at lists r ≡ 0 → lists' ≡ lists → hs' ≡ hs → ns' ≡ ns → xs' ≡ xs → OneIs rs ls gs used margin cap lists hs ns xs lists' hs' ns' xs' places r free (Some free)
  no_place : ListFilled rs ls gs used margin cap lists hs ns xs hs' ns' xs' places r free None → OneIs rs ls gs used margin cap lists hs ns xs lists' hs' ns' xs' places r free None
  was_listed : (n : ℕ) → ListFilled rs ls gs used margin cap lists hs ns xs hs' ns' xs' places r free (Some n) → ListPut lists lists' r free (n - free)
      → OneIs rs ls gs used margin cap lists hs ns xs lists' hs' ns' xs' places r free (Some n)

-- ---- all of them

-- just the lists of the visited joins are wanted
pub record Fair (rs : List ℕ) (ls : List ℤ) (gs : List Float) (used : ℕ) (margin : Float) (cap : ℕ) (lists : List ℕ) (h : ℕ → History) (links : List ℕ) : Type 0 where
  pub stands : Stands (store rs ls gs) used h
  pub links_low : (l : ℕ) → l ∈ links → l ≤ used
  pub small : T (margin ≺ huge)
  pub only : (j : ℕ) → 0 < j → j ≤ used → is_wanted lists j ≡ true → IsVisited margin cap h links j
  pub all : (j : ℕ) → 0 < j → j ≤ used → IsVisited margin cap h links j → is_wanted lists j ≡ true

-- no list is there yet
pub record ListsAsk (rs : List ℕ) (ls : List ℤ) (gs : List Float) (used : ℕ) (margin : Float) (cap : ℕ) (lists hs ns : List ℕ) (xs : List Float) (places : ℕ) : Type 0 where
  pub walkable : Walkable rs ls used
  pub gaps_long : used * 2 ≤ length gs
  pub lists_long : used * 2 ≤ length lists
  pub room : Room hs ns xs places
  pub few : places < 2 ^ 31 - 2
  pub firsts : (j : ℕ) → 0 < j → j ≤ used → first_at lists j ≡ 0
  pub counts : (j : ℕ) → 0 < j → j ≤ used → count_at lists j ≤ 1
  pub h : ℕ → History
  pub links : List ℕ
  pub fair : Fair rs ls gs used margin cap lists h links

pub record ListsAre (rs : List ℕ) (ls : List ℤ) (gs : List Float) (used : ℕ) (margin : Float) (cap : ℕ) (lists lists' hs ns : List ℕ) (xs : List Float) (places : ℕ) (n : Option ℕ) : Type 0 where
  pub is : (h : ℕ → History) (links : List ℕ) → Fair rs ls gs used margin cap lists h links → Outcome h used margin cap links lists' hs ns xs places n
  pub short : IfSome n (Short lists' hs ns xs used)
