-- The paths of two ways down from a join, and the list that is made of them.
use Rattle.std.specs.Prelude.{◌≡◌, ℕ, ◌+◌, ◌-◌, ◌*◌, ◌%◌, ◌^◌, ◌<◌, ◌≤◌, Bool, true, false, cond, not, ◌&&◌, ◌||◌, T, ◌⊎◌, List, [], ◌++◌, map, length, take, ◌==◌, slice_index_or, Float, Option, Some, None, IfSome}
use Rattle.lists.specs.Lists.{keep_if, sort_by, firsts, range}
use Rattle.model.specs.Basics.{◌≺◌, ◌≼◌, ◌⊕◌}
use Rattle.entries.specs.declared.Entry.{Entry}
use Rattle.entries.specs.declared.Way.{Way}
use Rattle.entries.specs.Entries.{no_entry, entry_at, entries, same_key, Room}

-- entry e of the next join's list, reached by this way
abbrev pub by_way : (hs ns : List ℕ) → List Float → Way → (e : ℕ) → Entry
by_way hs ns xs w e =
    let b = entry_at hs ns xs e in
    record { hash = (b.hash * w.shift % 2 ^ 64 + w.hash) % 2 ^ 64; len = b.len + w.len; cost = w.cost ⊕ b.cost; graph = w.graph ⊕ b.graph; next = e; join = w.join }

-- all of them
abbrev pub way_entries : (hs ns : List ℕ) → List Float → Way → List Entry
way_entries hs ns xs w = map (by_way hs ns xs w) (range w.first w.count)

-- the entries of a way's list have places, and no number of words passes u32
pub record WayAsks (hs ns : List ℕ) (xs : List Float) (w : Way) : Type 0 where
  pub room : Room hs ns xs (w.first + w.count - 1)
  pub fits : w.first + w.count < 2 ^ 32
  pub lens : (i : ℕ) → i < w.count → (entry_at hs ns xs (w.first + i)).len + w.len < 2 ^ 32

-- Costs do not fall, and none is a NaN.
abbrev pub Rising : List Entry → Type 0
Rising es = (i j : ℕ) → i ≤ j → j < length es → T ((slice_index_or es i no_entry).cost ≼ (slice_index_or es j no_entry).cost)

-- the margin cuts the n-th, and none before it
pub record WithinIs (es : List Entry) (margin : Float) (n : ℕ) : Type 0 where
  pub few : n ≤ length es
  pub passed : (i : ℕ) → i < n → (margin ≺ (slice_index_or es i no_entry).cost) ≡ false
  pub cut : n < length es → (margin ≺ (slice_index_or es n no_entry).cost) ≡ true

-- the own way's path comes next
abbrev pub own_next : (hs ns : List ℕ) → List Float → (own kept : Way) → (i n j m : ℕ) → Bool
own_next hs ns xs own kept i n j m = not (i == n) && (j == m || not ((by_way hs ns xs kept (kept.first + j)).cost ≺ (by_way hs ns xs own (own.first + i)).cost))

-- i of the n own paths and j of the m kept ones are done
pub record NextAsks (hs ns : List ℕ) (xs : List Float) (own kept : Way) (i n j m : ℕ) : Type 0 where
  pub own_way : WayAsks hs ns xs own
  pub kept_way : WayAsks hs ns xs kept
  pub own_few : n ≤ own.count
  pub kept_few : m ≤ kept.count
  pub own_done : i ≤ n
  pub kept_done : j ≤ m

pub record PickAsks (hs ns : List ℕ) (xs : List Float) (own kept : Way) (i j : ℕ) (takes-own : Bool) : Type 0 where
  pub own_way : WayAsks hs ns xs own
  pub kept_way : WayAsks hs ns xs kept
  pub in_own : takes-own ≡ true → i < own.count
  pub in_kept : takes-own ≡ false → j < kept.count

abbrev pub picked : (hs ns : List ℕ) → List Float → (own kept : Way) → (i j : ℕ) → (takes-own : Bool) → Entry
picked hs ns xs own kept i j takes-own = cond takes-own (by_way hs ns xs own (own.first + i)) (by_way hs ns xs kept (kept.first + j))

-- the `cap` cheapest that the margin does not cut, one for each word list; on a tie the own one, which stands first
unfoldable pub list_of : (margin : Float) → (cap : ℕ) → (own kept : List Entry) → List Entry
list_of margin cap own kept = take cap (firsts same_key [] (sort_by (λ (a b : Entry). a.cost ≺ b.cost) (keep_if (λ (b : Entry). not (margin ≺ b.cost)) (own ++ kept))))

-- Both ways lead to entries before `from`.
pub record FillAsks (hs ns : List ℕ) (xs : List Float) (own kept : Way) (from places : ℕ) : Type 0 where
  pub room : Room hs ns xs places
  pub few : places < 2 ^ 31 - 2
  pub begins : 0 < from
  pub free : from ≤ places + 1
  pub own_way : WayAsks hs ns xs own
  pub kept_way : WayAsks hs ns xs kept
  pub own_before : own.first + own.count ≤ from
  pub kept_before : kept.first + kept.count ≤ from

-- The entries before `from` are as they were. Where costs rise along both ways the list stands at the entries from `from` on, or it has no place.
pub record FillIs (hs ns : List ℕ) (xs : List Float) (hs' ns' : List ℕ) (xs' : List Float) (own kept : Way) (margin : Float) (cap from places : ℕ) (r : Option ℕ) : Type 0 where
  pub before : (e : ℕ) → e < from → entry_at hs' ns' xs' e ≡ entry_at hs ns xs e
  pub fits : IfSome r (λ to. to ≤ places + 1)
  pub on : IfSome r (λ to. from ≤ to)
  pub is : let es = list_of margin cap (way_entries hs ns xs own) (way_entries hs ns xs kept) in
      Rising (way_entries hs ns xs own) → Rising (way_entries hs ns xs kept) → ((r ≡ None) × (places + 1 < from + length es)) ⊎ ((r ≡ Some (from + length es)) × (entries hs' ns' xs' from (length es) ≡ es))
