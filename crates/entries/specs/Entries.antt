-- The layout of the entries, and what putting one leaves.
use Rattle.std.specs.Prelude.{◌≡◌, ℕ, zero, suc, ◌+◌, ◌-◌, ◌*◌, ◌<◌, ◌≤◌, Bool, true, false, ◌&&◌, List, map, length, ◌==◌, ◌≢◌, slice_index, slice_index_or, Float, Option, Some, None}
use Rattle.std.specs.Float.{nan}
use Rattle.lists.specs.Lists.{any, range}
use Rattle.model.specs.Basics.{0f}
use Rattle.entries.specs.declared.Entry.{Entry}

-- the start
abbrev pub no_entry : Entry
no_entry = record { hash = 0; len = 0; cost = 0f; graph = 0f; next = 0; join = 0 }

-- in the place i, which has the number i + 1
abbrev pub entry_in : (hs ns : List ℕ) → List Float → (i : ℕ) → Entry
entry_in hs ns xs i =
    record { hash = slice_index hs i; len = slice_index ns (i * 3); cost = slice_index_or xs (i * 2) nan; graph = slice_index_or xs (i * 2 + 1) nan; next = slice_index ns (i * 3 + 1); join = slice_index ns (i * 3 + 2) }

unfoldable pub entry_at : (hs ns : List ℕ) → List Float → (e : ℕ) → Entry
entry_at hs ns xs zero = no_entry
entry_at hs ns xs (suc i) = entry_in hs ns xs i

-- n entries from number `from` on
abbrev pub entries : (hs ns : List ℕ) → List Float → (from n : ℕ) → List Entry
entries hs ns xs from n = map (entry_at hs ns xs) (range from n)

-- word lists count as equal here where hash and number agree
abbrev pub same_key : Entry → Entry → Bool
same_key a b = a.hash == b.hash && a.len == b.len

-- entry e has b's words; some entry from `from` up to `to` has: the sums do not count
abbrev pub SameKeyIs : (hs ns : List ℕ) → (e : ℕ) → Entry → Bool → Type 0
SameKeyIs hs ns e b r = (xs : List Float) → r ≡ same_key b (entry_at hs ns xs e)

abbrev pub HasKeyIs : (hs ns : List ℕ) → (from to : ℕ) → Entry → Bool → Type 0
HasKeyIs hs ns from to b r = (xs : List Float) → r ≡ any (same_key b) (entries hs ns xs from (to - from))

-- places for n entries
pub record Room (hs ns : List ℕ) (xs : List Float) (n : ℕ) : Type 0 where
  pub hashes : n ≤ length hs
  pub nexts : n * 3 ≤ length ns
  pub sums : n * 2 ≤ length xs

-- place i is b's; every other is as it was
pub record EntryPut (hs ns : List ℕ) (xs : List Float) (hs' ns' : List ℕ) (xs' : List Float) (i : ℕ) (b : Entry) : Type 0 where
  pub is : entry_in hs' ns' xs' i ≡ b
  pub others : (j : ℕ) → (j ≢ i) → entry_in hs' ns' xs' j ≡ entry_in hs ns xs j

-- its words are there already; the places are full; or it is put
pub data PutNew (hs ns : List ℕ) (xs : List Float) (hs' ns' : List ℕ) (xs' : List Float) (from to places : ℕ) (b : Entry) : Option ℕ → Type 0 where
  was_present : any (same_key b) (entries hs ns xs from (to - from)) ≡ true → hs' ≡ hs → ns' ≡ ns → xs' ≡ xs → PutNew hs ns xs hs' ns' xs' from to places b (Some to)
  was_full : any (same_key b) (entries hs ns xs from (to - from)) ≡ false → places < to → hs' ≡ hs → ns' ≡ ns → xs' ≡ xs → PutNew hs ns xs hs' ns' xs' from to places b None
  was_put : any (same_key b) (entries hs ns xs from (to - from)) ≡ false → to ≤ places → EntryPut hs ns xs hs' ns' xs' (to - 1) b → PutNew hs ns xs hs' ns' xs' from to places b (Some (to + 1))
