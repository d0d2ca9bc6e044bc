-- The kept readings as lent slices hold them, and the map of them: of each hash and number of words the best.
use Rattle.std.specs.Prelude.{◌≡◌, ℕ, ◌+◌, ◌*◌, ◌<◌, ◌≤◌, Bool, true, false, cond, not, ◌&&◌, ◌||◌, List, [], ◌∷◌, map, length, ◌==◌, ◌≢◌, nat_lt, slice_index, slice_index_or, Float, Option, Some, None}
use Rattle.std.specs.Float.{nan}
use Rattle.std.specs.Float.Ieee.{eq}
use Rattle.lists.specs.Lists.{keep_if, range}
use Rattle.model.specs.Basics.{◌≺◌, ◌≼◌}
use Rattle.kept_readings.specs.declared.KeptReading.{KeptReading}

-- in place i
abbrev pub kept_read_in : (hs ns : List ℕ) → List Float → (i : ℕ) → KeptReading
kept_read_in hs ns xs i =
    record { hash = slice_index hs i; len = slice_index ns (i * 4); state = slice_index ns (i * 4 + 1); entry = slice_index ns (i * 4 + 2); seq = slice_index ns (i * 4 + 3); rank = slice_index_or xs (i * 2) nan; cost = slice_index_or xs (i * 2 + 1) nan }

-- the first n
abbrev pub kept_list : (hs ns : List ℕ) → List Float → (n : ℕ) → List KeptReading
kept_list hs ns xs n = map (kept_read_in hs ns xs) (range 0 n)

-- places for n
pub record Room (hs ns : List ℕ) (xs : List Float) (n : ℕ) : Type 0 where
  pub hashes : n ≤ length hs
  pub links : n * 4 ≤ length ns
  pub sums : n * 2 ≤ length xs

-- word lists count as equal here where hash and number agree
abbrev pub same_kept : KeptReading → KeptReading → Bool
same_kept a b = a.hash == b.hash && a.len == b.len

-- a lower rank comes first, and of equal ranks the larger seq
abbrev pub sooner_kept : KeptReading → KeptReading → Bool
sooner_kept a b = a.rank ≺ b.rank || (eq a.rank b.rank && nat_lt b.seq a.seq)

-- a where it comes sooner, and else b
abbrev pub sooner_of : (a b : KeptReading) → KeptReading
sooner_of a b = cond (sooner_kept a b) a b

-- place i is k's; every other is as it was
pub record KeptPut (hs ns : List ℕ) (xs : List Float) (hs' ns' : List ℕ) (xs' : List Float) (i : ℕ) (k : KeptReading) : Type 0 where
  pub is : kept_read_in hs' ns' xs' i ≡ k
  pub others : (j : ℕ) → (j ≢ i) → kept_read_in hs' ns' xs' j ≡ kept_read_in hs ns xs j

-- none of the first n has k's words
abbrev pub NoneHas : (hs ns : List ℕ) → List Float → (n : ℕ) → KeptReading → Type 0
NoneHas hs ns xs n k = (i : ℕ) → i < n → same_kept k (kept_read_in hs ns xs i) ≡ false

-- the first place of k's words
pub data FoundAt (hs ns : List ℕ) (xs : List Float) (n : ℕ) (k : KeptReading) : Option ℕ → Type 0 where
  is_found : (i : ℕ) → i < n → NoneHas hs ns xs i k → same_kept k (kept_read_in hs ns xs i) ≡ true → FoundAt hs ns xs n k (Some i)
  not_found : NoneHas hs ns xs n k → FoundAt hs ns xs n k None

module _ {A : Type 0} (same sooner : A → A → Bool) where
  -- one more: it takes the place of the one with its words where it comes sooner, and stands last where there is none
  abbrev pub add_to : A → List A → List A
  add_to k [] = k ∷ []
  add_to k (x ∷ xs) = cond (same k x) (cond (sooner k x) k x ∷ xs) (x ∷ add_to k xs)

  -- all of these, from the first on
  abbrev pub all_from : List A → List A → List A
  all_from xs [] = xs
  all_from xs (k ∷ ks) = all_from (add_to k xs) ks

abbrev pub add_kept : List KeptReading → List KeptReading → List KeptReading
add_kept xs ks = all_from same_kept sooner_kept xs ks

abbrev pub all_of : List KeptReading → List KeptReading
all_of ks = add_kept [] ks

-- n places hold the map; these are added to it, or there are more then than the places
pub data Added (hs ns : List ℕ) (xs : List Float) (n : ℕ) (ks : List KeptReading) (places : ℕ) (hs' ns' : List ℕ) (xs' : List Float) : Option ℕ → Type 0 where
  are_added : (r : ℕ) → r ≤ places → kept_list hs' ns' xs' r ≡ add_kept (kept_list hs ns xs n) ks → Added hs ns xs n ks places hs' ns' xs' (Some r)
  are_more : places < length (add_kept (kept_list hs ns xs n) ks) → Added hs ns xs n ks places hs' ns' xs' None

-- those that rank below the bound
abbrev pub ranks_below : Float → KeptReading → Bool
ranks_below bound k = not (bound ≼ k.rank)

abbrev pub within : Float → List KeptReading → List KeptReading
within bound ks = keep_if (ranks_below bound) ks
