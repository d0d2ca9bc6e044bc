-- The places that are counted are there. Assumes nothing.
use Rattle.std.specs.Prelude.{◌≡◌, ℕ, ◌/◌, ◌≤◌, List, length, Float}
use Rattle.std.proofs.Common.{arith}
use Rattle.entries.specs.Entries.{Room as EntryRoom}
use Rattle.kept_readings.specs.Kept.{Room}
use Rattle.places.specs.Places.{entry_places, kept_places, least_of_four}

-- room for fewer
pub room_less : {hs ns : List ℕ} {xs : List Float} {n m : ℕ} → Room hs ns xs n → m ≤ n → Room hs ns xs m
room_less R l = let h = R.hashes in let k = R.links in let s = R.sums in record { hashes = omega arith; links = omega arith; sums = omega arith }

module _ (h x s : ℕ) {r : ℕ} (is : r ≡ entry_places h x s) where
  -- the stores of entries hold them
  pub entry_room : {hs ns : List ℕ} {xs : List Float} → length hs ≡ h → length ns ≡ x → length xs ≡ s → EntryRoom hs ns xs r
  entry_room p q v =
      let z = least_of_four h (x / 3) (s / 2) 0x7fff_fff0 in
      record { hashes = omega arith; nexts = omega arith; sums = omega arith }

module _ (h l s : ℕ) {r : ℕ} (is : r ≡ kept_places h l s) where
  -- the stores of kept readings hold them
  pub kept_room : {hs ns : List ℕ} {xs : List Float} → length hs ≡ h → length ns ≡ l → length xs ≡ s → Room hs ns xs r
  kept_room p q v =
      let z = least_of_four h (l / 4) (s / 2) 0x7fff_fff0 in
      record { hashes = omega arith; links = omega arith; sums = omega arith }
