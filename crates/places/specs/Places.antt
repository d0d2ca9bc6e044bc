-- How many entries and kept readings the lent slices hold. Assumes nothing.
use Rattle.std.specs.Prelude.{◌≡◌, ℕ, ◌/◌, ◌≤◌, cond, ltb}
use Rattle.std.proofs.Common.{arith, lt-ltb, le-ltb}
use Rattle.lists.specs.Tests.{case, lt_or_le}

-- the lesser of two
abbrev pub least : ℕ → ℕ → ℕ
least a b = cond (ltb b a) b a

-- as many entries as the three slices hold
abbrev pub entry_places : (hashes nexts sums : ℕ) → ℕ
entry_places h x s = least (least h (x / 3)) (least (s / 2) 0x7fff_fff0)

-- as many kept readings as the three slices hold
abbrev pub kept_places : (hashes links sums : ℕ) → ℕ
kept_places h l s = least (least h (l / 4)) (least (s / 2) 0x7fff_fff0)

-- ---- none of the counts is passed

least_both : (a b : ℕ) → (least a b ≤ a) × (least a b ≤ b)
least_both a b = case (lt_or_le b a) (λ l. rw (lt-ltb b a l) (omega arith, omega arith)) (λ l. rw (le-ltb b a l) (omega arith, omega arith))

-- each of four
pub least_of_four : (a b c d : ℕ) → (least (least a b) (least c d) ≤ a) × (least (least a b) (least c d) ≤ b) × (least (least a b) (least c d) ≤ c) × (least (least a b) (least c d) ≤ d)
least_of_four a b c d =
    let x = least_both (least a b) (least c d) in
    let y = least_both a b in
    let z = least_both c d in
    (omega arith, omega arith, omega arith, omega arith)

module _ (h x s : ℕ) {r : ℕ} (is : r ≡ entry_places h x s) where
  -- numbers of entries fit
  pub entry_few : r ≤ 0x7fff_fff0
  entry_few = let z = (least_of_four h (x / 3) (s / 2) 0x7fff_fff0).3 in omega arith

module _ (h l s : ℕ) {r : ℕ} (is : r ≡ kept_places h l s) where
  -- numbers of kept readings fit
  pub kept_few : r ≤ 0x7fff_fff0
  kept_few = let z = (least_of_four h (l / 4) (s / 2) 0x7fff_fff0).3 in omega arith
