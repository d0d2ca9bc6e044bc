-- A pass over the active states, block by block. Assumes nothing.
use mathlib.Core.Path.{◌≡◌, sym, ap, ap₂, ◌∙◌}
use Prim.Native.Nat.{ℕ, ◌+◌, ◌-◌, ◌*◌, ◌/◌, ◌%◌, ◌^◌, ◌≤◌, ◌<◌, min}
use native.Mathlib.Nat.{le-min, min-le_left, min-le_right}
use native.Mathlib.Omega.{arith}
use mathlib.Core.List.{List}
use lib.Count.{count_trailing_zeros}
use lib.Dec.{ltb}
use lib.Pow.{shr_le}
use Rattle.lists.specs.Tests.{case, lt_or_le}
use Rattle.tokens.specs.Layout.{place_in, active_in, requeued_in, block_of, bit_of, bit_at, held_at, requeued_at, FirstBit, NextActive}
use Rattle.tokens.specs.Held.{held_marked, held_unmarked, held_test}
use Rattle.tokens.proofs.Bits.{bit_of_zero, bit_shifted, bit_above, trailing_none, trailing_some}
use Rattle.tokens.proofs.Marks.{block_of_lem, bit_of_lem}

-- ---- the first bit

module _ (n j : ℕ) (l : j < 16) where
  bit_from : (i : ℕ) → j ≤ i → bit_at n i ≡ bit_at (n / 2 ^ j) (i - j)
  bit_from i a = let e : i ≡ j + (i - j) = omega arith in ap (bit_at n) e ∙ sym (bit_shifted j n (i - j))

  pub no_bit : n / 2 ^ j ≡ 0 → FirstBit n j 16
  no_bit z =
      record {
        from = omega arith;
        upto = omega arith;
        none = λ i a b. bit_from i a ∙ ap (λ (x : ℕ). bit_at x (i - j)) z ∙ bit_of_zero (i - j);
        is_set = λ b. absurd (omega arith);
        found = λ d. absurd (d z);
      }

  module _ (small : n < 65536) (d : n / 2 ^ j ≡ 0 → ⊥) where
    abbrev first : ℕ
    first = j + count_trailing_zeros 32 (n / 2 ^ j)

    first-set : bit_at n first ≡ 1
    first-set = sym (bit_shifted j n (count_trailing_zeros 32 (n / 2 ^ j))) ∙ trailing_some 32 (n / 2 ^ j) (omega (arith, d)) (omega (arith, shr_le n j))

    pub first_low : first < 16
    first_low = case (lt_or_le first 16) (λ a. a) (λ a. absurd (omega (arith, first-set, bit_above 16 n first small a)))

    pub one_bit : FirstBit n j first
    one_bit =
        record {
          from = omega arith;
          upto = omega (arith, first_low);
          none = λ i a b. bit_from i a ∙ trailing_none 32 (n / 2 ^ j) (i - j) (omega arith);
          is_set = λ b. first-set;
          found = λ e. first_low;
        }

-- ---- states by the marks of their blocks

module _ (tk : List ℕ) (b : ℕ) (low : b ≤ 1) where
  mark_is : (s : ℕ) → bit_at (active_in tk (block_of (place_in b s))) (bit_of (place_in b s)) ≡ bit_at (active_in tk (place_in b (s / 16))) (s % 16)
  mark_is s = ap₂ (λ (p j : ℕ). bit_at (active_in tk p) j) (block_of_lem b s low) (bit_of_lem b s low)

  pub active_test : (s : ℕ) → ltb 0 (bit_at (active_in tk (place_in b (s / 16))) (s % 16)) ≡ ltb 0 (held_at tk (place_in b s))
  active_test s = ap (ltb 0) (sym (mark_is s)) ∙ held_test tk (place_in b s)

  pub requeued_test : (s : ℕ) → ltb 0 (bit_at (requeued_in tk (place_in b (s / 16))) (s % 16)) ≡ ltb 0 (requeued_at tk (place_in b s))
  unfolding requeued_at
  requeued_test s = ap₂ (λ (p j : ℕ). ltb 0 (bit_at (requeued_in tk p) j)) (sym (block_of_lem b s low)) (sym (bit_of_lem b s low))

  empty_block : (i : ℕ) → active_in tk (place_in b (i / 16)) ≡ 0 → held_at tk (place_in b i) ≡ 0
  empty_block i e = held_unmarked tk (place_in b i) (mark_is i ∙ ap (λ (n : ℕ). bit_at n (i % 16)) e ∙ bit_of_zero (i % 16))

  -- a block, and the first of its marks from one on
  module _ (k j r : ℕ) (f : FirstBit (active_in tk (place_in b k)) j r) where
    pub before_first : (i : ℕ) → k * 16 + j ≤ i → i < k * 16 + r → held_at tk (place_in b i) ≡ 0
    before_first i a l =
        let within : i < k * 16 + 16 = omega (arith, f.upto) in
        let block : i / 16 ≡ k = omega arith in
        held_unmarked tk (place_in b i) (mark_is i ∙ ap (λ (x : ℕ). bit_at (active_in tk (place_in b x)) (i % 16)) block ∙ f.none (i % 16) (omega arith) (omega arith))

    pub at_first : r < 16 → held_at tk (place_in b (k * 16 + r)) ≡ 0 → ⊥
    at_first l z =
        let s = k * 16 + r in
        let block : s / 16 ≡ k = omega arith in
        let bit : s % 16 ≡ r = omega arith in
        omega (arith, z, held_marked tk (place_in b s) (mark_is s ∙ ap₂ (λ (x y : ℕ). bit_at (active_in tk (place_in b x)) y) block bit ∙ f.is_set l))

  -- no mark in the rest of a block, and then empty blocks
  pub passed : (s j : ℕ) → FirstBit (active_in tk (place_in b (s / 16))) (s % 16) j → 16 ≤ j
      → (i : ℕ) → s ≤ i → (s / 16 + 1 ≤ i / 16 → active_in tk (place_in b (i / 16)) ≡ 0) → held_at tk (place_in b i) ≡ 0
  passed s j f full i a empty =
      case (lt_or_le (i / 16) (s / 16 + 1))
      (λ h. before_first (s / 16) (s % 16) j f i (omega arith) (omega arith))
      (λ h. empty_block i (empty h))

  -- a block that is found has a mark
  pub found_in : (k r : ℕ) → (active_in tk (place_in b k) ≡ 0 → ⊥) → FirstBit (active_in tk (place_in b k)) 0 r → r < 16
  found_in k r some f = f.found (λ e. some (omega (arith, e)))

  -- m, where it is among the n states
  pub next_is : (s n m r : ℕ) → s ≤ n → s ≤ m → ((i : ℕ) → s ≤ i → i < m → held_at tk (place_in b i) ≡ 0) → (held_at tk (place_in b m) ≡ 0 → ⊥)
      → r ≡ min m n → NextActive tk b s n r
  next_is s n m r a l none active e =
      record {
        from = omega (arith, le-min a l, e);
        upto = omega (arith, min-le_right m n);
        none = λ i h k. none i h (omega (arith, min-le_left m n));
        active = λ h z. active (ap (λ (x : ℕ). held_at tk (place_in b x)) (let q : m ≡ r = omega arith in q) ∙ z);
      }

  pub none_next : (s n : ℕ) → s ≤ n → ((i : ℕ) → s ≤ i → i < n → held_at tk (place_in b i) ≡ 0) → NextActive tk b s n n
  none_next s n a none = record { from = a; upto = omega arith; none = none; active = λ h. absurd (omega arith) }
