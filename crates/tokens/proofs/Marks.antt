-- A mark set: what it says of its place, and that it says nothing of another. Assumes nothing.
use mathlib.Core.Path.{◌≡◌, refl, sym, ap, ap₂, ◌∙◌}
use Prim.Native.Nat.{ℕ, ◌+◌, ◌*◌, ◌/◌, ◌%◌, ◌^◌, ◌≤◌}
use native.Mathlib.Omega.{arith}
use mathlib.Core.List.{List}
use lib.Bits.{bit_or}
use lib.ListN.{length, get_or, set}
use lib.Pow.{shl_exact}
use lib.Seq.{get_or-set_same, get_or-set_other}
use Rattle.lists.specs.Tests.{case, eq_or_not}
use Rattle.tokens.specs.Layout.{place_in, active_in, requeued_in, block_of, bit_of, bit_at, marked, held_by, held_at, requeued_at, cost_at, graph_at, cell_at, Requeued}
use Rattle.tokens.proofs.Bits.{set_bit, set_bit_off, low-set, low_set_high, high-set, high_set_low}

-- the block and the bit of a state's place
module _ (b s : ℕ) (low : b ≤ 1) where
  pub block_of_lem : block_of (place_in b s) ≡ place_in b (s / 16)
  block_of_lem =
      let side : place_in b s % 2 ≡ b = omega arith in
      let block : place_in b s / 32 ≡ s / 16 = omega arith in
      omega arith

  pub bit_of_lem : bit_of (place_in b s) ≡ s % 16
  bit_of_lem = let half : place_in b s / 2 ≡ s = omega arith in ap (λ (x : ℕ). x % 16) half

-- the store of `set_mark`
pub mark_put : (tk : List ℕ) (b s m : ℕ) → b ≤ 1 → m ≤ 65536
    → set tk (place_in b (s / 16) * 4 + 3) (bit_or (get_or tk (place_in b (s / 16) * 4 + 3) 0) ((m * 2 ^ (s % 16)) % 2 ^ 32)) ≡ marked tk (place_in b s) m
mark_put tk b s m low small =
    ap₂ (λ (p v : ℕ). set tk (p * 4 + 3) (bit_or (get_or tk (p * 4 + 3) 0) v)) (sym (block_of_lem b s low))
    (shl_exact {a = m} 17 (s % 16) 32 (omega arith) (omega arith) ∙ ap (λ (j : ℕ). m * 2 ^ j) (sym (bit_of_lem b s low)))

-- a place, by its block and its bit
place_is : (p : ℕ) → p ≡ p / 32 * 32 + bit_of p * 2 + p % 2
place_is p = omega arith

same_place : (p q : ℕ) → block_of q ≡ block_of p → bit_of q ≡ bit_of p → q ≡ p
same_place p q e b =
    let side : q % 2 ≡ p % 2 = omega arith in
    let block : q / 32 ≡ p / 32 = omega arith in
    place_is q ∙ ap (λ (x : ℕ). x * 32 + bit_of q * 2 + q % 2) block ∙ ap (λ (x : ℕ). p / 32 * 32 + x * 2 + q % 2) b ∙ ap (λ (x : ℕ). p / 32 * 32 + bit_of p * 2 + x) side ∙ sym (place_is p)

module _ (tk : List ℕ) (p m : ℕ) where
  -- the marks of a place's block
  abbrev marks_of : ℕ → ℕ
  marks_of q = get_or tk (block_of q * 4 + 3) 0

  abbrev marks_after : ℕ → ℕ
  marks_after q = get_or (marked tk p m) (block_of q * 4 + 3) 0

  pub other_word : (i : ℕ) → (i ≡ block_of p * 4 + 3 → ⊥) → get_or (marked tk p m) i 0 ≡ get_or tk i 0
  other_word i d = get_or-set_other tk (block_of p * 4 + 3) i (bit_or (marks_of p) (m * 2 ^ bit_of p)) 0 d

  module _ (long : block_of p * 4 + 4 ≤ length tk) where
    in_block : (q : ℕ) → block_of q ≡ block_of p → marks_after q ≡ bit_or (marks_of q) (m * 2 ^ bit_of p)
    in_block q e = rw e (get_or-set_same tk (block_of p * 4 + 3) (bit_or (marks_of p) (m * 2 ^ bit_of p)) 0 (omega arith))

    -- what a mark leaves of a block's marks it leaves everywhere
    marks_kept : (f : ℕ → ℕ) → ((n : ℕ) → f (bit_or n (m * 2 ^ bit_of p)) ≡ f n) → (q : ℕ) → f (marks_after q) ≡ f (marks_of q)
    marks_kept f h q =
        case (eq_or_not (block_of q) (block_of p)) (λ e. ap f (in_block q e) ∙ h (marks_of q)) (λ d. ap f (other_word (block_of q * 4 + 3) (λ e. d (omega arith))))

    -- what it leaves of the bits of other places it leaves at each of them
    bits_kept : (f : ℕ → ℕ) → ((n j : ℕ) → (j ≡ bit_of p → ⊥) → bit_at (f (bit_or n (m * 2 ^ bit_of p))) j ≡ bit_at (f n) j)
        → (q : ℕ) → (q ≡ p → ⊥) → bit_at (f (marks_after q)) (bit_of q) ≡ bit_at (f (marks_of q)) (bit_of q)
    bits_kept f h q d =
        case (eq_or_not (block_of q) (block_of p))
        (λ e. ap (λ (n : ℕ). bit_at (f n) (bit_of q)) (in_block q e) ∙ h (marks_of q) (bit_of q) (λ b. d (same_place p q e b)))
        (λ n. ap (λ (x : ℕ). bit_at (f x) (bit_of q)) (other_word (block_of q * 4 + 3) (λ e. n (omega arith))))

-- ---- the mark of an active state

module _ (tk : List ℕ) (p : ℕ) (long : block_of p * 4 + 4 ≤ length tk) where
  low_here : (n : ℕ) → bit_or n (1 * 2 ^ bit_of p) % 65536 ≡ bit_or (n % 65536) (1 * 2 ^ bit_of p)
  low_here n = low-set n (bit_of p) (omega arith)

  pub active_here : bit_at (active_in (marked tk p 1) (block_of p)) (bit_of p) ≡ 1
  active_here = ap (λ (n : ℕ). bit_at (n % 65536) (bit_of p)) (in_block tk p 1 long p refl) ∙ ap (λ (n : ℕ). bit_at n (bit_of p)) (low_here (marks_of tk p 1 p)) ∙ set_bit (active_in tk (block_of p)) (bit_of p)

  pub active_held : (q : ℕ) → (q ≡ p → ⊥) → held_at (marked tk p 1) q ≡ held_at tk q
  unfolding held_at
  active_held q d =
      ap₂ held_by
      (bits_kept tk p 1 long (λ n. n % 65536) (λ n j o. ap (λ (x : ℕ). bit_at x j) (low_here n) ∙ set_bit_off (n % 65536) (bit_of p) j o) q d)
      (other_word tk p 1 (q * 4) (λ e. omega arith))

  pub active_requeued : (q : ℕ) → requeued_at (marked tk p 1) q ≡ requeued_at tk q
  unfolding requeued_at
  active_requeued q = ap (λ (n : ℕ). bit_at n (bit_of q)) (marks_kept tk p 1 long (λ n. n / 65536) (λ n. low_set_high n (bit_of p) (omega arith)) q)

-- ---- the mark of a requeued state

module _ (tk : List ℕ) (p : ℕ) (long : block_of p * 4 + 4 ≤ length tk) where
  requeued_here : requeued_at (marked tk p 65536) p ≡ 1
  unfolding requeued_at
  requeued_here =
      ap (λ (n : ℕ). bit_at (n / 65536) (bit_of p)) (in_block tk p 65536 long p refl) ∙ ap (λ (n : ℕ). bit_at n (bit_of p)) (high-set (marks_of tk p 65536 p) (bit_of p))
      ∙ set_bit (requeued_in tk (block_of p)) (bit_of p)

  requeued_off : (q : ℕ) → (q ≡ p → ⊥) → requeued_at (marked tk p 65536) q ≡ requeued_at tk q
  unfolding requeued_at
  requeued_off = bits_kept tk p 65536 long (λ n. n / 65536) (λ n j o. ap (λ (x : ℕ). bit_at x j) (high-set n (bit_of p)) ∙ set_bit_off (n / 65536) (bit_of p) j o)

  requeued_held : (q : ℕ) → held_at (marked tk p 65536) q ≡ held_at tk q
  unfolding held_at
  requeued_held q =
      ap₂ held_by
      (ap (λ (n : ℕ). bit_at n (bit_of q)) (marks_kept tk p 65536 long (λ n. n % 65536) (λ n. high_set_low n (bit_of p)) q))
      (other_word tk p 65536 (q * 4) (λ e. omega arith))

  pub requeued_is : Requeued tk (marked tk p 65536) p
  unfolding cell_at
  requeued_is =
      record {
        there = requeued_here;
        elsewhere = requeued_off;
        cells = λ q sm k. record {
          held = requeued_held q k;
          seq = other_word tk p 65536 (q * 4 + 1) (λ e. omega arith) k;
          phone = other_word tk p 65536 (q * 4 + 2) (λ e. omega arith) k;
          cost = cost_at sm q;
          graph = graph_at sm q;
        };
      }
