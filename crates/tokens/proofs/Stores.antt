-- What the stores of `put_token` and `clear` leave, place by place. Assumes nothing.
use mathlib.Core.Path.{◌≡◌, refl, ap, ◌∙◌}
use Prim.Native.Nat.{ℕ, suc, ◌+◌, ◌*◌, ◌/◌, ◌%◌, ◌≤◌, ◌<◌}
use native.Mathlib.Omega.{arith}
use mathlib.Core.List.{List}
use lib.ListN.{length, get_or, set, length-set}
use lib.Seq.{get_or-set_same, get_or-set_other}
use lib.Ieee.{Float, nan}
use Rattle.tokens.specs.declared.Token.{Token}
use Rattle.lists.specs.Tests.{case, lt_or_le}
use Rattle.tokens.specs.Layout.{place_in, block_of, bit_of, bit_at, marked, cell_at, cost_at, graph_at, held_at, requeued_at, TokenPut, Cleared}
use Rattle.tokens.specs.Held.{held_marked, held_unmarked, held_same, requeued_same}
use Rattle.tokens.proofs.Bits.{bit_of_zero}
use Rattle.tokens.proofs.Marks.{block_of_lem, other_word, active_here, active_held, active_requeued}

module _ {A : Type 0} (l : List A) (d : A) where
  off_two : (i k j : ℕ) (x y : A) → (j ≡ i → ⊥) → (j ≡ k → ⊥) → get_or (set (set l i x) k y) j d ≡ get_or l j d
  off_two i k j x y p q = get_or-set_other (set l i x) k j y d q ∙ get_or-set_other l i j x d p

  off_three : (i j : ℕ) (x y z : A) → (j ≡ i → ⊥) → (j ≡ i + 1 → ⊥) → (j ≡ i + 2 → ⊥) → get_or (set (set (set l i x) (i + 1) y) (i + 2) z) j d ≡ get_or l j d
  off_three i j x y z p q r = get_or-set_other (set (set l i x) (i + 1) y) (i + 2) j z d r ∙ off_two i (i + 1) j x y p q

-- ---- the stores of `put_token`, after its mark

module _ (tk : List ℕ) (sm : List Float) (p : ℕ) (t : Token) where
  abbrev one : List ℕ
  one = set (marked tk p 1) (p * 4) t.link

  abbrev two : List ℕ
  two = set one (p * 4 + 1) t.seq

  abbrev three : List ℕ
  three = set two (p * 4 + 2) t.phone

  -- a word that none of the four stores touches
  word_off : (j : ℕ) → (j ≡ p * 4 → ⊥) → (j ≡ p * 4 + 1 → ⊥) → (j ≡ p * 4 + 2 → ⊥) → get_or three j 0 ≡ get_or (marked tk p 1) j 0
  word_off j = off_three (marked tk p 1) 0 (p * 4) j t.link t.seq t.phone

  marks_off : (q : ℕ) → get_or three (block_of q * 4 + 3) 0 ≡ get_or (marked tk p 1) (block_of q * 4 + 3) 0
  marks_off q = word_off (block_of q * 4 + 3) (λ e. omega arith) (λ e. omega arith) (λ e. omega arith)

  module _ (long : p * 4 + 4 ≤ length tk) (wide : p * 2 + 2 ≤ length sm) where
    block_long : block_of p * 4 + 4 ≤ length tk
    block_long = omega arith

    put_held : held_at three p ≡ suc t.link
    put_held =
        held_marked three p (ap (λ (n : ℕ). bit_at (n % 65536) (bit_of p)) (marks_off p) ∙ active_here tk p block_long)
        ∙ ap suc (off_two one 0 (p * 4 + 1) (p * 4 + 2) (p * 4) t.seq t.phone (λ e. omega arith) (λ e. omega arith) ∙ get_or-set_same (marked tk p 1) (p * 4) t.link 0 (simp length-set (omega arith)))

    put_held_off : (q : ℕ) → (q ≡ p → ⊥) → held_at three q ≡ held_at tk q
    put_held_off q d = held_same (marked tk p 1) q three (marks_off q) (word_off (q * 4) (λ e. d (omega arith)) (λ e. omega arith) (λ e. omega arith)) ∙ active_held tk p block_long q d

    pub put_is : TokenPut tk three sm (set (set sm (p * 2) t.cost) (p * 2 + 1) t.graph) p t
    unfolding cell_at
    put_is =
        record {
          there = λ k. record {
            held = put_held k;
            seq = (get_or-set_other two (p * 4 + 2) (p * 4 + 1) t.phone 0 (λ e. omega arith) ∙ get_or-set_same one (p * 4 + 1) t.seq 0 (simp length-set (omega arith))) k;
            phone = get_or-set_same two (p * 4 + 2) t.phone 0 (simp length-set (omega arith)) k;
            cost = (get_or-set_other (set sm (p * 2) t.cost) (p * 2 + 1) (p * 2) t.graph nan (λ e. omega arith) ∙ get_or-set_same sm (p * 2) t.cost nan (omega arith)) k;
            graph = get_or-set_same (set sm (p * 2) t.cost) (p * 2 + 1) t.graph nan (simp length-set (omega arith)) k;
          };
          elsewhere = λ q d k. record {
            held = put_held_off q d k;
            seq = (word_off (q * 4 + 1) (λ e. omega arith) (λ e. d (omega arith)) (λ e. omega arith) ∙ other_word tk p 1 (q * 4 + 1) (λ e. omega arith)) k;
            phone = (word_off (q * 4 + 2) (λ e. omega arith) (λ e. omega arith) (λ e. d (omega arith)) ∙ other_word tk p 1 (q * 4 + 2) (λ e. omega arith)) k;
            cost = off_two sm nan (p * 2) (p * 2 + 1) (q * 2) t.cost t.graph (λ e. d (omega arith)) (λ e. omega arith) k;
            graph = off_two sm nan (p * 2) (p * 2 + 1) (q * 2 + 1) t.cost t.graph (λ e. omega arith) (λ e. d (omega arith)) k;
          };
          requeued = λ q. requeued_same (marked tk p 1) q three (marks_off q) ∙ active_requeued tk p block_long q;
        }

-- ---- the store of `clear`

module _ (tk : List ℕ) (b k : ℕ) where
  abbrev emptied : List ℕ
  emptied = set tk (place_in b k * 4 + 3) 0

  word_kept : (i : ℕ) → (i ≡ place_in b k * 4 + 3 → ⊥) → get_or emptied i 0 ≡ get_or tk i 0
  word_kept i = get_or-set_other tk (place_in b k * 4 + 3) i 0 0

  -- a place of another block
  module _ (q : ℕ) (d : block_of q ≡ place_in b k → ⊥) where
    marks_kept : get_or emptied (block_of q * 4 + 3) 0 ≡ get_or tk (block_of q * 4 + 3) 0
    marks_kept = word_kept (block_of q * 4 + 3) (λ e. d (omega arith))

    held_kept : held_at emptied q ≡ held_at tk q
    held_kept = held_same tk q emptied marks_kept (word_kept (q * 4) (λ e. omega arith))

    cell_kept : (sm : List Float) → cell_at emptied sm q ≡ cell_at tk sm q
    unfolding cell_at
    cell_kept sm j =
        record {
          held = held_kept j;
          seq = word_kept (q * 4 + 1) (λ e. omega arith) j;
          phone = word_kept (q * 4 + 2) (λ e. omega arith) j;
          cost = cost_at sm q;
          graph = graph_at sm q;
        }

  -- a place of this one
  module _ (q : ℕ) (e : block_of q ≡ place_in b k) (long : place_in b k * 4 + 4 ≤ length tk) where
    no_marks : get_or emptied (block_of q * 4 + 3) 0 ≡ 0
    no_marks = rw e (get_or-set_same tk (place_in b k * 4 + 3) 0 0 (omega arith))

    held_gone : held_at emptied q ≡ 0
    held_gone = held_unmarked emptied q (ap (λ (n : ℕ). bit_at (n % 65536) (bit_of q)) no_marks ∙ bit_of_zero (bit_of q))

    requeued_gone : requeued_at emptied q ≡ 0
    unfolding requeued_at
    requeued_gone = ap (λ (n : ℕ). bit_at (n / 65536) (bit_of q)) no_marks ∙ bit_of_zero (bit_of q)

pub cleared_none : (tk : List ℕ) (b : ℕ) → Cleared tk tk b 0
cleared_none tk b = record { none = λ s l. absurd (omega arith); fresh = λ s l. absurd (omega arith); cells = λ q d sm. refl; requeued = λ q d. refl }

pub cleared_more : (tk₀ tk : List ℕ) (b k : ℕ) → b ≤ 1 → place_in b k * 4 + 4 ≤ length tk → Cleared tk₀ tk b (k * 16) → Cleared tk₀ (emptied tk b k) b ((k + 1) * 16)
cleared_more tk₀ tk b k low long c =
    record {
      none = λ s l. case (lt_or_le s (k * 16)) (λ a. held_kept tk b k (place_in b s) (before s a) ∙ c.none s a) (λ a. held_gone tk b k (place_in b s) (within s a l) long);
      fresh = λ s l. case (lt_or_le s (k * 16)) (λ a. requeued_same tk (place_in b s) (emptied tk b k) (marks_kept tk b k (place_in b s) (before s a)) ∙ c.fresh s a) (λ a. requeued_gone tk b k (place_in b s) (within s a l) long);
      cells = λ q d sm. cell_kept tk b k q (aside q d) sm ∙ c.cells q d sm;
      requeued = λ q d. requeued_same tk q (emptied tk b k) (marks_kept tk b k q (aside q d)) ∙ c.requeued q d;
    }
  where
    before : (s : ℕ) → s < k * 16 → block_of (place_in b s) ≡ place_in b k → ⊥
    before s a e = omega (arith, block_of_lem b s low)

    within : (s : ℕ) → k * 16 ≤ s → s < (k + 1) * 16 → block_of (place_in b s) ≡ place_in b k
    within s a l = let e : s / 16 ≡ k = omega arith in block_of_lem b s low ∙ ap (place_in b) e

    aside : (q : ℕ) → ((s : ℕ) → q ≡ place_in b s → ⊥) → block_of q ≡ place_in b k → ⊥
    aside q d e = let side : q % 2 ≡ b = omega arith in d (q / 2) (omega arith)

pub cleared_upto : {tk tk' : List ℕ} {b m n : ℕ} → n ≤ m → Cleared tk tk' b m → Cleared tk tk' b n
cleared_upto l c = record { none = λ s a. c.none s (omega arith); fresh = λ s a. c.fresh s (omega arith); cells = c.cells; requeued = c.requeued }
