-- What a place holds, by its block's marks and its record number. Assumes nothing.
use Rattle.std.specs.Prelude.{◌≡◌, true, false, List, length, get_or, set}
use Rattle.std.proofs.Math.Path.{refl, sym, ap, ap₂}
use Rattle.std.proofs.Common.{◌∙◌, arith, ltb→lt, nltb→le, get_or-set_same, get_or-set_other}
use Prim.Native.Nat.{ℕ, zero, suc, ◌+◌, ◌*◌, ◌/◌, ◌%◌, ◌≤◌}
use Rattle.std.proofs.Math.Dec.{ltb}
use Rattle.lists.specs.Tests.{holds, fails}
use borrow.Author.Tests.{lt-ltb}
use Rattle.tokens.specs.Layout.{active_in, block_of, bit_of, bit_at, held_by, held_at, requeued_at}

-- ---- what `is_active` and `was_requeued` say of a number

pub some_held : (n : ℕ) → ltb 0 n ≡ true → n ≡ 0 → ⊥
some_held n t e = omega (arith, ltb→lt 0 n (holds t))

pub none_held : (n : ℕ) → ltb 0 n ≡ false → n ≡ 0
none_held n t = omega (arith, nltb→le 0 n (fails t))

-- ---- a place holds its record where its mark is set

module _ (tk : List ℕ) (p : ℕ) where
  abbrev mark : ℕ
  mark = bit_at (active_in tk (block_of p)) (bit_of p)

  abbrev word : ℕ
  word = get_or tk (p * 4) 0

  pub held_marked : mark ≡ 1 → held_at tk p ≡ suc word
  unfolding held_at
  held_marked e = ap (λ (m : ℕ). held_by m word) e

  pub held_unmarked : mark ≡ 0 → held_at tk p ≡ 0
  unfolding held_at
  held_unmarked e = ap (λ (m : ℕ). held_by m word) e

  held_some : (mark ≡ 0 → ⊥) → held_at tk p ≡ suc word
  unfolding held_at
  held_some = go mark
    where
      go : (m : ℕ) → (m ≡ 0 → ⊥) → held_by m word ≡ suc word
      go zero d = absurd (d refl)
      go (suc m) d = refl

  pub held_is : (held_at tk p ≡ 0 → ⊥) → held_at tk p ≡ suc word
  held_is d = held_some (λ e. d (held_unmarked e))

  -- whether it holds one is its mark
  pub held_test : ltb 0 mark ≡ ltb 0 (held_at tk p)
  unfolding held_at
  held_test = go mark
    where
      go : (m : ℕ) → ltb 0 m ≡ ltb 0 (held_by m word)
      go zero = refl
      go (suc m) = lt-ltb 0 (suc m) (omega arith) ∙ sym (lt-ltb 0 (suc word) (omega arith))

  module _ (tk' : List ℕ) (e : get_or tk' (block_of p * 4 + 3) 0 ≡ get_or tk (block_of p * 4 + 3) 0) where
    pub held_same : get_or tk' (p * 4) 0 ≡ word → held_at tk' p ≡ held_at tk p
    unfolding held_at
    held_same = ap₂ (λ (m r : ℕ). held_by (bit_at (m % 65536) (bit_of p)) r) e

    pub requeued_same : requeued_at tk' p ≡ requeued_at tk p
    unfolding requeued_at
    requeued_same = ap (λ (m : ℕ). bit_at (m / 65536) (bit_of p)) e

-- ---- another record number for a token

module _ (tk : List ℕ) (p v : ℕ) where
  abbrev next : List ℕ
  next = set tk (p * 4) v

  word_same : (i : ℕ) → (i ≡ p * 4 → ⊥) → get_or next i 0 ≡ get_or tk i 0
  word_same i d = get_or-set_other tk (p * 4) i v 0 d

  pub record_put : p * 4 + 4 ≤ length tk → (held_at tk p ≡ 0 → ⊥) → held_at next p ≡ suc v
  record_put long d =
      let same = word_same (block_of p * 4 + 3) (λ e. omega arith) in
      held_some next p (λ e. d (held_unmarked tk p (ap (λ (m : ℕ). bit_at (m % 65536) (bit_of p)) (sym same) ∙ e))) ∙ ap suc (get_or-set_same tk (p * 4) v 0 (omega arith))

  pub record_off : (q : ℕ) → (q ≡ p → ⊥) → held_at next q ≡ held_at tk q
  record_off q d = held_same tk q next (word_same (block_of q * 4 + 3) (λ e. omega arith)) (word_same (q * 4) (λ e. d (omega arith)))

  pub record_requeued : (q : ℕ) → requeued_at next q ≡ requeued_at tk q
  record_requeued q = requeued_same tk q next (word_same (block_of q * 4 + 3) (λ e. omega arith))
