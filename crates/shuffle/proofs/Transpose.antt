-- A table of numbers, row by row in one list, and its transposition. Assumes nothing.
use Rattle.std.specs.Prelude.{◌≡◌, get_or}
use Rattle.std.proofs.Math.Path.{sym}
use Rattle.std.proofs.Common.{◌∙◌, arith, add-suc, zero-mul, mul-zero, mul-le-mul_right, mod-eq_of_lt, mod-lt, div-add-mod', div-lt_iff_lt-mul, length-append, ext_get_or}
use Prim.Native.Nat.{ℕ, zero, suc, ◌+◌, ◌*◌, ◌/◌, ◌%◌, ◌<◌}
use Rattle.std.proofs.Math.Nat.{add-zero, zero-add, suc-add, suc-mul, mul-add-div_right, mul-add-mod_self_right, div-eq_of_lt}
use mathlib.Core.List.{List, flat_map}
use Rattle.std.proofs.Math.ListN.{length, get_or-append}
use Rattle.std.proofs.Math.Seq.{get_or-append-add}
use Rattle.lists.specs.Lists.{range}
use Rattle.lists.specs.Parts.{range_many, range_at}
use Rattle.lists.specs.Tests.{case, eq_or_not}
use Rattle.shuffle.specs.Transpose.{column, transpose}

-- ---- the place of a number: its row times the columns, and its column

-- places are within the table
pub place_within : {rows columns r c : ℕ} → r < rows → c < columns → r * columns + c < rows * columns
place_within {rows} {columns} {r} {c} h k = omega (arith, suc-mul r columns, mul-le-mul_right {m = suc r} {n = rows} columns (omega arith))

-- and no two numbers have the same
pub place_apart : (columns : ℕ) {r c r' c' : ℕ} → c < columns → c' < columns → r * columns + c ≡ r' * columns + c' → (r ≡ r') × (c ≡ c')
place_apart columns {r} {c} {r'} {c'} h k e = (sym (row r c h) ∙ rw e (row r' c' k), sym (col r c h) ∙ rw e (col r' c' k))
  where
    row : (r c : ℕ) → c < columns → (r * columns + c) / columns ≡ r
    row r c h = rw (mul-add-div_right {m = columns} (omega arith) r c, div-eq_of_lt h) (omega arith)

    col : (r c : ℕ) → c < columns → (r * columns + c) % columns ≡ c
    col r c h = mul-add-mod_self_right r columns c ∙ mod-eq_of_lt h

-- ---- lists of one length, one after the other

module _ (f : ℕ → List ℕ) (n : ℕ) (long : (c : ℕ) → length (f c) ≡ n) where
  rows-length : (a k : ℕ) → length (flat_map f (range a k)) ≡ k * n
  unfolding flat_map
  rows-length a zero = sym (zero-mul n)
  rows-length a (suc k) = rw (length-append, long a, rows-length (suc a) k) (omega (arith, suc-mul k n))

  rows_at : (a k c r : ℕ) → c < k → r < n → get_or (flat_map f (range a k)) (c * n + r) 0 ≡ get_or (f (a + c)) r 0
  unfolding flat_map
  rows_at a zero c r h l = absurd (omega arith)
  rows_at a (suc k) zero r h l = rw (zero-mul, zero-add, add-zero, get_or-append (f a) (flat_map f (range (suc a) k)) 0 r (rw (long a) l))
  rows_at a (suc k) (suc c) r h l =
      let e : suc c * n + r ≡ length (f a) + (c * n + r) = omega (arith, suc-mul c n, long a) in
      rw (e, get_or-append-add, rows_at (suc a) k c r (omega arith) l, suc-add, add-suc)

-- ---- the transposition

module _ (rows columns : ℕ) (table : List ℕ) where
  column-length : (c : ℕ) → length (column rows columns table c) ≡ rows
  column-length c = range_many _ 0 rows

  pub transpose-length : length (transpose rows columns table) ≡ columns * rows
  unfolding transpose
  transpose-length = rows-length (column rows columns table) rows column-length 0 columns

  -- row and column change places
  pub transpose_at : {r c : ℕ} → r < rows → c < columns → get_or (transpose rows columns table) (c * rows + r) 0 ≡ get_or table (r * columns + c) 0
  unfolding transpose
  transpose_at {r} {c} h k =
      rows_at (column rows columns table) rows column-length 0 columns c r k h
      ∙ range_at _ 0 rows r 0 h ∙ simp zero-add

  -- and a list in which they have is the transposition
  pub is_transpose : (out : List ℕ) → length out ≡ columns * rows
      → ((r c : ℕ) → r < rows → c < columns → get_or out (c * rows + r) 0 ≡ get_or table (r * columns + c) 0) → out ≡ transpose rows columns table
  is_transpose out e same = ext_get_or 0 out (transpose rows columns table) (e ∙ sym transpose-length) at
    where
      at : (i : ℕ) → i < length out → get_or out i 0 ≡ get_or (transpose rows columns table) i 0
      at i h =
          let some : 0 < rows = case (eq_or_not rows 0) (λ z. absurd (omega (arith, rw (z, mul-zero) at e))) (λ n. omega arith) in
          let r = mod-lt i some in
          let c : i / rows < columns = (div-lt_iff_lt-mul some).1 (omega arith) in
          rw (← div-add-mod' i rows) (same (i % rows) (i / rows) r c ∙ sym (transpose_at r c))

-- transposing twice restores the table
pub twice : (rows columns : ℕ) (table : List ℕ) → length table ≡ rows * columns → transpose columns rows (transpose rows columns table) ≡ table
twice rows columns table e =
    sym (is_transpose columns rows (transpose rows columns table) table e (λ r c h k. sym (transpose_at rows columns table k h)))
