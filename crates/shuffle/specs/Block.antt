-- A block of four-byte numbers, and the same bytes by their place in the number. Assumes nothing.
use Rattle.std.specs.Prelude.{◌≡◌, ℕ, ◌/◌, ◌%◌, Bool, not, ◌||◌, cond, eqb, length, Result, Ok, Err}
use mathlib.Core.List.{List}
use Rattle.refusals.specs.declared.Reason.{Reason}
use Rattle.refusals.specs.declared.Reason.TheVariants.{BadBlock}
use Rattle.shuffle.specs.Transpose.{transpose}

-- all first bytes, then all second, third and fourth: a table with a row for each number is transposed
abbrev pub shuffled : List ℕ → List ℕ
shuffled block = transpose (length block / 4) 4 block

-- the way back: a table of four rows is transposed
abbrev pub unshuffled : List ℕ → List ℕ
unshuffled block = transpose 4 (length block / 4) block

-- 20: a length not divisible by four, or an output of another length
abbrev pub wrong : (block output : ℕ) → Bool
wrong block output = not (eqb (block % 4) 0) || not (eqb output block)

-- what a call answers, and what it leaves in the output: unchanged where it refuses
pub record Rearranged (by : List ℕ → List ℕ) (block output : List ℕ) (answer : Result (Unit {0}) Reason) (left : List ℕ) : Type 0 where
  pub answers : answer ≡ cond (wrong (length block) (length output)) (Err BadBlock) (Ok tt)
  pub leaves : left ≡ cond (wrong (length block) (length output)) output (by block)
