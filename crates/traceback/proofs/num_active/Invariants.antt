-- What is counted and what is still to be counted make the whole.
use Prim.Native.Nat.{ℕ, ◌+◌, ◌-◌, ◌≤◌}
use mathlib.Core.List.{List}
use lib.ListN.{length}
use lib.Ieee.{Float}
use Rattle.model.specs.Path.{Table, tokens}
use Rattle.traceback.specs.Table.{Walking}
use Rattle.traceback.proofs.num_active.Given as goal

abbrev pub counts : ℕ → ℕ → Table → ℕ
counts k s ts = k + length (tokens ts)

abbrev pub whole : Table → ℕ
whole ts = length (tokens ts)

abbrev pub invariant-loop-s : goal.invariant-loop-s
invariant-loop-s l = (l.n ≤ l.s) × ((sm : List Float) → Walking l.tokens sm l.side l.states l.s (counts l.n) whole)

abbrev pub decreases-loop-s : goal.decreases-loop-s
decreases-loop-s l = l.states - l.s
