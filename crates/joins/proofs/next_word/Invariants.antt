-- The words from `r` down are the words from the cursor down, since no record that was passed has one.
use Prim.Native.Nat.{ℕ, ◌≤◌}
use mathlib.Core.Path.{◌≡◌}
use mathlib.Core.List.{List}
use lib.Ieee.{Float}
use Rattle.records.specs.History.{History}
use Rattle.records.specs.Layout.{store}
use Rattle.records.specs.Stands.{Stands}
use Rattle.joins.specs.Walk.{words_to}
use Rattle.joins.proofs.next_word.Given as goal

abbrev pub invariant-loop-q : goal.invariant-loop-q
invariant-loop-q l = (l.q ≤ l.r) × ((gs : List Float) (h : ℕ → History) → Stands (store l.records l.labels gs) l.used h → words_to h l.met l.r ≡ words_to h l.met l.q)

abbrev pub decreases-loop-q : goal.decreases-loop-q
decreases-loop-q l = l.q
