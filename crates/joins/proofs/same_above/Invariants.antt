-- The verdict on `won` and `lost` is that on the two cursors, which pass one word each in a turn, unless they are at one record.
use Prim.Native.Nat.{ℕ, ◌≤◌}
use mathlib.Core.Path.{◌≡◌}
use mathlib.Core.List.{List}
use lib.Ieee.{Float}
use Rattle.model.specs.Path.{same_words}
use Rattle.records.specs.History.{History}
use Rattle.records.specs.Layout.{store}
use Rattle.records.specs.Stands.{Stands}
use Rattle.joins.specs.Walk.{words_to}
use Rattle.joins.proofs.same_above.Given as goal

abbrev pub invariant-loop-a : goal.invariant-loop-a
invariant-loop-a l =
    (l.a ≤ l.used) × (l.b ≤ l.used)
    × ((gs : List Float) (h : ℕ → History) → Stands (store l.records l.labels gs) l.used h → same_words (words_to h l.met l.won) (words_to h l.met l.lost) ≡ same_words (words_to h l.met l.a) (words_to h l.met l.b))

abbrev pub decreases-loop-a : goal.decreases-loop-a
decreases-loop-a l = l.a
