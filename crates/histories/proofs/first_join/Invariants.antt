-- No record that was passed is a join. The numbers fall.
use Rattle.std.proofs.Common.{◌≡◌, ℕ, ◌≤◌, List}
use lib.Ieee.{Float}
use Rattle.records.specs.History.{History}
use Rattle.records.specs.Layout.{store}
use Rattle.records.specs.Stands.{Stands}
use Rattle.histories.specs.Reading.{join_tag}
use Rattle.histories.proofs.first_join.Given as goal

abbrev pub invariant-loop-r : goal.invariant-loop-r
invariant-loop-r l =
    (l.r ≤ l.link) × ((gs : List Float) (h : ℕ → History) → Stands (store l.records l.labels gs) l.used h → join_tag (h l.link) ≡ join_tag (h l.r))

abbrev pub decreases-loop-r : goal.decreases-loop-r
decreases-loop-r l = l.r
