-- The two read the same where they do from the cursors down: the words passed agree.
use Prim.Native.Nat.{◌≤◌}
use mathlib.Core.Path.{◌≡◌}
use Rattle.model.specs.Path.{same_words}
use Rattle.routes.specs.Back.{back_along}
use Rattle.routes.proofs.same_along.Given as goal

abbrev pub invariant-loop-x : goal.invariant-loop-x
invariant-loop-x l =
    (l.p ≤ l.used) × (l.q ≤ l.used) × (same_words (back_along l.records l.labels l.ra l.a) (back_along l.records l.labels l.rb l.b) ≡ same_words (back_along l.records l.labels l.ra l.p) (back_along l.records l.labels l.rb l.q))

abbrev pub decreases-loop-x : goal.decreases-loop-x
decreases-loop-x l =
    l.p
