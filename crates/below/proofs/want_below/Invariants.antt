-- The joins above the one at hand have marked what they lead to.
use mathlib.Core.Path.{◌≡◌}
use lib.ListN.{length}
use Rattle.below.proofs.Marking.{HandedOn}
use Rattle.below.proofs.want_below.Given as goal

abbrev pub invariant-loop-k : goal.invariant-loop-k
invariant-loop-k l =
    (length l.lists ≡ length l.initial.lists) × HandedOn l.records l.labels l.gaps l.used l.margin l.initial.lists l.lists l.k
