-- The arcs below i have been looked at; the rest is what the definition does with the others.
use mathlib.Core.Path.{◌≡◌}
use Prim.Native.Nat.{◌-◌, ◌≤◌}
use lib.ListN.{length}
use Rattle.model.specs.Basics.{∞}
use Rattle.emitting.specs.Look.{look_from}
use Rattle.emitting.proofs.first_look.Given as goal

abbrev pub invariant-loop-i : goal.invariant-loop-i
invariant-loop-i l =
    (l.i ≤ length l.ilabels) × (look_from l.ilabels l.weights l.tid2pdf l.loglikes l.offset l.adaptive l.cost (length l.ilabels) 0 ∞ ≡ look_from l.ilabels l.weights l.tid2pdf l.loglikes l.offset l.adaptive l.cost (length l.ilabels - l.i) l.i l.next)

abbrev pub decreases-loop-i : goal.decreases-loop-i
decreases-loop-i l =
    length l.ilabels - l.i
