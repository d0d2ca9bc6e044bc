-- The arcs below i are done; the rest is what the definition does with the other arcs.
use mathlib.Core.Path.{◌≡◌}
use Prim.Native.Nat.{◌-◌, ◌≤◌}
use lib.ListN.{length}
use Rattle.stores.specs.Rep.{lent, Lens}
use Rattle.arcs.specs.Part.{part}
use Rattle.arcs.specs.All.{AllGiven, SoFar}
use Rattle.arcs.proofs.arrive_all.Given as goal

abbrev pub invariant-loop-i : goal.invariant-loop-i
invariant-loop-i l =
    (l.i ≤ length l.ilabels) × Lens (lent l.initial.tokens l.initial.sums l.initial.records l.initial.labels l.initial.gaps) (lent l.tokens l.sums l.records l.labels l.gaps) × (length l.queue ≡ length l.initial.queue) ×
    ((G : AllGiven l.setting (lent l.initial.tokens l.initial.sums l.initial.records l.initial.labels l.initial.gaps) l.initial.queue l.eps l.pass (part l.ilabels l.olabels l.weights l.nextstates l.tid2pdf l.tid2phone l.loglikes) l.initial.w l.source) → SoFar G (lent l.tokens l.sums l.records l.labels l.gaps) l.queue l.w l.i)

abbrev pub decreases-loop-i : goal.decreases-loop-i
decreases-loop-i l =
    length l.ilabels - l.i
