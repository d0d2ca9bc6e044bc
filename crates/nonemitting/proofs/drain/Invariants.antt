-- Each turn leaves less to spend, and what the rest of the loop comes to the whole loop does.
use mathlib.Core.Path.{◌≡◌}
use lib.ListN.{length}
use Rattle.stores.specs.Rep.{lent, Lens}
use Rattle.nonemitting.specs.Expand.{graph_tables}
use Rattle.nonemitting.specs.Measure.{left_in}
use Rattle.nonemitting.specs.Drain.{DrainGiven, SoFar}
use Rattle.nonemitting.proofs.drain.Given as goal

abbrev pub invariant-loop-w : goal.invariant-loop-w
invariant-loop-w l =
    Lens (lent l.initial.tokens l.initial.sums l.initial.records l.initial.labels l.initial.gaps) (lent l.tokens l.sums l.records l.labels l.gaps) × (length l.queue ≡ length l.initial.queue) ×
    ((G : DrainGiven l.setting (lent l.initial.tokens l.initial.sums l.initial.records l.initial.labels l.initial.gaps) l.initial.queue l.eps (graph_tables l.offsets l.ilabels l.olabels l.weights l.nextstates l.tid2pdf l.tid2phone) l.initial.w) → SoFar G (lent l.tokens l.sums l.records l.labels l.gaps) l.queue l.w)

abbrev pub decreases-loop-w : goal.decreases-loop-w
decreases-loop-w l =
    left_in l.tokens l.sums l.setting.side l.setting.states l.w.queued
