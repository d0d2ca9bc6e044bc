-- `listen::hear_frames` is safe and ends: between the frames it holds what the last one left.
use Prim.Native.Nat.{◌-◌, ◌≤◌}
use lib.ListN.{length}
use Rattle.stores.specs.Lent.{LeftToProgram}
use Rattle.stores.specs.Rep.{lent, Lens}
use Rattle.nonemitting.specs.Expand.{graph_tables}
use Rattle.listen.specs.Held.{Hearing}
use Rattle.listen.proofs.hear_frames.Given as goal

abbrev pub invariant-loop-i : goal.invariant-loop-i
invariant-loop-i l =
    (l.i ≤ 8) × Hearing (graph_tables l.offsets l.ilabels l.olabels l.weights l.nextstates l.tid2pdf l.tid2phone) (lent l.tokens l.sums l.records l.labels l.gaps) l.finals l.eps (length l.queue) (length l.scratch) l.d × Lens (lent l.initial.tokens l.initial.sums l.initial.records l.initial.labels l.initial.gaps) (lent l.tokens l.sums l.records l.labels l.gaps) × LeftToProgram l.initial.queue l.queue × LeftToProgram l.initial.scratch l.scratch

abbrev pub decreases-loop-i : goal.decreases-loop-i
decreases-loop-i l =
    8 - l.i
