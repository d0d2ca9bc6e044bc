-- The marked ones among the records passed are the first n.
use Prim.Native.Nat.{◌≤◌}
use Rattle.records.specs.Layout.{store}
use Rattle.compaction.specs.Slide.{Slid}
use Rattle.compaction.proofs.slide.Given as goal

abbrev pub invariant-loop-k : goal.invariant-loop-k
invariant-loop-k l = (l.n ≤ l.k) × Slid (store l.initial.records l.initial.labels l.initial.gaps) (store l.records l.labels l.gaps) l.k l.n
