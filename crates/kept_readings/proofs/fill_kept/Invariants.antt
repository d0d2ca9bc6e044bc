-- Those below the first i heads are added.
use Rattle.std.proofs.Common.{◌-◌, ◌≤◌}
use Rattle.kept_readings.specs.Steps.{FillTo}
use Rattle.kept_readings.proofs.fill_kept.Given as goal

abbrev pub invariant-loop-i : goal.invariant-loop-i
invariant-loop-i l =
    (l.i ≤ l.m) × FillTo l.tokens l.sums l.finals l.records l.labels l.side l.used l.counts l.bound l.heads l.lists l.hashes l.nexts l.costs l.initial.kept_hashes l.initial.kept_links l.initial.kept_sums l.places l.i l.kept_hashes l.kept_links l.kept_sums l.n

abbrev pub decreases-loop-i : goal.decreases-loop-i
decreases-loop-i l =
    l.m - l.i
