-- Those before the i-th are added.
use Rattle.std.proofs.Common.{◌-◌}
use Rattle.kept_readings.specs.Steps.{BelowTo}
use Rattle.kept_readings.proofs.add_below.Given as goal

abbrev pub invariant-loop-i : goal.invariant-loop-i
invariant-loop-i l =
    BelowTo l.hashes l.nexts l.costs l.c l.counts l.above l.bound l.first l.count l.initial.kept_hashes l.initial.kept_links l.initial.kept_sums l.n l.places l.i l.kept_hashes l.kept_links l.kept_sums l.m

abbrev pub decreases-loop-i : goal.decreases-loop-i
decreases-loop-i l =
    l.count - l.i
