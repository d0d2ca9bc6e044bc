-- What stands, and of what is to come the new ones, make the list.
use Rattle.std.proofs.Common.{◌+◌, ◌-◌}
use Rattle.entries.specs.Filling.{FillTo}
use Rattle.entries.proofs.fill_list.Given as goal

abbrev pub invariant-loop-i : goal.invariant-loop-i
invariant-loop-i l =
    FillTo l.initial.hashes l.initial.nexts l.initial.sums l.own l.kept l.margin l.cap l.from l.places l.n l.m l.hashes l.nexts l.sums l.i l.j l.to

abbrev pub decreases-loop-i : goal.decreases-loop-i
decreases-loop-i l =
    l.n + l.m - (l.i + l.j)
