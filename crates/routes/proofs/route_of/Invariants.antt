-- The joins passed stand in front, and those from the entry on are still to come.
use Rattle.routes.specs.Joins.{Routing}
use Rattle.routes.proofs.route_of.Given as goal

abbrev pub invariant-loop-e : goal.invariant-loop-e
invariant-loop-e l =
    Routing l.nexts l.entry l.initial.route l.route l.n l.e

abbrev pub decreases-loop-e : goal.decreases-loop-e
decreases-loop-e l =
    l.e
