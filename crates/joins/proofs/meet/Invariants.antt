-- The invariant of both loops is `Walked`: what was passed shares nothing and keeps nothing that fits. The numbers fall.
use Rattle.records.specs.Layout.{store}
use Rattle.joins.proofs.Steps.{Walked}
use Rattle.joins.proofs.meet.Given as goal

abbrev pub invariant-loop-a : goal.invariant-loop-a
invariant-loop-a l = Walked (store l.records l.labels l.gaps) l.used l.slack l.won l.lost l.a l.b

abbrev pub decreases-loop-a : goal.decreases-loop-a
decreases-loop-a l = l.a

abbrev pub invariant-apart : goal.invariant-apart
invariant-apart l = Walked (store l.records l.labels l.gaps) l.used l.slack l.won l.lost l.a l.b

abbrev pub decreases-apart : goal.decreases-apart
decreases-apart l = l.b
