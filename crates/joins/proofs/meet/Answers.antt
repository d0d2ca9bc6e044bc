-- The invariant of both loops is `Walked`: what was passed shares nothing and keeps nothing that fits. The numbers fall.
use Prim.Native.Nat.{◌-◌}
use mathlib.Core.Path.{sym, ◌∙◌}
use Rattle.joins.proofs.Steps.{walked_won, walked_lost, walked_fits, walked_met}
use native.Mathlib.Omega.{arith}
use Rattle.joins.proofs.meet.Goals as goal

pub loop-a-preserved : goal.loop-a-preserved
loop-a-preserved c =
    walked_won (c.loop-a.a - 1) c.requires.0.prev_low c.prev_of-a.ensures (omega arith) (omega arith) c.loop-a.invariant

pub returns-then-join_within : goal.returns-then-join_within
returns-then-join_within c =
    walked_fits (c.apart.b - 1) (omega arith) (omega arith) (sym c.join_within.ensures ∙ c.if-join_within.true) c.loop-a.invariant

pub apart-preserved : goal.apart-preserved
apart-preserved c =
    walked_lost (c.apart.b - 1) c.requires.0.prev_low c.prev_of-b.ensures (omega arith) (omega arith)
    (sym c.join_within.ensures ∙ c.if-join_within.false) c.loop-a.invariant

pub returns : goal.returns
returns c = walked_met c.if-a-b.true c.loop-a.invariant
