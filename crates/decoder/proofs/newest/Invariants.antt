-- The newest of the states below s.
use Prim.Native.Nat.{◌-◌, ◌≤◌}
use Rattle.decoder.specs.Frame.{NewestIs}
use Rattle.decoder.proofs.newest.Given as goal

abbrev pub invariant-loop-s : goal.invariant-loop-s
invariant-loop-s l =
    (l.s ≤ l.states) × NewestIs l.tokens l.sums l.side l.s l.most

abbrev pub decreases-loop-s : goal.decreases-loop-s
decreases-loop-s l =
    l.states - l.s
