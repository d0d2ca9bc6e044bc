-- `listen::main` is safe and ends: the call is heard three times.
use Prim.Native.Nat.{◌-◌, ◌≤◌}
use Rattle.listen.proofs.main.Given as goal

abbrev pub invariant-loop : goal.invariant-loop
invariant-loop l =
    l.counter ≤ 3

abbrev pub decreases-loop : goal.decreases-loop
decreases-loop l =
    3 - l.counter
