-- `silence_weighting::fill` meets its contract: what is still to be stored, stored now, gives the list that is wanted.
use mathlib.Core.Path.{◌≡◌}
use Prim.Native.Nat.{◌-◌}
use lib.ListN.{replicate}
use lib.Seq.{sets}
use Rattle.silence_weighting.proofs.fill.Given as goal

abbrev pub invariant-loop-i : goal.invariant-loop-i
invariant-loop-i g l = sets l.xs l.i (replicate (l.to - l.i) l.value) ≡ sets l.initial.xs l.from (replicate (l.to - l.from) l.value)
