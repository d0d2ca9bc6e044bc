-- `fst::check_finals` meets its contract. The invariant: the whole answer is that of the weights ahead.
use mathlib.Core.Path.{◌≡◌}
use Prim.Native.Nat.{◌≤◌}
use lib.ListN.{length, drop}
use Rattle.model.specs.Graph.{check_finals}
use Rattle.fst.proofs.check_finals.Given as goal

abbrev pub invariant-loop-s : goal.invariant-loop-s
invariant-loop-s l = (l.s ≤ length l.finals) × (check_finals 0 l.finals ≡ check_finals l.s (drop l.s l.finals))
