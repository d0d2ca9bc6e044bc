-- `shuffle::unshuffle` meets its contract: the first i numbers stand in the output. The loop is left by its first test alone.
use mathlib.Core.Path.{◌≡◌}
use Prim.Native.Nat.{◌-◌, ◌*◌, ◌≤◌}
use lib.ListN.{length}
use Rattle.shuffle.proofs.Filling.{Unshuffling}
use Rattle.shuffle.proofs.unshuffle.Given as goal

abbrev pub invariant-loop-i : goal.invariant-loop-i
invariant-loop-i l = (l.i ≤ l.n) × (length l.block ≡ 4 * l.n) × (length l.initial.output ≡ 4 * l.n) × Unshuffling l.n l.block l.output l.i

abbrev pub decreases-loop-i : goal.decreases-loop-i
decreases-loop-i l = l.n - l.i
