-- `shuffle::shuffle` meets its contract: the first i numbers have their bytes in the four parts of the output.
use mathlib.Core.Path.{◌≡◌}
use Prim.Native.Nat.{◌*◌}
use lib.ListN.{length}
use Rattle.shuffle.proofs.Filling.{Shuffling}
use Rattle.shuffle.proofs.shuffle.Given as goal

abbrev pub invariant-loop-i : goal.invariant-loop-i
invariant-loop-i l = (length l.block ≡ 4 * l.n) × (length l.initial.output ≡ 4 * l.n) × Shuffling l.n l.block l.output l.i
