-- `silence_weighting::count_deltas` meets its contract: what is counted, and what is left, is the whole.
use Prim.Native.Nat.{◌+◌, ◌*◌, ◌≤◌}
use mathlib.Core.Path.{◌≡◌}
use lib.ListN.{length}
use Rattle.silence_weighting.specs.Parts.{deltas_left, deltas_on}
use Rattle.silence_weighting.proofs.count_deltas.Given as goal

abbrev pub invariant-loop-f : goal.invariant-loop-f
invariant-loop-f l = (l.f ≤ l.w.total) × ((l.count ≤ 16 * l.f) × (l.count + length (deltas_left l.w l.status l.weights l.previous l.f) ≡ length (deltas_on l.w l.status l.weights)))
