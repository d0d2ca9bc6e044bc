-- `fst::runs` meets its contract. The invariant: the whole answer is that of the offsets ahead, from the one before.
use mathlib.Core.Path.{◌≡◌}
use Prim.Native.Nat.{◌<◌, ◌≤◌, ◌^◌}
use lib.ListN.{length, drop}
use Rattle.model.specs.Graph.{runs_from0, runs as model_runs}
use Rattle.fst.proofs.runs.Given as goal

abbrev pub invariant-loop-next : goal.invariant-loop-next
invariant-loop-next l = (l.next-index ≤ length l.offsets) × (l.at < 2 ^ 32) × (runs_from0 l.arcs l.offsets ≡ model_runs l.at l.arcs (drop l.next-index l.offsets))
