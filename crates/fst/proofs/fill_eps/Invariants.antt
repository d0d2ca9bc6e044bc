-- `fst::fill_eps` meets its contract. The invariant: the table is filled below the state, and behind it unchanged.
use mathlib.Core.Path.{◌≡◌}
use mathlib.Core.List.{◌++◌}
use Prim.Native.Nat.{◌≤◌, ◌-◌}
use lib.ListN.{length, drop}
use Rattle.model.specs.Graph.{Graph}
use Rattle.fst.specs.Epsilons.{eps_bits}
use Rattle.fst.proofs.fill_eps.Given as goal

abbrev pub invariant-loop-s : goal.invariant-loop-s
invariant-loop-s l =
    (l.s ≤ length l.offsets - 1) × (length l.table ≡ length l.initial.table) × ((g : Graph) → g.offsets ≡ l.offsets → g.ilabels ≡ l.ilabels → l.table ≡ eps_bits g l.s ++ drop l.s l.initial.table)

abbrev pub decreases-loop-s : goal.decreases-loop-s
decreases-loop-s l = length l.offsets - 1 - l.s
