-- What is counted and what is still to be counted make the whole.
use mathlib.Core.Path.{refl}
use Prim.Native.Nat.{◌+◌}
use native.Mathlib.Omega.{arith}
use Rattle.traceback.specs.Table.{walk_start, walk_turn, walk_end}
use Rattle.traceback.proofs.num_active.Invariants.{counts, whole}
use Rattle.traceback.proofs.num_active.Goals as goal

pub loop-s-init : goal.loop-s-init
loop-s-init c = (omega arith, λ sm. walk_start (counts 0) whole (λ s rest. refl) (λ ts. omega arith) c.next_active-s.ensures)

pub loop-s-preserved : goal.loop-s-preserved
loop-s-preserved c = (omega arith, λ sm. walk_turn (counts c.loop-s.n) (counts (c.loop-s.n + 1)) whole (λ s rest. refl) (c.loop-s.invariant.1 sm) (omega arith) (λ h used t y e i rest. omega arith) c.next_active-s-in-loop-s.ensures)

pub returns : goal.returns
returns c = record { is = λ sm h used st w. let z = walk_end (counts c.loop-s.n) whole (c.loop-s.invariant.1 sm) (omega arith) h used st.table w in omega arith }
