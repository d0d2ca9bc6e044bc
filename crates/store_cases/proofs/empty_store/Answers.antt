-- Both tables are emptied.
use native.Mathlib.Omega.{arith}
use Rattle.store_cases.proofs.Keeps.{ready_none, emptied}
use Rattle.store_cases.proofs.empty_store.Goals as goal

pub returns : goal.returns
returns c = λ s. ready_none s _ _ _ (omega (arith, c.min.ensures)) (omega (arith, c.min-2.ensures)) (emptied _ _ _ c.clear.ensures c.clear-2.ensures)
