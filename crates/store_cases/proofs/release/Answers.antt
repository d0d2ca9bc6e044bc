-- One mark taken away, or none.
use Prim.Native.Nat.{◌%◌}
use native.Mathlib.Omega.{arith}
use Rattle.store_cases.proofs.Keeps.{held_taken, held_kept}
use Rattle.store_cases.proofs.release.Goals as goal

pub returns-then-place-lt16 : goal.returns-then-place-lt16
returns-then-place-lt16 c = held_taken c.args.tokens.now (c.args.place % 2) _ (omega arith)

pub returns-else-place-lt16 : goal.returns-else-place-lt16
returns-else-place-lt16 c = held_kept _ _
