-- One mark set.
use native.Mathlib.Omega.{arith}
use Rattle.tokens.specs.Layout.{place_in}
use Rattle.tokens.proofs.Marks.{requeued_is}
use Rattle.tokens.proofs.set_requeued.Goals as goal

pub returns : goal.returns
returns c = rw c.set_mark.ensures (requeued_is _ (place_in _ _) (omega arith))
