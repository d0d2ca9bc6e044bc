-- The state's mark, and five stores, each at its field's place.
use native.Mathlib.Omega.{arith}
use lib.ListN.{length-set}
use Rattle.tokens.specs.Layout.{place_in}
use Rattle.tokens.proofs.Stores.{put_is}
use Rattle.tokens.proofs.put_token.Goals as goal

pub bounds-tokens-p-2 : goal.bounds-tokens-p-2
bounds-tokens-p-2 c = simp length-set (omega arith)

pub bounds-tokens-p-3 : goal.bounds-tokens-p-3
bounds-tokens-p-3 c = simp length-set (omega arith)

pub bounds-sums-p-2 : goal.bounds-sums-p-2
bounds-sums-p-2 c = simp length-set (omega arith)

pub returns : goal.returns
returns c = rw c.set_mark.ensures (put_is _ _ (place_in _ _) _ (omega arith) (omega arith))
