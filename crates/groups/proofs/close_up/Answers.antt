-- The first m are what was not dropped so far.
use mathlib.Core.Path.{refl}
use native.Mathlib.Omega.{arith}
use Rattle.groups.specs.Laws.{closed_next}
use Rattle.groups.proofs.close_up.Goals as goal

pub loop-i-preserved : goal.loop-i-preserved
loop-i-preserved c = closed_next c.loop-i.invariant (let k = c.requires in omega arith) _ refl c.keep_at-m.ensures
