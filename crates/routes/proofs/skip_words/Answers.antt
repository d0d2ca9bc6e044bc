-- So many are passed over, one at a time.
use native.Mathlib.Omega.{arith}
use Rattle.routes.specs.Words.{skipped_none, skipped_next}
use Rattle.routes.proofs.skip_words.Goals as goal

pub loop-init : goal.loop-init
loop-init c = skipped_none

pub next_on-r-requires : goal.next_on-r-requires
next_on-r-requires c = (c.requires.0, let low = c.loop.invariant.low in omega (arith, c.requires.1))

pub loop-preserved : goal.loop-preserved
loop-preserved c = skipped_next c.loop.invariant (omega (arith, c.requires.2)) c.next_on-r.ensures
