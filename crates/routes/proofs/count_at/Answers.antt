-- 0 is no record, and record k + 1 has its own place.
use native.Mathlib.Omega.{arith}
use Rattle.routes.specs.Counts.{count_0, count_some}
use Rattle.routes.proofs.count_at.Goals as goal

pub returns-then-r-eq0 : goal.returns-then-r-eq0
returns-then-r-eq0 c = count_0 _ _ c.if-r-eq0.true

pub overflow_cast-result-2 : goal.overflow_cast-result-2
overflow_cast-result-2 c = let e = count_some c.args.history_counts.now c.args.r c.if-r-eq0.false in record { fits = omega (arith, c.requires.1) }

pub returns : goal.returns
returns c = count_some _ _ c.if-r-eq0.false
