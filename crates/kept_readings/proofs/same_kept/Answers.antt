-- By the hash first.
use Rattle.std.proofs.Common.{eq-eqb, ne_eqb}
use Rattle.kept_readings.proofs.same_kept.Goals as goal

pub returns-then-a-b : goal.returns-then-a-b
returns-then-a-b c = simp (ne_eqb _ _ c.if-a-b.true)

pub returns : goal.returns
returns c = simp (eq-eqb _ _ c.if-a-b.false)
