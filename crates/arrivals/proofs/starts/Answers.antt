-- One test.
use Rattle.std.proofs.Common.{eq-eqb, ne_eqb}
use Rattle.arrivals.proofs.starts.Goals as goal

pub returns-then-a-source : goal.returns-then-a-source
returns-then-a-source c = rw (eq-eqb c.args.a.phone c.args.source.phone c.if-a-source.true)

pub returns-else-a-source : goal.returns-else-a-source
returns-else-a-source c = rw (ne_eqb c.args.a.phone c.args.source.phone c.if-a-source.false)
