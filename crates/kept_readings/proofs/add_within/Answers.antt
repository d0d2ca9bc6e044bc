-- By the bound.
use Rattle.kept_readings.specs.Laws.{added_not, added_within}
use Rattle.kept_readings.proofs.add_within.Goals as goal

pub returns-then-bound-k : goal.returns-then-bound-k
returns-then-bound-k c = added_not c.args.bound c.args.k c.if-bound-k.true c.requires.1

pub returns : goal.returns
returns c = added_within c.args.bound c.args.k c.if-bound-k.false c.add_kept.ensures
