-- By whether there is a token.
use Rattle.std.proofs.Common.{sym, ap}
use Rattle.kept_readings.specs.Heads.{best_within}
use Rattle.kept_readings.proofs.best_within.Goals as goal

pub returns-in-Some : goal.returns-in-Some
returns-in-Some c = ap (best_within c.args.bound) (sym c.in-Some.is)
