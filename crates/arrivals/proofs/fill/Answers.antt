-- The new token's record, or its refusal.
use Rattle.std.proofs.lemmas.Result.{err_from_is_err_and}
use Rattle.arrivals.specs.Settled.{fill_refused, fill_wins}
use Rattle.arrivals.proofs.fill.Goals as goal

pub returns-in_err-on : goal.returns-in_err-on
returns-in_err-on c = let p = err_from_is_err_and c.from_residual.result c.from_residual.ensures.1 in rw (p.1, p.2) (fill_refused c.in_err-on.ensures)

pub returns : goal.returns
returns c = rw c.new_token.ensures (fill_wins c.in_ok-on.ensures)
