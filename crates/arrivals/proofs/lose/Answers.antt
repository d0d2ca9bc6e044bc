-- What becomes of the arrival.
use Rattle.std.proofs.Common.{Some, None, Ok, Err}
use Rattle.std.proofs.lemmas.Result.{err_from_is_err_and}
use Rattle.model.specs.Ints.{back}
use Rattle.arrivals.specs.Settled.{lose_keeps, lose_asks}
use Rattle.arrivals.proofs.lose.Goals as goal

pub keep-requires : goal.keep-requires
keep-requires c = rw c.new_token-lost.ensures (lose_asks _ _ _ _ _ c.requires c.args.a _)

pub returns-in_err-kept : goal.returns-in_err-kept
returns-in_err-kept c = let p = err_from_is_err_and c.from_residual.result c.from_residual.ensures.1 in rw (p.1, p.2) (lose_keeps (Err _) (rw (c.new_token-lost.ensures, c.starts.ensures, back c.args.a.word search) at c.in_err-kept.ensures))

pub returns-in-None : goal.returns-in-None
returns-in-None c = lose_keeps (Ok None) (rw (c.new_token-lost.ensures, c.starts.ensures, back c.args.a.word search, c.in-None.is) at c.in_ok-kept.ensures)

pub returns-in-Some : goal.returns-in-Some
returns-in-Some c = rw c.with_link.ensures (lose_keeps (Ok (Some _)) (rw (c.new_token-lost.ensures, c.starts.ensures, back c.args.a.word search, c.in-Some.is) at c.in_ok-kept.ensures))
