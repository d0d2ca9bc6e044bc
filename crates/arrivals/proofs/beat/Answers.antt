-- The new token's record, or its refusal, and then what becomes of the loser.
use Rattle.std.proofs.Common.{Some, None, Ok, Err, refl}
use Rattle.std.proofs.lemmas.Result.{err_from_is_err_and}
use Rattle.arrivals.specs.Settled.{beat_refused, beat_wins, beat_asks}
use Rattle.arrivals.proofs.beat.Goals as goal

pub keep-requires : goal.keep-requires
keep-requires c = rw c.new_token-new.ensures (beat_asks _ _ _ _ _ c.requires _ _ c.put_on.auto.records c.put_on.auto.labels _ _ _ _ c.in_ok-on.ensures)

pub returns-in_err-on : goal.returns-in_err-on
returns-in_err-on c = let p = err_from_is_err_and c.from_residual.result c.from_residual.ensures.1 in rw (p.1, p.2) (beat_refused c.in_err-on.ensures refl)

pub returns-in_err-kept : goal.returns-in_err-kept
returns-in_err-kept c = let p = err_from_is_err_and c.from_residual-in_err-kept.result c.from_residual-in_err-kept.ensures.1 in rw (p.1, p.2) (beat_wins (Err _) _ _ c.in_ok-on.ensures (rw c.new_token-new.ensures at c.in_err-kept.ensures))

pub returns-in-None : goal.returns-in-None
returns-in-None c = rw c.new_token-new.ensures (beat_wins (Ok None) _ _ c.in_ok-on.ensures (rw (c.new_token-new.ensures, c.in-None.is) at c.in_ok-kept.ensures))

pub returns-in-Some : goal.returns-in-Some
returns-in-Some c = rw (c.with_link.ensures, c.new_token-new.ensures) (beat_wins (Ok (Some _)) _ _ c.in_ok-on.ensures (rw (c.new_token-new.ensures, c.in-Some.is) at c.in_ok-kept.ensures))
