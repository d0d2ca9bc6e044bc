-- The nonemitting pass goes on where the emitting one ends.
use Rattle.std.proofs.lemmas.Result.{err_from_is_err_and}
use Rattle.decoder.specs.Frame.{run_stops, run_given, run_ends}
use Rattle.decoder.proofs.run_frame.Goals as goal

pub nonemitting-requires : goal.nonemitting-requires
nonemitting-requires c = run_given c.requires.0 _ _ _ c.emitting.ensures _ c.in_ok-w.was c.emitting.auto.queue

pub returns-in_err-w : goal.returns-in_err-w
returns-in_err-w c = let p = err_from_is_err_and c.from_residual.result c.from_residual.ensures.1 in rw (p.1, p.2) (λ G. run_stops G _ _ _ c.emitting.ensures _ c.in_err-w.was)

pub returns : goal.returns
returns c = λ G. run_ends G _ _ _ c.emitting.ensures _ c.in_ok-w.was c.emitting.auto.queue _ _ _ c.nonemitting.ensures
