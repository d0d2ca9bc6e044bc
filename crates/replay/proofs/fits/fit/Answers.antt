-- `replay::fits::fit` meets its contract: a new decoder and its stores are as the fit leaves them.
use native.Mathlib.Omega.{arith}
use Rattle.replay_calls.specs.Held.{fitted_next}
use Rattle.replay.proofs.fits.fit.Goals as goal

pub overflow_add-r : goal.overflow_add-r
overflow_add-r c = record { fits = omega (arith, c.requires, c.well_formed.0.1) }

pub on_decoder-requires : goal.on_decoder-requires
on_decoder-requires c = fitted_next _ _ _ _ _ _ _ c.fit-fitted.result c.say_fitted.result _ c.fit-fitted.ensures c.say_fitted.ensures c.in-Some.is c.fit-fitted.auto.queue
