-- `replay_calls::calls::fit` meets its contract: the scratch has the places that it says.
use mathlib.Core.Path.{sym}
use lib.Seq.{length-take-le}
use native.Mathlib.Omega.{arith}
use Rattle.replay_places.specs.Held.{fit_held}
use Rattle.replay_calls.proofs.calls.fit.Goals as goal

pub slice_bounds-fit-end-2 : goal.slice_bounds-fit-end-2
slice_bounds-fit-end-2 c = sym (length-take-le 4096 c.places-all.result (omega (arith, c.places-all.ensures)))

pub slice_bounds-fit-end-3 : goal.slice_bounds-fit-end-3
slice_bounds-fit-end-3 c = sym (length-take-le 4096 c.places-all.result (omega (arith, c.places-all.ensures)))

pub slice_bounds-fit-end-4 : goal.slice_bounds-fit-end-4
slice_bounds-fit-end-4 c = sym (length-take-le 4096 c.places-all.result (omega (arith, c.places-all.ensures)))

pub slice_bounds-fit-end-5 : goal.slice_bounds-fit-end-5
slice_bounds-fit-end-5 c = sym (length-take-le 12288 c.places-all.result (omega (arith, c.places-all.ensures)))

pub slice_bounds-fit-end-6 : goal.slice_bounds-fit-end-6
slice_bounds-fit-end-6 c = sym (length-take-le 8192 c.places-all.result (omega (arith, c.places-all.ensures)))

pub returns : goal.returns
returns c = fit_held c.fit.result (length-take-le 4096 c.places-all.result (omega (arith, c.places-all.ensures))) (length-take-le 8192 c.places-all.result (omega (arith, c.places-all.ensures))) c.fit.ensures
