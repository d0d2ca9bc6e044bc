-- Each turn leaves less to spend, and what the rest of the loop comes to the whole loop does.
use mathlib.Core.Path.{refl, ◌∙◌}
use native.Mathlib.Omega.{arith}
use Rattle.std.proofs.lemmas.Result.{err_from_is_err_and}
use Rattle.stores.specs.Rep.{lens_self, lens_then}
use Rattle.nonemitting.specs.Drain.{far_start, state_given, far_next, far_stop, far_less, far_end}
use Rattle.nonemitting.proofs.drain.Goals as goal

pub loop-w-init : goal.loop-w-init
loop-w-init c = (lens_self _, refl, λ G. far_start G)

pub offset_bounds-queue-count : goal.offset_bounds-queue-count
offset_bounds-queue-count c = let k = c.loop-w.invariant.1 in let f = (c.loop-w.invariant.2 c.requires).at.fits in record { fits = omega arith }

pub bounds-queue-count : goal.bounds-queue-count
bounds-queue-count c = let f = (c.loop-w.invariant.2 c.requires).at.fits in let h = c.loop-w-test.true in omega arith

pub expand-requires : goal.expand-requires
expand-requires c = state_given c.requires (c.loop-w.invariant.2 c.requires) c.loop-w-test.true c.loop-w.invariant.1 _ refl

pub returns-in_err-w : goal.returns-in_err-w
returns-in_err-w c = let p = err_from_is_err_and c.from_residual.result c.from_residual.ensures.1 in rw (p.1, p.2) (λ G. far_stop G (c.loop-w.invariant.2 G) c.loop-w-test.true c.loop-w.invariant.1 _ refl c.expand.ensures _ c.in_err-w.was)

pub loop-w-smaller : goal.loop-w-smaller
loop-w-smaller c = far_less c.requires (c.loop-w.invariant.2 c.requires) c.loop-w-test.true c.loop-w.invariant.1 _ refl c.expand.ensures _ c.in_ok-w.was

pub loop-w-preserved : goal.loop-w-preserved
loop-w-preserved c = (
  lens_then c.loop-w.invariant.0 (record { tokens = c.expand.auto.tokens; sums = c.expand.auto.sums; records = c.expand.auto.records; labels = c.expand.auto.labels; gaps = c.expand.auto.gaps }),
  c.expand.auto.queue ∙ c.loop-w.invariant.1,
  λ G. far_next G (c.loop-w.invariant.2 G) c.loop-w-test.true c.loop-w.invariant.1 _ refl c.expand.ensures _ c.in_ok-w.was,
)

pub returns : goal.returns
returns c = λ G. far_end G (c.loop-w.invariant.2 G) c.loop-w-test.false
