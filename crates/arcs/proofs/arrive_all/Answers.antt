-- The arcs below i are done; the rest is what the definition does with the other arcs.
use mathlib.Core.Path.{refl, ◌∙◌}
use native.Mathlib.Omega.{arith}
use Rattle.std.proofs.lemmas.Result.{err_from_is_err_and}
use Rattle.stores.specs.Rep.{lens_self, lens_then}
use Rattle.arcs.specs.All.{far_start, all_now, far_next, far_stop, far_end}
use Rattle.arcs.proofs.arrive_all.Goals as goal

pub loop-i-init : goal.loop-i-init
loop-i-init c = (omega arith, lens_self _, refl, λ G. far_start G)

pub arrive_at-requires : goal.arrive_at-requires
arrive_at-requires c = (all_now c.requires (c.loop-i.invariant.3 c.requires) c.loop-i.invariant.2, c.loop-i-test.true)

pub returns-in_err-w : goal.returns-in_err-w
returns-in_err-w c = let p = err_from_is_err_and c.from_residual.result c.from_residual.ensures.1 in rw (p.1, p.2) (λ G. far_stop G (c.loop-i.invariant.3 G) c.loop-i-test.true c.loop-i.invariant.2 _ c.arrive_at.ensures _ c.in_err-w.was)

pub loop-i-smaller : goal.loop-i-smaller
loop-i-smaller c = let h = c.loop-i-test.true in omega arith

pub loop-i-preserved : goal.loop-i-preserved
loop-i-preserved c = let h = c.loop-i-test.true in (
  omega arith,
  lens_then c.loop-i.invariant.1 (record { tokens = c.arrive_at.auto.tokens; sums = c.arrive_at.auto.sums; records = c.arrive_at.auto.records; labels = c.arrive_at.auto.labels; gaps = c.arrive_at.auto.gaps }),
  c.arrive_at.auto.queue ∙ c.loop-i.invariant.2,
  λ G. far_next G (c.loop-i.invariant.3 G) h c.loop-i.invariant.2 _ c.arrive_at.ensures _ c.in_ok-w.was,
)

pub returns : goal.returns
returns c = λ G. far_end G (c.loop-i.invariant.3 G) c.loop-i-test.false
