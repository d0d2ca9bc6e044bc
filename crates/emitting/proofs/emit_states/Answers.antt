-- The states below s are done; the rest is what the definition does with the other states.
use mathlib.Core.Path.{refl, ◌∙◌}
use native.Mathlib.Omega.{arith}
use Rattle.std.proofs.lemmas.Result.{err_from_is_err_and}
use Rattle.stores.specs.Rep.{lens_self, lens_then}
use Rattle.emitting.specs.Emit.{far_start, emit_now, far_next, far_stop, far_end}
use Rattle.emitting.proofs.emit_states.Goals as goal

pub overflow_sub-side : goal.overflow_sub-side
overflow_sub-side c = let z = c.requires.ground.pass.side in omega arith

pub next_active-s-requires : goal.next_active-s-requires
next_active-s-requires c = let z = c.requires.at.stood.places.tokens in (omega arith, omega arith, omega arith)

pub loop-s-init : goal.loop-s-init
loop-s-init c = let N = c.next_active-s.ensures in (N.upto, N.active, lens_self _, refl, λ G. far_start G _ _ N)

pub emit_state-requires : goal.emit_state-requires
emit_state-requires c = (emit_now c.requires _ (c.loop-s.invariant.4 c.requires) c.loop-s.invariant.3, (c.loop-s-test.true, c.loop-s.invariant.1 c.loop-s-test.true))

pub returns-in_err-w : goal.returns-in_err-w
returns-in_err-w c = let p = err_from_is_err_and c.from_residual.result c.from_residual.ensures.1 in rw (p.1, p.2) (λ G. far_stop G _ (c.loop-s.invariant.4 G) (c.loop-s-test.true, c.loop-s.invariant.1 c.loop-s-test.true) c.loop-s.invariant.3 _ c.emit_state.ensures _ c.in_err-w.was)

pub overflow_add-s : goal.overflow_add-s
overflow_add-s c = let h = c.loop-s-test.true in let k = c.requires.ground.pass.few in record { fits = omega arith }

pub next_active-s-requires-in-loop-s : goal.next_active-s-requires-in-loop-s
next_active-s-requires-in-loop-s c = let h = c.loop-s-test.true in
    let z = c.requires.at.stood.places.tokens in
    let a = c.emit_state.auto.tokens in
    let b = c.loop-s.invariant.2.tokens in
    (omega arith, omega arith, omega arith)

pub loop-s-smaller : goal.loop-s-smaller
loop-s-smaller c = let h = c.loop-s-test.true in let k = c.next_active-s-in-loop-s.ensures.from in omega arith

pub loop-s-preserved : goal.loop-s-preserved
loop-s-preserved c = let N = c.next_active-s-in-loop-s.ensures in (
  N.upto,
  N.active,
  lens_then c.loop-s.invariant.2 (record { tokens = c.emit_state.auto.tokens; sums = c.emit_state.auto.sums; records = c.emit_state.auto.records; labels = c.emit_state.auto.labels; gaps = c.emit_state.auto.gaps }),
  c.emit_state.auto.queue ∙ c.loop-s.invariant.3,
  λ G. far_next G _ (c.loop-s.invariant.4 G) (c.loop-s-test.true, c.loop-s.invariant.1 c.loop-s-test.true) c.loop-s.invariant.3 _ c.emit_state.ensures _ c.in_ok-w.was _ N,
)

pub returns : goal.returns
returns c = λ G. far_end G _ (c.loop-s.invariant.4 G) c.loop-s-test.false
