-- The states below s are done; the rest is what the definition does with the other states.
use mathlib.Core.Path.{refl}
use native.Mathlib.Omega.{arith}
use Rattle.std.proofs.lemmas.Result.{err_from_is_err_and}
use Rattle.nonemitting.specs.Pushes.{far_start, far_next, far_stop, far_end}
use borrow.Author.Rules.{rules}
use Rattle.nonemitting.proofs.push_active.Goals as goal

pub loop-s-init : goal.loop-s-init
loop-s-init c = (c.next_active-s.ensures.upto, refl, c.next_active-s.ensures.active, λ sm rs rl gs G. far_start G c.next_active-s.ensures)

pub returns-in_err-w : goal.returns-in_err-w
returns-in_err-w c = let p = err_from_is_err_and c.from_residual.result c.from_residual.ensures.1 in rw (p.1, p.2) (λ sm rs rl gs G. far_stop G (c.loop-s.invariant.3 sm rs rl gs G) c.loop-s-test.true (c.loop-s.invariant.2 c.loop-s-test.true) c.loop-s.invariant.1 c.push_state.ensures _ c.in_err-w.was)

pub loop-s-smaller : goal.loop-s-smaller
loop-s-smaller c = let z = c.next_active-s-in-loop-s.ensures.from in let h = c.loop-s-test.true in omega arith

pub loop-s-preserved : goal.loop-s-preserved
loop-s-preserved c = (c.next_active-s-in-loop-s.ensures.upto, search rules, c.next_active-s-in-loop-s.ensures.active, λ sm rs rl gs G. far_next G (c.loop-s.invariant.3 sm rs rl gs G) c.loop-s-test.true (c.loop-s.invariant.2 c.loop-s-test.true) c.loop-s.invariant.1 c.push_state.ensures _ c.in_ok-w.was c.next_active-s-in-loop-s.ensures)

pub returns : goal.returns
returns c = λ sm rs rl gs G. far_end G (c.loop-s.invariant.3 sm rs rl gs G) c.loop-s-test.false c.loop-s.invariant.0
