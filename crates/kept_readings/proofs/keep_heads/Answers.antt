-- The first m are the heads so far.
use Rattle.std.proofs.Common.{◌≡◌, ℕ, take, sym, refl, ap, ◌∙◌, subst, arith}
use Rattle.lists.specs.Lists.{keep_if}
use Rattle.lists.specs.Tests.{next_fits}
use Rattle.kept_readings.specs.Heads.{StateAsks, is_head}
use Rattle.kept_readings.specs.Steps.{keep_none, keep_next}
use Rattle.kept_readings.proofs.keep_heads.Goals as goal

pub loop-i-init : goal.loop-i-init
loop-i-init c = (omega arith, keep_none _ _ _)

pub bounds-heads-i : goal.bounds-heads-i
bounds-heads-i c = let z = c.loop-i.invariant.1.same_length in let k = c.requires.long in let t = c.loop-i-test.true in omega arith

pub is_head-kept-requires : goal.is_head-kept-requires
is_head-kept-requires c = (c.requires.side, c.requires.chains, subst (StateAsks c.args.tokens.now c.args.sums.now c.args.finals.now c.args.side c.args.used) (sym (c.loop-i.invariant.1.ahead _ (omega arith))) (c.requires.each _ c.loop-i-test.true))

pub keep_if-m-requires : goal.keep_if-m-requires
keep_if-m-requires c = let z = c.loop-i.invariant.1.same_length in let k = c.requires.long in let f = c.loop-i.invariant.1.few in let t = c.loop-i-test.true in omega arith

pub overflow_step-i : goal.overflow_step-i
overflow_step-i c = record { fits = next_fits _ _ _ c.loop-i-test.true c.ranges.n.fits }

pub loop-i-smaller : goal.loop-i-smaller
loop-i-smaller c = let t = c.loop-i-test.true in omega arith

pub loop-i-preserved : goal.loop-i-preserved
loop-i-preserved c = let t = c.loop-i-test.true in let k = c.requires.long in (omega arith, keep_next c.loop-i.invariant.1 (omega arith) _ refl _ (λ w. c.is_head-kept.ensures.is w.0 w.1 w.2) c.keep_if-m.ensures)

pub returns : goal.returns
returns c = let C = c.loop-i.invariant.1 in let l = c.loop-i-test.false in let e : c.loop-i.i ≡ c.args.n = let z = c.loop-i.invariant.0 in omega arith in record { few = let f = C.few in omega arith; is = λ gs h ok. C.is (gs, h, ok) ∙ ap (λ (k : ℕ). keep_if (is_head h c.args.tokens.now c.args.sums.now c.args.finals.now c.args.side c.args.counts c.args.bound) (take k c.args.heads.now)) e }
