-- The records passed have their lists.
use mathlib.Core.Path.{refl, ◌∙◌}
use Prim.Native.Nat.{◌+◌}
use native.Mathlib.Numerals.{add-one}
use Rattle.below.proofs.Filled.{done_none, done_next, done_stop, done_all}
use native.Mathlib.Omega.{arith}
use Rattle.below.proofs.fill_lists.Goals as goal

pub loop-k-init : goal.loop-k-init
loop-k-init c = (refl, refl, refl, refl, done_none c.args.records.now c.args.labels.now c.args.gaps.now c.args.used c.args.margin c.args.cap c.args.lists.now c.args.hashes.now c.args.nexts.now c.args.sums.now c.args.places c.requires)

pub overflow_add-k : goal.overflow_add-k
overflow_add-k c = record { fits = let z = c.requires.walkable.few in let y = c.loop-k-test.true in omega arith }

pub returns-in_err-free : goal.returns-in_err-free
returns-in_err-free c = rw c.from_residual.ensures (done_stop c.args.records.now c.args.labels.now c.args.gaps.now c.args.used c.args.margin c.args.cap c.args.lists.now c.loop-k.lists c.loop-k.hashes c.loop-k.nexts c.loop-k.sums c.args.places c.loop-k.k c.loop-k.free c.loop-k.invariant.4 (let z = c.loop-k-test.true in omega arith) c.requires.h c.requires.links c.requires.fair _ _ _ _ (c.loop-k.k + 1) (add-one c.loop-k.k) c.in_err-free.ensures)

pub loop-k-preserved : goal.loop-k-preserved
loop-k-preserved c = (c.fill_one.auto.lists ∙ c.loop-k.invariant.0, c.fill_one.auto.hashes ∙ c.loop-k.invariant.1, c.fill_one.auto.nexts ∙ c.loop-k.invariant.2, c.fill_one.auto.sums ∙ c.loop-k.invariant.3, done_next c.args.records.now c.args.labels.now c.args.gaps.now c.args.used c.args.margin c.args.cap c.args.lists.now c.loop-k.lists c.loop-k.hashes c.loop-k.nexts c.loop-k.sums c.args.places c.loop-k.k c.loop-k.free c.loop-k.invariant.4 (let z = c.loop-k-test.true in omega arith) c.requires.h c.requires.links c.requires.fair _ _ _ _ c.in_ok-free.free (c.loop-k.k + 1) (add-one c.loop-k.k) c.in_ok-free.ensures)

pub returns : goal.returns
returns c = done_all c.args.records.now c.args.labels.now c.args.gaps.now c.args.used c.args.margin c.args.cap c.args.lists.now c.loop-k.lists c.loop-k.hashes c.loop-k.nexts c.loop-k.sums c.args.places c.loop-k.k c.loop-k.free (let z = c.loop-k-test.false in omega arith) c.loop-k.invariant.4
