-- The sizes so far.
use mathlib.Core.Path.{subst}
use native.Mathlib.Omega.{arith}
use Prim.Native.Nat.{ℕ}
use Rattle.readings.specs.Paths.{TotalIs, size_by}
use Rattle.readings.specs.Totals.{total_none, total_next}
use Rattle.readings.proofs.measure_all.Goals as goal

pub loop-i-init : goal.loop-i-init
loop-i-init c = (omega arith, total_none)

pub bounds-order-i : goal.bounds-order-i
bounds-order-i c = let z = c.requires.long in omega arith

pub measure_at-z-requires : goal.measure_at-z-requires
measure_at-z-requires c = c.requires.each _ c.loop-i-test.true

pub overflow_add-words : goal.overflow_add-words
overflow_add-words c = record { fits = let z = c.loop-i.invariant.1.few.0 in let y = c.measure_at-z.ensures.few.0 in let f = c.requires.few in let q = (c.requires.each _ c.loop-i-test.true).walkable.few in omega arith }

pub overflow_add-segments : goal.overflow_add-segments
overflow_add-segments c = record { fits = let z = c.loop-i.invariant.1.few.1 in let y = c.measure_at-z.ensures.few.1 in let f = c.requires.few in let q = (c.requires.each _ c.loop-i-test.true).walkable.few in omega arith }

pub loop-i-smaller : goal.loop-i-smaller
loop-i-smaller c = omega arith

pub loop-i-preserved : goal.loop-i-preserved
loop-i-preserved c = (omega arith, total_next c.loop-i.invariant.1 (let z = c.requires.long in omega arith) (c.requires.each _ c.loop-i-test.true).walkable.few c.measure_at-z.ensures)

pub returns : goal.returns
returns c = let a = c.args in let e = c.loop-i.invariant.0 in let f = c.loop-i-test.false in
    subst (λ (j : ℕ). TotalIs a.tokens.now a.records.now a.labels.now a.side a.used a.n a.order.now j (size_by c.loop-i.words c.loop-i.segments)) (omega arith) c.loop-i.invariant.1
