-- The paths so far.
use native.Mathlib.Omega.{arith}
use Rattle.readings.specs.Writing.{going_none, entry_asks, going_next, going_done}
use Rattle.readings.proofs.write_all.Goals as goal

pub loop-i-init : goal.loop-i-init
loop-i-init c = going_none c.requires

pub bounds-order-i : goal.bounds-order-i
bounds-order-i c = let z = c.requires.fill.long in omega arith

pub write_entry-at-requires : goal.write_entry-at-requires
write_entry-at-requires c = entry_asks c.requires c.loop-i.invariant c.loop-i-test.true

pub loop-i-smaller : goal.loop-i-smaller
loop-i-smaller c = omega arith

pub loop-i-preserved : goal.loop-i-preserved
loop-i-preserved c = going_next c.requires c.loop-i.invariant c.loop-i-test.true c.write_entry-at.ensures

pub returns : goal.returns
returns c = going_done c.requires c.loop-i.invariant c.loop-i-test.false
