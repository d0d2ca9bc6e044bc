-- Those before the i-th are added.
use Rattle.std.proofs.Common.{arith}
use Rattle.kept_readings.specs.Steps.{below_none, below_next, below_short, below_all, room_still}
use Rattle.kept_readings.proofs.add_below.Goals as goal

pub loop-i-init : goal.loop-i-init
loop-i-init c = below_none _ _ _ _ _ _ _ _ _ _ _ _ _ _ c.requires.2

pub overflow_add-first : goal.overflow_add-first
overflow_add-first c = record { fits = let z = c.requires.0.fits in let t = c.loop-i-test.true in omega arith }

pub add_entry-requires : goal.add_entry-requires
add_entry-requires c = let t = c.loop-i-test.true in let r = c.requires.0.room in (record { hashes = let z = r.hashes in omega arith; nexts = let z = r.nexts in omega arith; sums = let z = r.sums in omega arith }, c.requires.0.lens _ t, room_still c.loop-i.invariant.sized c.requires.1, c.loop-i.invariant.fits)

pub returns-in_err-m : goal.returns-in_err-m
returns-in_err-m c = rw c.from_residual.ensures (below_short _ _ _ _ _ _ _ _ _ _ _ _ _ _ c.loop-i.invariant c.loop-i-test.true c.in_err-m.ensures)

pub overflow_step-i : goal.overflow_step-i
overflow_step-i c = record { fits = let z = c.requires.0.fits in let t = c.loop-i-test.true in omega arith }

pub loop-i-smaller : goal.loop-i-smaller
loop-i-smaller c = let t = c.loop-i-test.true in omega arith

pub loop-i-preserved : goal.loop-i-preserved
loop-i-preserved c = below_next _ _ _ _ _ _ _ _ _ _ _ _ _ _ c.loop-i.invariant c.loop-i-test.true c.in_ok-m.ensures (record { hashes = c.add_entry.auto.kept_hashes; links = c.add_entry.auto.kept_links; sums = c.add_entry.auto.kept_sums })

pub returns : goal.returns
returns c = below_all _ _ _ _ _ _ _ _ _ _ _ _ _ _ c.loop-i.invariant c.loop-i-test.false
