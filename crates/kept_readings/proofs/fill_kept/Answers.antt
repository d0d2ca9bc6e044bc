-- Those below the first i heads are added.
use Rattle.std.proofs.Common.{arith}
use Rattle.lists.specs.Tests.{next_fits}
use Rattle.kept_readings.specs.Steps.{fill_none, fill_next, fill_short, fill_all, room_still}
use Rattle.kept_readings.proofs.fill_kept.Goals as goal

pub loop-i-init : goal.loop-i-init
loop-i-init c = (omega arith, fill_none _ _ _ _ _ _ _ _ _ _ _ _ _ _ _ _ _ _)

pub bounds-heads-i : goal.bounds-heads-i
bounds-heads-i c = let k = c.requires.long in let t = c.loop-i-test.true in omega arith

pub add_head-requires : goal.add_head-requires
add_head-requires c = (c.requires.side, c.requires.chains, c.requires.lists_long, c.requires.each _ c.loop-i-test.true, room_still c.loop-i.invariant.1.sized c.requires.room, c.loop-i.invariant.1.fits)

pub returns-in_err-n : goal.returns-in_err-n
returns-in_err-n c = rw c.from_residual.ensures (fill_short _ _ _ _ _ _ _ _ _ _ _ _ _ _ _ _ _ _ c.loop-i.invariant.1 _ c.loop-i-test.true c.requires.long c.in_err-n.ensures)

pub overflow_step-i : goal.overflow_step-i
overflow_step-i c = record { fits = next_fits _ _ _ c.loop-i-test.true c.ranges.m.fits }

pub loop-i-smaller : goal.loop-i-smaller
loop-i-smaller c = let t = c.loop-i-test.true in omega arith

pub loop-i-preserved : goal.loop-i-preserved
loop-i-preserved c = let t = c.loop-i-test.true in (omega arith, fill_next _ _ _ _ _ _ _ _ _ _ _ _ _ _ _ _ _ _ c.loop-i.invariant.1 _ c.loop-i-test.true c.requires.long c.in_ok-n.ensures (record { hashes = c.add_head.auto.kept_hashes; links = c.add_head.auto.kept_links; sums = c.add_head.auto.kept_sums }))

pub returns : goal.returns
returns c = fill_all _ _ _ _ _ _ _ _ _ _ _ _ _ _ _ _ _ _ c.loop-i.invariant.1 _ (let z = c.loop-i.invariant.0 in let t = c.loop-i-test.false in omega arith)
