-- What stands, and of what is to come the new ones, make the list.
use Rattle.std.proofs.Common.{arith}
use Rattle.entries.specs.Filling.{few_paths, fill_none, next_asks, pick_asks, fill_moved, fill_full, fill_cap, fill_end}
use Rattle.entries.proofs.fill_list.Goals as goal

pub loop-i-init : goal.loop-i-init
loop-i-init c = fill_none c.requires c.within-n.ensures c.within-m.ensures

pub overflow_add-i : goal.overflow_add-i
overflow_add-i c = record { fits = let u = few_paths c.requires c.within-n.ensures c.within-m.ensures in let y = c.loop-i.invariant.own_done in let z = c.loop-i.invariant.kept_done in omega arith }

pub overflow_add-n : goal.overflow_add-n
overflow_add-n c = record { fits = let u = few_paths c.requires c.within-n.ensures c.within-m.ensures in omega arith }

pub returns-then-to-from : goal.returns-then-to-from
returns-then-to-from c = fill_cap c.requires c.within-n.ensures c.within-m.ensures c.loop-i.invariant c.if-to-from.true

pub own_next-takes_own-requires : goal.own_next-takes_own-requires
own_next-takes_own-requires c = next_asks c.requires c.within-n.ensures c.within-m.ensures c.loop-i.invariant

pub pick-b-requires : goal.pick-b-requires
pick-b-requires c = pick_asks c.requires c.within-n.ensures c.within-m.ensures c.loop-i.invariant c.loop-i-test.true c.own_next-takes_own.ensures

pub returns-in_err-to : goal.returns-in_err-to
returns-in_err-to c = rw c.from_residual.ensures (fill_full c.requires c.within-n.ensures c.within-m.ensures c.loop-i.invariant c.loop-i-test.true c.own_next-takes_own.ensures c.pick-b.ensures c.if-to-from.false c.in_err-to.ensures)

pub moved-i-requires : goal.moved-i-requires
moved-i-requires c = let u = few_paths c.requires c.within-n.ensures c.within-m.ensures in let y = c.loop-i.invariant.own_done in omega arith

pub moved-j-requires : goal.moved-j-requires
moved-j-requires c = let u = few_paths c.requires c.within-n.ensures c.within-m.ensures in let y = c.loop-i.invariant.kept_done in omega arith

pub loop-i-preserved : goal.loop-i-preserved
loop-i-preserved c = fill_moved c.requires c.within-n.ensures c.within-m.ensures c.loop-i.invariant c.loop-i-test.true c.own_next-takes_own.ensures c.pick-b.ensures c.if-to-from.false _ c.put_new.auto.hashes c.put_new.auto.nexts c.put_new.auto.sums c.in_ok-to.ensures _ _ c.moved-i.ensures c.moved-j.ensures

pub returns : goal.returns
returns c = fill_end c.requires c.within-n.ensures c.within-m.ensures c.loop-i.invariant (let z = c.loop-i-test.false in omega arith)
