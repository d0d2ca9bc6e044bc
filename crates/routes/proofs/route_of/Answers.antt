-- The joins passed stand in front, and those from the entry on are still to come.
use native.Mathlib.Omega.{arith}
use Rattle.routes.specs.Joins.{routing_none, entry_low, goes_low, place_free, routing_next, routing_end}
use borrow.Author.Rules.{rules}
use Rattle.routes.proofs.route_of.Goals as goal

pub loop-e-init : goal.loop-e-init
loop-e-init c = routing_none

pub overflow_add-i : goal.overflow_add-i
overflow_add-i c = let l = entry_low c.requires c.loop-e.invariant c.loop-e-test.true in search rules

pub offset_bounds-nexts-i : goal.offset_bounds-nexts-i
offset_bounds-nexts-i c = let l = entry_low c.requires c.loop-e.invariant c.loop-e-test.true in search rules

pub bounds-nexts-i : goal.bounds-nexts-i
bounds-nexts-i c = let l = entry_low c.requires c.loop-e.invariant c.loop-e-test.true in omega arith

pub put_join-n-requires : goal.put_join-n-requires
put_join-n-requires c = place_free c.requires c.loop-e.invariant c.loop-e-test.true

pub overflow_add-e : goal.overflow_add-e
overflow_add-e c = let l = entry_low c.requires c.loop-e.invariant c.loop-e-test.true in search rules

pub offset_bounds-nexts-i-in-loop-e : goal.offset_bounds-nexts-i-in-loop-e
offset_bounds-nexts-i-in-loop-e c = let l = entry_low c.requires c.loop-e.invariant c.loop-e-test.true in search rules

pub bounds-nexts-i-in-loop-e : goal.bounds-nexts-i-in-loop-e
bounds-nexts-i-in-loop-e c = let l = entry_low c.requires c.loop-e.invariant c.loop-e-test.true in omega arith

pub loop-e-smaller : goal.loop-e-smaller
loop-e-smaller c = goes_low c.requires c.loop-e.invariant c.loop-e-test.true

pub loop-e-preserved : goal.loop-e-preserved
loop-e-preserved c = routing_next c.requires c.loop-e.invariant c.loop-e-test.true c.put_join-n.ensures

pub returns : goal.returns
returns c = routing_end c.loop-e-test.false c.loop-e.invariant
