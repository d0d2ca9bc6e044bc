-- The readings so far.
use mathlib.Core.Path.{refl, ◌∙◌}
use native.Mathlib.Omega.{arith}
use Rattle.reading_list.specs.Writing.{going_none, line_asks, going_next, going_done}
use Rattle.reading_list.proofs.write_all.Goals as goal

pub loop-i-init : goal.loop-i-init
loop-i-init c = (refl, going_none c.requires.0)

pub offset_bounds-list-i : goal.offset_bounds-list-i
offset_bounds-list-i c = record { fits = let z = c.requires.0.asks.few in omega arith }

pub bounds-list-i : goal.bounds-list-i
bounds-list-i c = let z = c.requires.0.asks.long in omega arith

pub reading_at-g-requires : goal.reading_at-g-requires
reading_at-g-requires c = c.requires.0.asks.items _ c.loop-i-test.true

pub write_reading-at-requires : goal.write_reading-at-requires
write_reading-at-requires c = (line_asks c.requires.0 c.loop-i.invariant.1 c.loop-i-test.true c.reading_at-g.ensures c.loop-i.invariant.0, c.requires.1, c.requires.2)

pub overflow_step-i : goal.overflow_step-i
overflow_step-i c = record { fits = let z = c.requires.0.asks.few in omega arith }

pub loop-i-smaller : goal.loop-i-smaller
loop-i-smaller c = omega arith

pub loop-i-preserved : goal.loop-i-preserved
loop-i-preserved c = (c.write_reading-at.auto.route ∙ c.loop-i.invariant.0, going_next c.requires.0 c.loop-i.invariant.1 c.loop-i-test.true c.reading_at-g.ensures c.write_reading-at.ensures)

pub returns : goal.returns
returns c = going_done c.requires.0 c.loop-i.invariant.1 c.loop-i-test.false
