-- The state's arcs are the parts between its offset and the next.
use native.Mathlib.Omega.{arith}
use Rattle.arcs.specs.State.{offset_room, bounds, all_given, state_done}
use Rattle.arcs.proofs.arrive_state.Goals as goal

pub first_arc-a-requires : goal.first_arc-a-requires
first_arc-a-requires c = let z = offset_room c.requires in omega arith

pub first_arc-e-requires : goal.first_arc-e-requires
first_arc-e-requires c = let z = offset_room c.requires in omega arith

pub offset_bounds-ilabels-a : goal.offset_bounds-ilabels-a
offset_bounds-ilabels-a c = let z = bounds c.requires _ _ c.first_arc-a.ensures c.first_arc-e.ensures in let a = z.0 in let b = z.5 in record { fits = omega arith }

pub slice_bounds-arrive_all-count : goal.slice_bounds-arrive_all-count
slice_bounds-arrive_all-count c = (bounds c.requires _ _ c.first_arc-a.ensures c.first_arc-e.ensures).0

pub offset_bounds-olabels-a : goal.offset_bounds-olabels-a
offset_bounds-olabels-a c = let z = bounds c.requires _ _ c.first_arc-a.ensures c.first_arc-e.ensures in let a = z.0 in let b = z.5 in record { fits = omega arith }

pub slice_bounds-arrive_all-count-2 : goal.slice_bounds-arrive_all-count-2
slice_bounds-arrive_all-count-2 c = (bounds c.requires _ _ c.first_arc-a.ensures c.first_arc-e.ensures).0

pub offset_bounds-weights-a : goal.offset_bounds-weights-a
offset_bounds-weights-a c = let z = bounds c.requires _ _ c.first_arc-a.ensures c.first_arc-e.ensures in let a = z.0 in let b = z.5 in record { fits = omega arith }

pub slice_bounds-arrive_all-count-3 : goal.slice_bounds-arrive_all-count-3
slice_bounds-arrive_all-count-3 c = (bounds c.requires _ _ c.first_arc-a.ensures c.first_arc-e.ensures).0

pub offset_bounds-nextstates-a : goal.offset_bounds-nextstates-a
offset_bounds-nextstates-a c = let z = bounds c.requires _ _ c.first_arc-a.ensures c.first_arc-e.ensures in let a = z.0 in let b = z.5 in record { fits = omega arith }

pub slice_bounds-arrive_all-count-4 : goal.slice_bounds-arrive_all-count-4
slice_bounds-arrive_all-count-4 c = (bounds c.requires _ _ c.first_arc-a.ensures c.first_arc-e.ensures).0

pub arrive_all-requires : goal.arrive_all-requires
arrive_all-requires c = all_given c.requires _ _ c.first_arc-a.ensures c.first_arc-e.ensures

pub returns : goal.returns
returns c = λ G. state_done G _ _ c.first_arc-a.ensures c.first_arc-e.ensures _ _ _ c.arrive_all.ensures
