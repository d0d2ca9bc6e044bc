-- The best state's arcs are the parts between its offset and the next.
use mathlib.Core.Path.{◌∙◌, ap}
use native.Mathlib.Omega.{arith}
use Rattle.model.specs.Basics.{ok}
use Rattle.emitting.specs.Whole.{looks_none, offset_room, bounds, look_asks, looked}
use Rattle.emitting.proofs.look.Goals as goal

pub returns-then-states-s : goal.returns-then-states-s
returns-then-states-s c = λ G. ap ok c.infinity.ensures ∙ looks_none G c.if-states-s.true

pub first_arc-a-requires : goal.first_arc-a-requires
first_arc-a-requires c = let z = offset_room c.requires c.if-states-s.false in omega arith

pub first_arc-e-requires : goal.first_arc-e-requires
first_arc-e-requires c = let z = offset_room c.requires c.if-states-s.false in omega arith

pub offset_bounds-ilabels-a : goal.offset_bounds-ilabels-a
offset_bounds-ilabels-a c = let z = bounds c.requires c.if-states-s.false _ _ c.first_arc-a.ensures c.first_arc-e.ensures in let a = z.0 in let b = z.3 in record { fits = omega arith }

pub slice_bounds-first_look-count : goal.slice_bounds-first_look-count
slice_bounds-first_look-count c = (bounds c.requires c.if-states-s.false _ _ c.first_arc-a.ensures c.first_arc-e.ensures).0

pub offset_bounds-weights-a : goal.offset_bounds-weights-a
offset_bounds-weights-a c = let z = bounds c.requires c.if-states-s.false _ _ c.first_arc-a.ensures c.first_arc-e.ensures in let a = z.0 in let b = z.3 in record { fits = omega arith }

pub slice_bounds-first_look-count-2 : goal.slice_bounds-first_look-count-2
slice_bounds-first_look-count-2 c = (bounds c.requires c.if-states-s.false _ _ c.first_arc-a.ensures c.first_arc-e.ensures).0

pub first_look-requires : goal.first_look-requires
first_look-requires c = look_asks c.requires c.if-states-s.false _ _ c.first_arc-a.ensures c.first_arc-e.ensures

pub returns : goal.returns
returns c = λ G. looked G c.if-states-s.false _ _ c.first_arc-a.ensures c.first_arc-e.ensures c.first_look.result c.first_look.ensures
