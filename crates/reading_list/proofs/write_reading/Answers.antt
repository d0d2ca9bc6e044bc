-- The token, its path along the entry's route, and its numbers and costs.
use mathlib.Core.Path.{sym}
use lib.Seq.{length-take-le}
use Rattle.reading_list.specs.Behind.{link_low, behind_asks, grow_fits, line_put}
use Rattle.reading_list.proofs.write_reading.Goals as goal

pub slice_bounds-measure_path-end-2 : goal.slice_bounds-measure_path-end-2
slice_bounds-measure_path-end-2 c = sym (length-take-le _ _ c.route_of-k.ensures.few)

pub measure_path-z-requires : goal.measure_path-z-requires
measure_path-z-requires c = (c.requires.0.path.walkable, link_low c.requires.0 c.token_at-t.ensures, c.requires.1, c.requires.2)

pub slice_bounds-write_behind-end-2 : goal.slice_bounds-write_behind-end-2
slice_bounds-write_behind-end-2 c = sym (length-take-le _ _ c.route_of-k.ensures.few)

pub write_behind-requires : goal.write_behind-requires
write_behind-requires c = (c.requires.0.path.walkable, link_low c.requires.0 c.token_at-t.ensures, behind_asks c.requires.0 c.token_at-t.ensures c.route_of-k.ensures c.measure_path-z.ensures, c.requires.1)

pub grown-to-requires : goal.grown-to-requires
grown-to-requires c = grow_fits c.requires.0 c.token_at-t.ensures c.route_of-k.ensures c.measure_path-z.ensures

pub put_numbers-requires : goal.put_numbers-requires
put_numbers-requires c = c.requires.0.numbers

pub put_costs-requires : goal.put_costs-requires
put_costs-requires c = c.requires.0.costs

pub returns : goal.returns
returns c = line_put c.requires.0 c.token_at-t.ensures c.route_of-k.ensures c.measure_path-z.ensures c.write_behind.ensures c.grown-to.ensures c.put_numbers.ensures c.put_costs.ensures
