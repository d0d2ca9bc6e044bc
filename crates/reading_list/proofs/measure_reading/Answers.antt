-- The walk from the token's newest record, along the entry's route.
use mathlib.Core.Path.{sym}
use lib.Seq.{length-take-le}
use Rattle.reading_list.specs.Behind.{size_of}
use Rattle.reading_list.proofs.measure_reading.Goals as goal

pub slice_bounds-measure_path-end-2 : goal.slice_bounds-measure_path-end-2
slice_bounds-measure_path-end-2 c = sym (length-take-le _ _ c.route_of-k.ensures.few)

pub returns : goal.returns
returns c = size_of c.args.tokens.now c.args.records.now c.args.labels.now c.args.nexts.now c.args.side c.args.n c.args.g c.route_of-k.ensures c.link_at-link.ensures c.measure_path.ensures
