-- The arc, then its end.
use Rattle.std.proofs.lemmas.Result.{err_from_is_err_and}
use Rattle.arcs.specs.Whole.{whole, whole_stops, arc_given, end_asks}
use Rattle.arcs.proofs.arrive_whole.Goals as goal

pub arrive-requires : goal.arrive-requires
arrive-requires c = arc_given c.requires

pub returns-in_err-came : goal.returns-in_err-came
returns-in_err-came c = let p = err_from_is_err_and c.from_residual.result c.from_residual.ensures.1 in rw (p.1, p.2) (λ G. whole_stops G _ _ c.in_err-came.ensures)

pub finish-requires : goal.finish-requires
finish-requires c = end_asks c.requires c.arrive.new.tokens c.arrive.auto.tokens

pub returns : goal.returns
returns c = λ G. whole G _ _ _ _ _ _ _ _ _ c.finish.auto.tokens c.in_ok-came.ensures c.finish.ensures
