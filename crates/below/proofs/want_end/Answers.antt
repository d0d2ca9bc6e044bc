-- The end of the history's reading is its newest join.
use Rattle.below.proofs.Marking.{end_wanted}
use native.Mathlib.Omega.{arith}
use Rattle.below.proofs.want_end.Goals as goal

pub first_join-requires : goal.first_join-requires
first_join-requires c = (c.requires.0, c.requires.1)

pub want-requires : goal.want-requires
want-requires c = let z = c.first_join.ensures.low in omega arith

pub returns : goal.returns
returns c = end_wanted _ _ c.requires.1 c.first_join.ensures c.want.ensures
