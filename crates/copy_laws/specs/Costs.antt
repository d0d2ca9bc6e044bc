-- The rank and the cost of every listed reading are finite and no −0; a kept one's rank, as long as it takes fewer than 2 ^ 24 kept paths. Assumes nothing.
use Rattle.std.specs.Prelude.{length}
use Rattle.model.specs.Reads.{Group}
use Rattle.copy_laws.specs.Ranks.{Sure}
use Rattle.copy_laws.specs.Bounds.{Few}

pub record SureReading (x : Group) : Type 0 where
  pub cost : Sure 102 x.cost
  pub rank : Few (length x.route) → Sure 127 x.rank
