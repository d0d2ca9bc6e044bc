-- In a start every sum that is tested is tame: it goes over epsilon arcs alone, whose weights are not below 0, so that a total that passes the beam lies from 0 to the beam; and a graph sum is the total. So a start is refused by 13 or 14 alone. Assumes nothing.
use Rattle.std.specs.Prelude.{◌≡◌, T}
use Rattle.model.specs.Basics.{◌≼◌, 0f}
use Rattle.model.specs.Path.{Token}

-- ---- a token of a start

-- its cost is not below 0, and its graph sum is its cost
pub record Early (t : Token) : Type 0 where
  pub up : T (0f ≼ t.cost)
  pub same : t.graph ≡ t.cost
