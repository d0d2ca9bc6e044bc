-- What is listed below a path costs from 0 to the margin, and its graph difference is at most one step for each kept path that it takes, as long as these are fewer than 2 ^ 24. So the cost of a listed reading is finite and no −0, and so is its rank under that condition. Assumes nothing.
use Rattle.std.specs.Prelude.{ℕ, ◌*◌, ◌^◌, ◌<◌, Float}
use Rattle.std.proofs.Math.ListN.{length}
use Rattle.std.proofs.Math.Dec.{T}
use Rattle.real32.specs.Small.{at_most}
use Rattle.model.specs.Basics.{◌≼◌, 0f}
use Rattle.model.specs.Readings.{Below}
use Rattle.copy_laws.specs.Sums.{Signed}

-- the number of kept paths that it takes, where the bound is not lost to rounding
abbrev pub Few : ℕ → Type 0
Few n = n < 2 ^ 24

pub record Bounded (margin : Float) (b : Below) : Type 0 where
  pub cost : Signed b.cost
  pub cost_up : T (0f ≼ b.cost)
  pub cost_under : T (b.cost ≼ margin)
  pub graph : Signed b.graph
  pub graph_small : Few (length b.route) → T (at_most (length b.route * 2 ^ 102) b.graph)
