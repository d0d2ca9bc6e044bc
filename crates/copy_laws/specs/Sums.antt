-- Sums that stay small and are never −0: a token's cost and graph sum, and what a kept loser costs over the winner. Assumes nothing.
use Rattle.std.specs.Prelude.{◌≡◌, ◌*◌, ◌^◌, true, not, List, T, Float}
use Rattle.std.specs.Float.Ieee.{fits}
use Rattle.std.specs.Float.{binary32}
use Rattle.lists.specs.Lists.{◌∈◌}
use Rattle.real32.specs.Exact.{is_neg_zero}
use Rattle.real32.specs.Small.{at_most, small, tame}
use Rattle.model.specs.Basics.{◌≼◌, 0f}
use Rattle.model.specs.Graph.{Graph}
use Rattle.model.specs.Path.{Token, Merge}

-- ---- the weights are f32 values, as those of a lent slice are

abbrev pub All32 : List Float → Type 0
All32 xs = (x : Float) → x ∈ xs → T (fits binary32 x)

pub record Floats32 (g : Graph) : Type 0 where
  pub weights : All32 g.weights
  pub finals : All32 g.finals

-- ---- an f32 that is no −0

abbrev pub Signed : Float → Type 0
Signed x = T (fits binary32 x) × T (not (is_neg_zero x))

-- ---- a token's two sums

-- A graph sum is below 2 ^ 100 where the token is active; an arrival that lost has one more weight in it.
pub record Sums (t : Token) : Type 0 where
  pub cost : Signed t.cost
  pub cost_tame : tame t.cost ≡ true
  pub graph : Signed t.graph
  pub graph_small : T (small 101 t.graph)

pub record Difference (m : Merge) : Type 0 where
  pub cost : Signed m.cost
  pub cost_up : T (0f ≼ m.cost)
  pub cost_small : T (small 101 m.cost)
  pub graph : Signed m.graph
  pub graph_small : T (at_most (3 * 2 ^ 100) m.graph)
