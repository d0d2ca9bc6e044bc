-- Every reading that is listed is along a route of an active token's path, to a final state where finals count; and no two have the same words. Assumes nothing.
use Rattle.std.specs.Prelude.{◌≡◌, ℕ, Bool, true, Float}
use mathlib.Core.List.Memᴰ
use mathlib.Core.List.{List, tail}
use Rattle.lists.specs.Lists.{◌∈◌}
use Rattle.model.specs.Graph.{Graph, is_final}
use Rattle.model.specs.Path.{Table}
use Rattle.model.specs.Reads.{Ranked, Group}
use Rattle.model.specs.Readings.{Below, below, Kept, kept_of}
use Rattle.copy_laws.specs.Walks.{words_along}
use Rattle.copy_laws.specs.Routes.{along}
use Rattle.copy_laws.specs.Tables.{At}

pub record Listed (g : Graph) (finals : Bool) (ts : Table) (x : Group) : Type 0 where
  pub state : ℕ
  pub at : At ts state x.token
  pub final : finals ≡ true → is_final g state ≡ true
  pub words : x.words ≡ words_along (along x.route x.token.path)

-- ---- the kept ones

-- a kept reading: the ranked token that it rides on, and what it takes below
pub record KeptBy (finals : Bool) (margin : Float) (cap : ℕ) (rs : List Ranked) (k : Kept) : Type 0 where
  pub head : Ranked
  pub among : head ∈ rs
  pub way : Below
  -- not the first, which is the token's own
  pub behind : way ∈ tail (below margin cap head.token.path)
  pub below : way ∈ below margin cap head.token.path
  pub is : k ≡ kept_of finals head way
