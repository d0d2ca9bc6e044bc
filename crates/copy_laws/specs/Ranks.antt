-- The ranked tokens: each is an active one, in a final state where finals count, of a rank that is finite and no −0; and where finals do not count every active one is ranked, by its cost. Assumes nothing.
use Rattle.std.specs.Prelude.{◌≡◌, ℕ, ◌+◌, Bool, cond, T, Float}
use Rattle.std.proofs.Math.Bool.{true}
use Rattle.std.specs.Float.Ieee.Scale.{finite}
use Rattle.real32.specs.Small.{small}
use Rattle.model.specs.Basics.{◌⊖◌, 0f, 1f}
use Rattle.model.specs.Graph.{Graph, final_weight}
use Rattle.model.specs.Path.{Table}
use Rattle.model.specs.Reads.{graph_scale, Ranked, rank_one}
use Rattle.copy_laws.specs.Tables.{At}
use Rattle.copy_laws.specs.Sums.{Signed}

-- ---- where a ranked token stands

-- what is added where finals count, 0 where they do not
abbrev pub end_weight : Graph → (finals : Bool) → (s : ℕ) → Float
end_weight g finals s = cond finals (final_weight g s) 0f

pub record RankedAt (g : Graph) (finals : Bool) (ts : Table) (r : Ranked) : Type 0 where
  pub state : ℕ
  pub at : At ts state r.token
  pub is : r ≡ rank_one finals (end_weight g finals state) r.token
  pub counts : finite r.cost ≡ true

-- of a table of the states from s on
pub record RankedFrom (g : Graph) (finals : Bool) (s : ℕ) (ts : Table) (r : Ranked) : Type 0 where
  pub place : ℕ
  pub at : At ts place r.token
  pub is : r ≡ rank_one finals (end_weight g finals (place + s)) r.token
  pub counts : finite r.cost ≡ true

-- ---- ranks are finite, and no −0

-- what a rank takes off for each unit of the graph sum, about a tenth
abbrev pub share : Float
share = 1f ⊖ graph_scale

-- finite and at most 2 ^ k in size, and no −0
pub record Sure (k : ℕ) (x : Float) : Type 0 where
  pub size : T (small k x)
  pub signed : Signed x
