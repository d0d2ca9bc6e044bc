-- The nonemitting pass where nothing is cut: its queue run empty, every epsilon arc of an active state leads to an active state that costs at most the arc's total. Assumes nothing.
use Rattle.std.specs.Prelude.{◌≡◌, ◌⊎◌, ℕ, true}
use mathlib.Core.List.{List}
use Rattle.lists.specs.Lists.{◌∈◌}
use Rattle.model.specs.Basics.{◌⊕◌}
use Rattle.model.specs.Graph.{Graph, Arc, arcs_of}
use Rattle.model.specs.Path.{Token, Table}
use Rattle.model.specs.Arrive.{nonemitting, takes, Work}
use Rattle.copy_laws.specs.Walks.{Heard}
use Rattle.copy_laws.specs.Tables.{At}
use Rattle.copy_laws.specs.Active.{Active}
use Rattle.copy_laws.specs.Within.{Within, Lowers}

-- ---- the queue

-- A state that is active is on the queue, or its token costs what its token did before.
abbrev pub Old : (w v : Work) → Type 0
Old w v = (s : ℕ) (t : Token) → At v.table s t → (s ∈ v.queue) ⊎ ((u : Token) × At w.table s u × (u.cost ≡ t.cost))

-- every epsilon arc of an active state leads to one that costs at most its total
abbrev pub Closed : Graph → Table → Type 0
Closed g ts = (s : ℕ) (t : Token) → At ts s t → (a : Arc) → a ∈ arcs_of g s → takes nonemitting a ≡ true → Within ts a.target (t.cost ⊕ a.weight)

pub record Whole (g : Graph) (fs : List Heard) (ts : Table) (v : Work) : Type 0 where
  pub active : Active g fs v.table v.seq v.fresh
  pub lowered : Lowers ts v.table
  pub closed : Closed g v.table
