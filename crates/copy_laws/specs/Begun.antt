-- How the nonemitting pass begins: the active states with epsilon arcs are on the queue, and nothing else has changed. Assumes nothing.
use Rattle.std.specs.Prelude.{◌≡◌, ℕ, suc, ◌+◌, ◌≤◌, true, length}
use mathlib.Core.List.{[]}
use Rattle.lists.specs.Lists.{◌∈◌}
use Rattle.model.specs.Graph.{Graph, Arc, arcs_of, has_eps}
use Rattle.model.specs.Path.{Token, Table}
use Rattle.model.specs.Arrive.{nonemitting, takes, Work}
use Rattle.model.specs.Came.{Queued}
use Rattle.model.proofs.Came.{More}
use Rattle.copy_laws.specs.Tables.{At}

-- of a table of the states from s on
pub record Begun (g : Graph) (s : ℕ) (ts : Table) (w v : Work) : Type 0 where
  pub same : Queued More w v
  pub queued : (i : ℕ) (t : Token) → At ts i t → has_eps g (i + s) ≡ true → i + s ∈ v.queue
  pub few : length v.queue ≤ length w.queue + length ts
  pub none_requeued : w.requeued ≡ [] → v.requeued ≡ []

-- one push
pub record Pushes (s : ℕ) (w v : Work) : Type 0 where
  pub same : Queued More w v
  pub on : s ∈ v.queue
  pub few : length v.queue ≤ suc (length w.queue)
  pub none_requeued : v.requeued ≡ []

-- the whole table
pub record Starts (g : Graph) (w v : Work) : Type 0 where
  pub same : Queued More w v
  pub queued : (s : ℕ) (t : Token) → At w.table s t → (a : Arc) → a ∈ arcs_of g s → takes nonemitting a ≡ true → s ∈ v.queue
  pub few : length v.queue ≤ length w.queue + length w.table
  pub none_requeued : w.requeued ≡ [] → v.requeued ≡ []
