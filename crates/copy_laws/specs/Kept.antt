-- Both passes, a start and a frame keep what holds of the active tokens. Assumes nothing.
use Rattle.std.specs.Prelude.{◌≡◌, ℕ, ◌≤◌, List, [], Float}
use Rattle.model.specs.Graph.{Graph}
use Rattle.model.specs.Path.{Table}
use Rattle.model.specs.Cutoff.{best}
use Rattle.model.specs.Arrive.{Pass, emitting, nonemitting, Here, Work}
use Rattle.model.specs.Passes.{offset_of}
use Rattle.copy_laws.specs.Walks.{Heard}
use Rattle.copy_laws.specs.Active.{Active}

-- the emitting pass pushes nothing
abbrev pub Idle : Pass → Work → Type 0
Idle (emitting ls off ad) w = (w.queue ≡ []) × (w.requeued ≡ [])
Idle nonemitting w = Unit {0}

-- ---- the passes

-- a frame as the copy hears it, with these tokens
abbrev pub hearing : (loglikes : List Float) → Table → Heard
hearing ls ts = record { loglikes = ls; offset = offset_of (best ts) }

pub record Since (g : Graph) (fs : List Heard) (first : ℕ) (w : Work) : Type 0 where
  pub active : Active g fs w.table w.seq w.fresh
  pub since : first ≤ w.fresh
  pub no_queue : w.queue ≡ []
  pub none_requeued : w.requeued ≡ []

-- between two pops, and when the pass is done
abbrev pub Between : Here → List Heard → Work → Type 0
Between h fs w = Active h.graph fs w.table w.seq w.fresh
