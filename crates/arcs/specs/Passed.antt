-- Where a pass stands between two arcs, and what it gives back.
use Rattle.std.specs.Prelude.{◌≡◌, ℕ, ◌+◌, ◌≤◌, ◌<◌, List, ltb, length, get_or, set, Float, Result, Ok, Err}
use Rattle.model.specs.Basics.{over, Outcome, ok, refused}
use Rattle.model.specs.Graph.{states, has_eps}
use Rattle.model.specs.Checked.{GoodGraph}
use Rattle.model.specs.Path.{Path, Table}
use Rattle.model.specs.Arrive.{Here, Work as ModelWork}
use Rattle.stores.specs.Rep.{Lent, Old}
use Rattle.arrivals.specs.declared.Setting.{Setting}
use Rattle.arrivals.specs.declared.Going.{Going}
use Rattle.arrivals.specs.Stood.{PassIs, Stood}
use Rattle.arcs.specs.declared.Pass.{Pass}
use Rattle.arcs.specs.declared.Work.{Work}
use Rattle.arcs.specs.Part.{lower_by}
use Rattle.arcs.specs.Queue.{Queued}
use Rattle.refusals.specs.declared.Reason.{Reason}
use Rattle.refusals.specs.declared.Reason.TheVariants.{QueueFull}
use Rattle.refusals.specs.Numbers.{number_of}

-- what stands still during a pass: the setting, the table of the states that have epsilon arcs, and the places of the queue
pub record Ground (g : Setting) (H : Here) (done : Table) (eps : List ℕ) (places : ℕ) : Type 0 where
  pub pass : PassIs g H done
  pub good : GoodGraph H.graph
  pub states : g.states ≡ states H.graph
  pub eps_long : g.states ≤ length eps
  pub eps_is : (s : ℕ) → s < g.states → ltb 0 (get_or eps s 0) ≡ has_eps H.graph s
  pub queue : (k : ℕ) → over k H.limits.queue ≡ ltb places k

abbrev pub going_of : Work → Going
going_of x = record { used = x.used; seq = x.seq; link = x.link }

-- what moves: the stores and the queue stand for the model's work, with a path in hand
pub record At (g : Setting) (m : Lent) (qs : List ℕ) (x : Work) (done : Table) (p : Path) (w : ModelWork) : Type 0 where
  pub stood : Stood g m (going_of x) done p w
  pub cutoff : w.cutoff ≡ x.cutoff
  pub fits : x.queued ≤ length qs
  pub queue : Queued g.states qs x.queued w.queue

-- what comes of a step that the definition gives an outcome for
pub data PassedBy (g : Setting) (m : Lent) (qs : List ℕ) (done : Table) (p : Path) : Outcome ModelWork → Result Work Reason → Type 0 where
  passed_refused : (e : Reason) → Old g.side g.states g.cap m done → PassedBy g m qs done p (refused (number_of e)) (Err e)
  passed_on : {w : ModelWork} {x : Work} → At g m qs x done p w → PassedBy g m qs done p (ok w) (Ok x)

-- ---- the numbers that move

abbrev pub moved_by : Pass → Work → (total : Float) → Going → Work
moved_by pass x tot y = record { used = y.used; seq = y.seq; link = y.link; cutoff = lower_by pass tot x.cutoff; queued = x.queued }

abbrev pub queued_on : Work → Work
queued_on x = record { used = x.used; seq = x.seq; link = x.link; cutoff = x.cutoff; queued = x.queued + 1 }

-- what a push leaves
pub data PushIs (qs qs' : List ℕ) (x : Work) (s : ℕ) : Result Work Reason → Type 0 where
  push_full : length qs ≤ x.queued → qs' ≡ qs → PushIs qs qs' x s (Err QueueFull)
  push_on : x.queued < length qs → qs' ≡ set qs x.queued s → PushIs qs qs' x s (Ok (queued_on x))
