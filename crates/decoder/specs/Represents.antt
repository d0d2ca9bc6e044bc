-- What the decoder's value and the lent stores stand for between calls.
use Rattle.std.specs.Prelude.{◌≡◌, refl, ℕ, ◌-◌, ◌≤◌, ◌<◌, false, cond, List, ltb, length, get_or, Option, Some, None, Float}
use Rattle.std.proofs.Math.Option.{none, some}
use Rattle.model.specs.Basics.{0f, Place, nowhere, at_arc, at_state, at_frames, Refusal as ModelRefusal}
use Rattle.model.specs.Graph.{Graph, states, has_eps}
use Rattle.model.specs.Checked.{GoodGraph}
use Rattle.model.specs.Path.{Path, Limits, full_at}
use Rattle.model.specs.Cutoff.{Config as Settings}
use Rattle.model.specs.Passes.{State}
use Rattle.model.specs.Calls.{done_answer, refusal_answer, Said}
use Rattle.copy_laws.specs.Walks.{Heard}
use Rattle.copy_laws.specs.Sums.{Floats32}
use Rattle.copy_laws.specs.States.{Standing}
use Rattle.cutoff.specs.Costs.{config_of}
use Rattle.joins.specs.Model.{margin_of}
use Rattle.records.specs.History.{History, tag}
use Rattle.records.specs.Stands.{Stands}
use Rattle.stores.specs.Shown.{Shown}
use Rattle.stores.specs.Rep.{Lent, store_of, Places}
use Rattle.refusals.specs.declared.Place.{Place as StoredPlace}
use Rattle.refusals.specs.declared.Place.TheVariants.{Nowhere, AtArc, AtState, AtFrames}
use Rattle.refusals.specs.declared.Refusal.{Refusal}
use Rattle.arrivals.specs.declared.Setting.{Setting}
use Rattle.arcs.specs.declared.Pass.TheVariants.{Nonemitting}
use Rattle.arcs.specs.State.{Tables, TablesOf}
use Rattle.decoder.specs.declared.Decoder.{Decoder}
use Rattle.decoder.specs.declared.Called.{Called}
use Rattle.decoder.specs.declared.Called.TheVariants.{Done, Refused}

-- the keep margin, which the decoder holds as a flag and a number
abbrev pub margin_in : Decoder → Option Float
margin_in d = cond d.keeps (Some d.margin) None

abbrev pub setting_of : Decoder → Setting
setting_of d = record { side = d.side; states = d.graph.states; cap = d.cap; frame = d.frames; margin = margin_in d }

-- the exact limits: the places for records, and those of the queue
pub record LimitsAre (l : Limits) (cap places : ℕ) : Type 0 where
  pub full : (ps : List Path) → l.full ps ≡ full_at cap ps
  pub queue : l.queue ≡ some places

-- the limits of these places, and of a decoder's own stores
abbrev pub limits_by : (cap places : ℕ) → Limits
limits_by cap places = record { full = full_at cap; queue = some places; below = none; kept = none }

pub limits_by_lem : (cap places : ℕ) → LimitsAre (limits_by cap places) cap places
limits_by_lem cap places = record { full = λ ps. refl; queue = refl }

abbrev pub exact : Decoder → (places : ℕ) → Limits
exact d places = limits_by d.cap places

-- what no call changes: the graph is accepted and its tables are those lent, and the stores have the places that a fitting asks for
pub record Fixed (g : Graph) (c : Settings) (l : Limits) (T : Tables) (m : Lent) (eps : List ℕ) (places : ℕ) (d : Decoder) : Type 0 where
  pub good : GoodGraph g
  pub floats : Floats32 g
  pub of : TablesOf g Nonemitting T
  pub states_are : d.graph.states ≡ states g
  pub arcs_are : d.graph.arcs ≡ length g.ilabels
  pub start_is : d.graph.start ≡ g.start
  pub pdfs_are : d.graph.pdfs ≡ g.pdfs
  pub config_is : config_of d.config ≡ c
  pub limits : LimitsAre l d.cap places
  pub small : d.cap ≤ 1048576
  pub side : d.side ≤ 1
  pub stores : Places d.graph.states d.cap m
  pub eps_long : d.graph.states ≤ length eps
  pub eps_is : (s : ℕ) → s < d.graph.states → ltb 0 (get_or eps s 0) ≡ has_eps g s

-- without a margin its value is 0
abbrev pub Idle : Decoder → Type 0
Idle d = d.keeps ≡ false → d.margin ≡ 0f

-- the copy's state, after these frames since the latest start; of the decoder's value only `side` and `used` are left to the program
pub record Represents (g : Graph) (c : Settings) (l : Limits) (T : Tables) (m : Lent) (eps : List ℕ) (places : ℕ) (d : Decoder) (fs : List Heard) (st : State) : Type 0 where
  pub fixed : Fixed g c l T m eps places d
  pub standing : Standing g fs st
  pub margin_is : st.margin ≡ margin_of (margin_in d)
  pub idle : Idle d
  pub frames_are : st.frames ≡ d.frames
  pub seq_is : st.seq ≡ d.seq
  pub fits : d.used ≤ d.cap
  pub h : ℕ → History
  pub stands : Stands (store_of m) d.used h
  pub finished : Shown h d.used m.tokens m.sums (1 - d.side) d.graph.states st.table
  pub newest : tag (h d.used) ≤ st.fresh

-- the stores and the decoder's value are what a call has left
pub record Left (T : Tables) (m : Lent) (eps : List ℕ) (places : ℕ) (d : Decoder) : Type 0 where
  pub g : Graph
  pub c : Settings
  pub l : Limits
  pub fs : List Heard
  pub st : State
  pub is : Represents g c l T m eps places d fs st

-- ---- answers

abbrev pub place_of : StoredPlace → Place
place_of Nowhere = nowhere
place_of (AtArc s i) = at_arc s i
place_of (AtState s) = at_state s
place_of (AtFrames n) = at_frames n

abbrev pub refusal_of : Refusal → ModelRefusal
refusal_of r = record { number = r.number; place = place_of r.place }

-- the answer and the next state are the definition's
pub data CalledBy (g : Graph) (c : Settings) (l : Limits) (T : Tables) (m : Lent) (eps : List ℕ) (places : ℕ) (s : Said) : Called → Type 0 where
  called_done : {d : Decoder} (fs : List Heard) → s.answer ≡ done_answer → Represents g c l T m eps places d fs s.state → CalledBy g c l T m eps places s (Done d)
  called_refused : {d : Decoder} {f : Refusal} (fs : List Heard) → s.answer ≡ refusal_answer (refusal_of f) → Represents g c l T m eps places d fs s.state → CalledBy g c l T m eps places s (Refused d f)
