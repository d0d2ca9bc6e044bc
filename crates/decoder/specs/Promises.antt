-- What the decoder's calls ask and promise. Nothing is proved here. `Represents` says what decoder and stores stand for; `call` of the definition, what every call answers.
use Rattle.std.specs.Prelude.{◌≡◌, ◌⊎◌, ℕ, ◌*◌, ◌/◌, ◌≤◌, ◌<◌, Bool, cond, List, [], ◌∷◌, ◌++◌, ℤ, length, drop, Float, Option, Result, Ok, Err}
use Rattle.std.proofs.Math.Option.{none, some}
use Rattle.model.specs.Basics.{0f, Refusal as ModelRefusal}
use Rattle.model.specs.Graph.{Graph, states, check_graph}
use Rattle.model.specs.Path.{Limits}
use Rattle.model.specs.Cutoff.{Config as Settings}
use Rattle.model.specs.Passes.{State, fitted, fair_margin, check_fit}
use Rattle.model.specs.Calls.{Call, start_call, frame_call, read_call, best_path_read, alternatives_read, readings_read, relative_cost_read, num_active_read, count_answer, cost_answer, call}
use Rattle.copy_laws.specs.Walks.{Heard}
use Rattle.cutoff.specs.declared.Config.{Config}
use Rattle.cutoff.specs.Costs.{config_of}
use Rattle.stores.specs.Lent.{LeftToProgram, Used}
use Rattle.stores.specs.Rep.{Lent, Lens, lent}
use Rattle.refusals.specs.declared.Refusal.{Refusal}
use Rattle.refusals.specs.declared.Place.TheVariants.{Nowhere, AtFrames}
use Rattle.fst.specs.Answer.{refusal_of}
use Rattle.fst.specs.Epsilons.{eps_bits}
use Rattle.arcs.specs.State.{Tables}
use Rattle.checks.specs.declared.Lengths.{Lengths}
use Rattle.checks.specs.Fit.{Wide, record_places, for_records, kept_places_of, for_kept, places_of}
use Rattle.checks.specs.Frame.{frame_number}
use Rattle.checks.specs.Margin.{asked}
use Rattle.traceback.specs.declared.BestPath.{BestPath}
use Rattle.traceback.specs.Right.{Parts, places_of as places_for, best_as, BestKeeps}
use Rattle.readings.specs.Paths.{Outputs, places_in}
use Rattle.readings.specs.Right.{ListedIs, Scratch, ScratchLeft}
use Rattle.reading_list.specs.Outputs.{Outputs as Lists, places_in as output_places}
use Rattle.reading_list.specs.Right.{ReadingsAre}
use Rattle.reading_list.specs.Scratch.{Scratch as ListScratch, ScratchLeft as ListScratchLeft}
use Rattle.decoder.specs.declared.Decoder.{Decoder}
use Rattle.decoder.specs.declared.Called.{Called}
use Rattle.decoder.specs.declared.Called.TheVariants.{Done, Refused}
use Rattle.decoder.specs.Represents.{LimitsAre, Represents, Left, CalledBy}
use Rattle.refusals.specs.declared.Reason.{Reason}

-- ---- starts, frames and margins

-- what lies behind the places of these stores is unchanged
pub record Behind (n cap : ℕ) (m m' : Lent) : Type 0 where
  pub tokens : drop (n * 8) m'.tokens ≡ drop (n * 8) m.tokens
  pub sums : drop (n * 4) m'.sums ≡ drop (n * 4) m.sums
  pub records : drop (cap * 8) m'.records ≡ drop (cap * 8) m.records
  pub labels : drop (cap * 2) m'.labels ≡ drop (cap * 2) m.labels
  pub gaps : drop (cap * 2) m'.gaps ≡ drop (cap * 2) m.gaps

-- the stores stand for the state that the call leaves, so that their layout is left to the program; their lengths stay
pub record Worked (n cap : ℕ) (m m' : Lent) (qs qs' : List ℕ) : Type 0 where
  pub stores : Lens m m'
  pub behind : Behind n cap m m'
  pub queue : LeftToProgram qs qs'

-- for every state that decoder and stores stand for: the definition's answer, and they stand for its next state
abbrev pub Promised : (T : Tables) (m m' : Lent) (eps : List ℕ) (places : ℕ) → Call → Decoder → Called → Type 0
Promised T m m' eps places k d r =
    (g : Graph) (c : Settings) (l : Limits) (fs : List Heard) (st : State) → Represents g c l T m eps places d fs st → CalledBy g c l T m' eps places (call g c l k st) r

pub record StartIs (T : Tables) (m m' : Lent) (qs qs' eps : List ℕ) (d : Decoder) (r : Called) : Type 0 where
  pub answer : Promised T m m' eps (length qs) start_call d r
  pub lent : Worked d.graph.states d.cap m m' qs qs'

-- refused by 8 to 10, a frame touches nothing
pub record Untouched (n : ℕ) (m m' : Lent) (qs qs' : List ℕ) (sc sc' : List Float) (d : Decoder) (r : Called) : Type 0 where
  pub answer : r ≡ Refused d (record { number = n; place = AtFrames d.frames })
  pub stores : m' ≡ m
  pub queue : qs' ≡ qs
  pub scratch : sc' ≡ sc

pub record FrameIs (T : Tables) (m m' : Lent) (qs qs' : List ℕ) (sc sc' : List Float) (eps : List ℕ) (loglikes : List Float) (d : Decoder) (r : Called) : Type 0 where
  pub answer : Promised T m m' eps (length qs) (frame_call loglikes) d r
  pub lent : Worked d.graph.states d.cap m m' qs qs'
  pub scratch : LeftToProgram sc sc'
  pub untouched : let n = frame_number loglikes d.frames d.graph.pdfs in (n ≡ 0 → ⊥) → Untouched n m m' qs qs' sc sc' d r

-- the value with another margin; without one it is 0
abbrev pub with_margin : Decoder → Bool → Float → Decoder
with_margin d keeps x = record { graph = d.graph; config = d.config; cap = d.cap; keeps = keeps; margin = cond keeps x 0f; side = d.side; frames = d.frames; seq = d.seq; used = d.used }

abbrev pub unfit : Refusal
unfit = record { number = 6; place = Nowhere }

-- of any value: 6 leaves it as it was
abbrev pub keep_of : Decoder → (keeps : Bool) → Float → Called
keep_of d keeps x = cond (fair_margin (asked keeps x)) (Done (with_margin d keeps x)) (Refused d unfit)

-- ---- the fitter

-- A graph or settings that are refused, and nothing has changed; or the answer of the fitting's own start, with the places of the record store and the queue as limits.
pub data FitIs (g : Graph) (T : Tables) (m m' : Lent) (l : Lengths) (qs qs' eps eps' : List ℕ) (c : Config) : Result Called Refusal → Type 0 where
  fit_graph : (w : ModelRefusal) → check_graph g ≡ some w → m' ≡ m → qs' ≡ qs → eps' ≡ eps → FitIs g T m m' l qs qs' eps eps' c (Err (refusal_of w))
  fit_unfit : check_graph g ≡ none → check_fit g (config_of c) (places_of (states g) l) ≡ some 6 → m' ≡ m → qs' ≡ qs → eps' ≡ eps → FitIs g T m m' l qs qs' eps eps' c (Err unfit)
  fit_called : {r : Called} → check_graph g ≡ none → check_fit g (config_of c) (places_of (states g) l) ≡ none
      → ((lim : Limits) → LimitsAre lim (record_places l) (length qs) → CalledBy g (config_of c) lim T m' eps' (length qs) (call g (config_of c) lim start_call (fitted g)) r)
      → Worked (states g) (record_places l) m m' qs qs' → eps' ≡ eps_bits g (states g) ++ drop (states g) eps → FitIs g T m m' l qs qs' eps eps' c (Ok r)

-- ---- what a call asks: decoder and stores as the last call left them, and slices as long as at the fitting

-- a frame has a scratch too, with a place for every state
pub record FrameLeft (T : Tables) (m : Lent) (eps : List ℕ) (places scratch : ℕ) (d : Decoder) : Type 0 where
  pub left : Left T m eps places d
  pub wide : d.graph.states ≤ scratch

-- what a read is not lent is given beside
pub record LeftOf (tk : List ℕ) (sm : List Float) (rs : List ℕ) (ls : List ℤ) (d : Decoder) : Type 0 where
  pub gaps : List Float
  pub T : Tables
  pub eps : List ℕ
  pub places : ℕ
  pub g : Graph
  pub c : Settings
  pub l : Limits
  pub fs : List Heard
  pub st : State
  pub is : Represents g c l T (lent tk sm rs ls gaps) eps places d fs st

pub record ActiveLeft (tk : List ℕ) (d : Decoder) : Type 0 where
  pub sums : List Float
  pub records : List ℕ
  pub labels : List ℤ
  pub left : LeftOf tk sums records labels d

-- a read with final weights
pub record FinalsLeft (tk : List ℕ) (sm : List Float) (rs : List ℕ) (ls : List ℤ) (finals : List Float) (d : Decoder) : Type 0 where
  pub left : LeftOf tk sm rs ls d
  pub finals_are : left.g.finals ≡ finals

pub record RelativeLeft (tk : List ℕ) (sm finals : List Float) (d : Decoder) : Type 0 where
  pub records : List ℕ
  pub labels : List ℤ
  pub left : FinalsLeft tk sm records labels finals d

-- a read that works in slices of these lengths, and of these places per record
pub record AlternativesLeft (tk : List ℕ) (sm : List Float) (rs : List ℕ) (ls : List ℤ) (finals : List Float) (scratch for_records : List ℕ) (d : Decoder) : Type 0 where
  pub left : FinalsLeft tk sm rs ls finals d
  pub wide : Wide d.graph.states scratch
  pub wide_records : Wide d.cap for_records

-- as for a read with final weights, but that the gaps are lent too
pub record GapsLeft (tk : List ℕ) (sm : List Float) (rs : List ℕ) (ls : List ℤ) (gs finals : List Float) (d : Decoder) : Type 0 where
  pub T : Tables
  pub eps : List ℕ
  pub places : ℕ
  pub left : Left T (lent tk sm rs ls gs) eps places d
  pub finals_are : left.g.finals ≡ finals

-- and it works in slices of these places per kept reading
pub record ReadingsLeft (tk : List ℕ) (sm : List Float) (rs : List ℕ) (ls : List ℤ) (gs finals : List Float) (scratch for_records : List ℕ) (kept : ℕ) (for_kept : List ℕ) (d : Decoder) : Type 0 where
  pub left : GapsLeft tk sm rs ls gs finals d
  pub wide : Wide d.graph.states scratch
  pub wide_records : Wide d.cap for_records
  pub wide_kept : Wide kept for_kept

-- all of this at once, with slices of these lengths
pub record Asked (T : Tables) (m : Lent) (finals : List Float) (eps : List ℕ) (places : ℕ) (l : Lengths) (d : Decoder) : Type 0 where
  pub start : Left T m eps places d
  pub frame : FrameLeft T m eps places l.scratch d
  pub active : ActiveLeft m.tokens d
  pub relative : RelativeLeft m.tokens m.sums finals d
  pub best : FinalsLeft m.tokens m.sums m.records m.labels finals d
  pub alternatives : AlternativesLeft m.tokens m.sums m.records m.labels finals (l.keys ∷ l.places ∷ l.own ∷ []) (l.history_keys / 2 ∷ l.history_skips / 2 ∷ []) d
  pub readings : ReadingsLeft m.tokens m.sums m.records m.labels m.gaps finals (l.keys ∷ l.places ∷ l.own ∷ l.heads ∷ l.list ∷ []) (for_records l) (kept_places_of l) (for_kept d.graph.states l) d

-- ---- the reads

abbrev pub ActiveIs : List ℕ → Decoder → ℕ → Type 0
ActiveIs tk d r =
    (sm : List Float) (rs : List ℕ) (ls : List ℤ) (L : LeftOf tk sm rs ls d) → (call L.g L.c L.l (read_call num_active_read) L.st).answer ≡ count_answer r

abbrev pub RelativeCostIs : (tk : List ℕ) (sm finals : List Float) → Decoder → Float → Type 0
RelativeCostIs tk sm finals d r = (rs : List ℕ) (ls : List ℤ) (F : FinalsLeft tk sm rs ls finals d) → let L = F.left in (call L.g L.c L.l (read_call relative_cost_read) L.st).answer ≡ cost_answer r

abbrev pub BestPathIs : (tk : List ℕ) (sm : List Float) (rs : List ℕ) (ls : List ℤ) (finals : List Float) → Decoder → (use_final : Bool) → (m m' : Parts) → Result (Option BestPath) Reason → Type 0
BestPathIs tk sm rs ls finals d use_final m m' r =
    (F : FinalsLeft tk sm rs ls finals d) → let L = F.left in (best_as r m' ≡ (call L.g L.c L.l (read_call (best_path_read use_final (places_for m))) L.st).answer) × BestKeeps r m m'

-- the answer and the lent output whole; what it works in is left to the program, and untouched where 6 refuses
pub record AlternativesIs (tk : List ℕ) (sm : List Float) (rs : List ℕ) (ls : List ℤ) (finals : List Float) (d : Decoder) (use_final : Bool) (max : ℕ) (w w' : Scratch) (o o' : Outputs) (r : Result ℕ Reason) : Type 0 where
  pub answer : (F : FinalsLeft tk sm rs ls finals d) → let L = F.left in ListedIs (call L.g L.c L.l (read_call (alternatives_read use_final max (places_in o))) L.st).answer o o' r
  pub work : Used ScratchLeft (64 < max) w w'

-- these limits, but for the places of the lists below joins and of the kept readings
abbrev pub holding : Limits → (entries kept : ℕ) → Limits
holding l entries kept = record { full = l.full; queue = l.queue; below = some entries; kept = some kept }

-- the same, with the places of the two stores of 15 as limits
pub record ReadingsIs (tk : List ℕ) (sm : List Float) (rs : List ℕ) (ls : List ℤ) (gs finals : List Float) (d : Decoder) (use_final : Bool) (listed max entries kept : ℕ) (w w' : ListScratch) (o o' : Lists) (r : Result ℕ Reason) : Type 0 where
  pub answer : (F : GapsLeft tk sm rs ls gs finals d) → let L = F.left in ReadingsAre (call L.g L.c (holding L.l entries kept) (read_call (readings_read use_final listed max (output_places o))) L.st).answer max o o' r
  pub work : Used ListScratchLeft ((64 < listed) ⊎ (64 < max)) w w'
