-- What is claimed, in document 01's words. Nothing is proved here.
use Rattle.std.specs.Prelude.{◌≡◌, ℕ, Bool, true, false, cond, List, [], ◌∷◌, map, length, T, eqb, ℤ, Float}
use Rattle.std.proofs.Math.Option.{Option, none, some}
use Rattle.lists.specs.Lists.{◌∈◌}
use Rattle.lists.specs.Count.{Nodup}
use Rattle.real32.specs.Small.{tame}
use Rattle.model.specs.Basics.{◌≼◌, ◌⊕◌, ok, Refusal}
use Rattle.model.specs.Graph.{Graph, Arc, no_state, is_final, final_weight}
use Rattle.model.specs.Path.{Token, Limits}
use Rattle.model.specs.Cutoff.{Config}
use Rattle.model.specs.Arrive.{Work}
use Rattle.model.specs.Passes.{emitting_pass, nonemitting_pass, State, during, start_work}
use Rattle.model.specs.Reads.{Ranked, use_finals, ranked as ranked_tokens, Traced, Group}
use Rattle.model.specs.Readings.{Below, below, readings as listing}
use Rattle.model.specs.Calls.{Sizes, Read, best_path_read, alternatives_read, readings_read, relative_cost_read, num_active_read, frames_decoded_read, Call, start_call, frame_call, keep_call, read_call, Reading, Answer, refusal_answer, done_answer, path_answer, paths_answer, readings_answer, count_answer, cost_answer}
use Rattle.copy_laws.specs.Walks.{emitted, Walk, words_along, sum_of}
use Rattle.copy_laws.specs.Routes.{along, arcs}
use Rattle.copy_laws.specs.Tables.{At}
use Rattle.copy_laws.specs.Sums.{Signed}
use Rattle.copy_laws.specs.Shapes.{Forks, Differences}
use Rattle.copy_laws.specs.Ends.{Runs}
use Rattle.copy_laws.specs.Ranks.{Sure}
use Rattle.copy_laws.specs.Bounds.{Bounded}
use Rattle.copy_laws.specs.Costs.{SureReading}
use Rattle.copy_laws.specs.Relative.{SureOrInfinite}
use Rattle.copy_laws.specs.Stamps.{word_frames_on}
use Rattle.copy_laws.specs.Segments.{Tiles, spelled, phones_on}
use Rattle.copy_laws.specs.Points.{Point, fitted_point, reached}
use Rattle.copy_laws.specs.Cuts.{HasCut}

-- ---- of an answer

-- "the nonzero output labels of one path from the start state with as many emitting arcs as frames decoded, ending in a final state where finals count"
pub record OnePath (g : Graph) (pt : Point) (finals : Bool) (ws : List ℤ) : Type 0 where
  pub route : List Arc
  pub end : ℕ
  pub walk : Walk g pt.heard route end
  pub frames : emitted route ≡ pt.state.frames
  pub final : finals ≡ true → is_final g end ≡ true
  pub words : ws ≡ words_along route

-- a traced path: each word has the frame of its arc
pub record OneTrace (g : Graph) (pt : Point) (finals : Bool) (tr : Traced) : Type 0 where
  pub path : OnePath g pt finals tr.words
  pub stamps : tr.word_frames ≡ word_frames_on path.route

-- a token's own path, as the best path and every alternative is
pub record Own (g : Graph) (pt : Point) (finals : Bool) (tr : Traced) : Type 0 where
  pub trace : OneTrace g pt finals tr
  -- "phone segments are nonempty, abut, and run from 0 to the frame count (none at 0)"
  pub tiles : Tiles 0 pt.state.frames tr.phones
  pub none_at_0 : pt.state.frames ≡ 0 → tr.phones ≡ []
  -- and frame by frame they are the phones of the path's emitting arcs
  pub spells : spelled tr.phones ≡ phones_on g trace.path.route
  -- "cost is its sum in the same order with the same offsets and rounding" where finals do not count; where they do, with the final weight
  pub sum : tr.cost ≡ cond finals (sum_of g pt.heard trace.path.route ⊕ final_weight g trace.path.end) (sum_of g pt.heard trace.path.route)

-- "Where finals do not count, the latest start was accepted and no cutoff has dropped anything in it or since": Uncut is that no cutoff has.
pub record Best (g : Graph) (pt : Point) (Uncut : Type 0) (finals : Bool) (tr : Traced) : Type 0 where
  pub own : Own g pt finals tr
  -- "every other path of that many frames costs at least as much"
  pub least : finals ≡ false → pt.started ≡ true → Uncut → (route : List Arc) (s : ℕ) → Walk g pt.heard route s → T (tr.cost ≼ sum_of g pt.heard route)

-- "where there is then no best path, there is no path of that many frames"
abbrev pub BestOrNone : Graph → Point → (Uncut : Type 0) → (finals : Bool) → Option Traced → Type 0
BestOrNone g pt Uncut finals (some tr) = Best g pt Uncut finals tr
BestOrNone g pt Uncut finals none = finals ≡ false → pt.started ≡ true → Uncut → (route : List Arc) (s : ℕ) → Walk g pt.heard route s → ⊥

pub record Alternatives (g : Graph) (pt : Point) (finals : Bool) (ts : List Traced) : Type 0 where
  pub each : (tr : Traced) → tr ∈ ts → Own g pt finals tr
  pub distinct : Nodup (map (λ (tr : Traced). tr.words) ts)

-- a reading list, and the paths that are traced of it: "No two listed readings have the same words"
pub record Readings (g : Graph) (pt : Point) (finals : Bool) (rs : List Reading) (ts : List Traced) : Type 0 where
  pub each : (r : Reading) → r ∈ rs → OnePath g pt finals r.words
  pub distinct : Nodup (map (λ (r : Reading). r.words) rs)
  pub traced : (tr : Traced) → tr ∈ ts → OneTrace g pt finals tr
  pub traced_distinct : Nodup (map (λ (tr : Traced). tr.words) ts)

-- no cutoff has dropped anything in the latest start or since: no call among these has left a token or a total out for one
abbrev pub NothingCut : Graph → Config → List (Call × ℕ) → Type 0
NothingCut g c ks = HasCut g c (fitted_point g) ks → ⊥

-- What the answer to a call says that comes after these calls: a refusal, or what the call gives back.
pub data Says (g : Graph) (c : Config) (ks : List (Call × ℕ)) : Call → Answer → Type 0 where
  says_refused : {k : Call} (r : Refusal) → Says g c ks k (refusal_answer r)
  says_started : Says g c ks start_call done_answer
  says_heard : {ls : List Float} → Says g c ks (frame_call ls) done_answer
  says_kept : {m : Option Float} → Says g c ks (keep_call m) done_answer
  says_best : {f : Bool} {z : Sizes} {o : Option Traced} → BestOrNone g (reached g c ks) (NothingCut g c ks) (use_finals g (reached g c ks).state f) o → Says g c ks (read_call (best_path_read f z)) (path_answer o)
  says_alternatives : {f : Bool} {max : ℕ} {z : Sizes} {ts : List Traced} → Alternatives g (reached g c ks) (use_finals g (reached g c ks).state f) ts → Says g c ks (read_call (alternatives_read f max z)) (paths_answer ts)
  says_readings : {f : Bool} {n max : ℕ} {z : Sizes} {rs : List Reading} {ts : List Traced} → Readings g (reached g c ks) (use_finals g (reached g c ks).state f) rs ts → Says g c ks (read_call (readings_read f n max z)) (readings_answer rs ts)
  -- +∞, or finite and no −0
  says_cost : {x : Float} → SureOrInfinite 102 x → Says g c ks (read_call relative_cost_read) (cost_answer x)
  says_active : (n : ℕ) → Says g c ks (read_call num_active_read) (count_answer n)
  -- "Frames decoded, the frame count, are those accepted since the latest start."
  says_decoded : {n : ℕ} → n ≡ length (reached g c ks).heard → Says g c ks (read_call frames_decoded_read) (count_answer n)

-- ---- of a refusal

-- document 01's numbers that a read can be refused by: output too short, more than 64 asked for, and 15 of the reading list
abbrev pub read_refusals : Read → List ℕ
read_refusals (best_path_read f z) = 11 ∷ []
read_refusals (alternatives_read f max z) = 6 ∷ 11 ∷ []
read_refusals (readings_read f n max z) = 6 ∷ 15 ∷ 11 ∷ []
read_refusals relative_cost_read = []
read_refusals num_active_read = []
read_refusals frames_decoded_read = []

-- and a call
abbrev pub refusals_of : Call → List ℕ
refusals_of start_call = 12 ∷ 13 ∷ 14 ∷ []
refusals_of (frame_call ls) = 10 ∷ 8 ∷ 9 ∷ 12 ∷ 13 ∷ 14 ∷ []
refusals_of (keep_call m) = 6 ∷ []
refusals_of (read_call r) = read_refusals r

-- ---- of the copy itself

-- "Branches apart, a path is a list of arcs, the first from the start state, each next from where the last ended": so is a token's path, along every route, and at every branch the kept path ends where the winner's does.
pub record Run (g : Graph) (pt : Point) (s : ℕ) (t : Token) : Type 0 where
  pub own : Walk g pt.heard (arcs t.path) s
  pub routes : (route : List ℕ) → Walk g pt.heard (along route t.path) s
  pub frames : (route : List ℕ) → emitted (along route t.path) ≡ pt.state.frames
  pub forks : Forks g pt.heard t.path

-- the queue of the next start or frame is the Rust's loop: the fuel is no limit
pub record QueueLoops (g : Graph) (c : Config) (l : Limits) (st : State) : Type 0 where
  pub start : eqb g.start no_state ≡ false → Runs (during g l st 0 []) (start_work g c) (nonemitting_pass (during g l st 0 []) (start_work g c))
  pub frame : (ls : List Float) (w : Work) → emitting_pass (during g l st st.frames st.table) c ls st.table st.seq st.fresh ≡ ok w → Runs (during g l st st.frames st.table) w (nonemitting_pass (during g l st st.frames st.table) w)

-- no cost, graph sum, difference or rank is a NaN, an infinity or −0; the graph sum and the rank of what takes kept paths, as long as these are fewer than 2 ^ 24
pub record SumsSure (g : Graph) (st : State) : Type 0 where
  -- an active token's
  pub cost : (s : ℕ) (t : Token) → At st.table s t → (tame t.cost ≡ true) × Signed t.cost
  pub graph : (s : ℕ) (t : Token) → At st.table s t → (tame t.graph ≡ true) × Signed t.graph
  -- what a kept loser costs over the winner, at every branch of every token's path
  pub kept : (s : ℕ) (t : Token) → At st.table s t → Differences t.path
  -- the sums of these below a path: in cost from 0 to the margin, in graph one step of 2 ^ 102 for each kept path taken
  pub belows : (margin : Float) → st.margin ≡ some margin → (s : ℕ) (t : Token) → At st.table s t → (cap : ℕ) (b : Below) → b ∈ below margin cap t.path → Bounded margin b
  -- a ranked token's
  pub ranked : (f : Bool) (r : Ranked) → r ∈ ranked_tokens g st f → Sure 102 r.rank × Sure 101 r.cost
  -- a listed reading's; the rank of a kept one, as long as it takes fewer than 2 ^ 24 kept paths
  pub listed : (f : Bool) (n : ℕ) (x : Group) → x ∈ (listing g st f n).groups → SureReading x
