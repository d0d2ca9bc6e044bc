-- Demand 3, sentence by sentence: the statements alone. They are proved in `Held`, `Alike` and `Says`.
use Rattle.std.specs.Prelude.{◌≡◌, ◌⊎◌, ℕ, Bool, List, [], ◌∷◌, ℤ, length, Result, Ok, Err}
use Rattle.std.proofs.Math.Option.{Option, some}
use Rattle.lists.specs.Lists.{◌∈◌}
use Rattle.lists.specs.Count.{Nodup}
use Rattle.model.specs.Basics.{Refusal}
use Rattle.model.specs.Graph.{Graph}
use Rattle.model.specs.Path.{Limits}
use Rattle.model.specs.Cutoff.{Config as Settings}
use Rattle.model.specs.Reads.{Traced, use_finals}
use Rattle.model.specs.Calls.{Call, start_call, Reading, Answer, done_answer, refusal_answer, path_answer, paths_answer, readings_answer, answers}
use Rattle.copy_laws.specs.Points.{Point, reached}
use Rattle.copy_laws.specs.Told.{told_of, limited_answers}
use Rattle.copy_laws.specs.Claims.{refusals_of, OnePath, OneTrace, Own, NothingCut, BestOrNone}
use Rattle.copy_laws.specs.Sayings.{asks_finals, lists_in, words_in}
use Rattle.copy_laws.specs.Segments.{Tiles}
use Rattle.cutoff.specs.declared.Config.{Config}
use Rattle.cutoff.specs.Costs.{config_of}
use Rattle.stores.specs.Rep.{Lent}
use Rattle.arcs.specs.State.{Tables}
use Rattle.checks.specs.declared.Lengths.{Lengths}
use Rattle.decoder.specs.declared.Decoder.{Decoder}
use Rattle.decoder.specs.Represents.{exact, refusal_of}
use Rattle.decoder.specs.Promises.{FitIs, Asked}
use Rattle.decoder.specs.Behaves.{Behaves, Runs}
use Rattle.decoder.specs.declared.Called.{Called}
use Rattle.decoder.specs.declared.Called.TheVariants.{Done, Refused}
use Rattle.refusals.specs.declared.Refusal.{Refusal as StoredRefusal}

-- ---- "from a newly fitted decoder"

-- of a fitting that 1 to 6 do not refuse: the answer of its own start, and the decoder
abbrev pub FittedAs : Result Called StoredRefusal → Answer → Decoder → Type 0
FittedAs (Err f) a d = ⊥
FittedAs (Ok (Done x)) a d = (a ≡ done_answer) × (d ≡ x)
FittedAs (Ok (Refused x f)) a d = (a ≡ refusal_answer (refusal_of f)) × (d ≡ x)

-- what was lent and what a fitting left; it met its contract
pub record Fitting : Type 0 where
  pub graph : Graph
  pub tables : Tables
  pub before : Lent
  pub after : Lent
  pub lengths : Lengths
  pub queue : List ℕ
  pub queue_after : List ℕ
  pub eps : List ℕ
  pub eps_after : List ℕ
  pub config : Config
  pub answered : Result Called StoredRefusal
  pub first : Answer
  pub decoder : Decoder
  pub fit_is : FitIs graph tables before after lengths queue queue_after eps eps_after config answered
  pub fitted : FittedAs answered first decoder

abbrev pub settings : Fitting → Settings
settings F = config_of F.config

-- ---- "every list of starts, frames, keep margins and reads, refused ones included"

-- each call is given what the last one left, and meets its contract
abbrev pub RunsFrom : Fitting → List (Limits × Call) → List Answer → Lent → Decoder → Type 0
RunsFrom F ks ans m d = Runs F.tables F.graph.finals F.eps_after (length F.queue) F.after F.decoder ks ans m d

-- "The list begins with a fitting's own start"
abbrev pub calls : Fitting → List (Limits × Call) → List (Limits × Call)
calls F ks = (exact F.decoder (length F.queue), start_call) ∷ ks

-- what is asked of a caller, and no more: after every list the decoder and the stores meet what each next call asks
abbrev pub CallsAsked : Type 0
CallsAsked = (F : Fitting) (ks : List (Limits × Call)) (ans : List Answer) (m : Lent) (d : Decoder) → RunsFrom F ks ans m d → Asked F.tables m F.graph.finals F.eps_after (length F.queue) F.lengths d

-- ---- "all answers are bit for bit those of document 01's whole-path copy"

-- with the very places that were lent, so that a decoder which answers 13 to everything is none
abbrev pub AnswersLimited : Type 0
AnswersLimited = (F : Fitting) (ks : List (Limits × Call)) (ans : List Answer) (m : Lent) (d : Decoder) → RunsFrom F ks ans m d → limited_answers F.graph (settings F) (calls F ks) ≡ F.first ∷ ans

-- "it is told only which calls a full store refused": of each call 13, 14 or 15 where that refused it, and else 0
abbrev pub told : List (Limits × Call) → List Answer → List (Call × ℕ)
told [] ans = []
told (k ∷ ks) [] = []
told (k ∷ ks) (a ∷ ans) = (k.1, told_of a) ∷ told ks ans

abbrev pub AnswersAlike : Type 0
AnswersAlike = (F : Fitting) (ks : List (Limits × Call)) (ans : List Answer) (m : Lent) (d : Decoder) → RunsFrom F ks ans m d → answers F.graph (settings F) (told (calls F ks) (F.first ∷ ans)) ≡ F.first ∷ ans

-- ---- "So after every list"

-- a call, and what it answers, after a list of calls
pub record Answered : Type 0 where
  pub fitting : Fitting
  pub list : List (Limits × Call)
  pub answered : List Answer
  pub stores : Lent
  pub decoder : Decoder
  pub runs : RunsFrom fitting list answered stores decoder
  pub call : Limits × Call
  pub answer : Answer
  pub stores_after : Lent
  pub decoder_after : Decoder
  pub behaves : Behaves fitting.tables fitting.graph.finals fitting.eps_after (length fitting.queue) call stores decoder answer stores_after decoder_after

-- a refusal has one of the numbers that its call may be refused by, never 0
abbrev pub RefusalsNumbered : Type 0
RefusalsNumbered = (A : Answered) (r : Refusal) → A.answer ≡ refusal_answer r → r.number ∈ refusals_of A.call.1

-- "A refused start (only 13 or 14)"
abbrev pub StartsRefused : Type 0
StartsRefused = (A : Answered) (r : Refusal) → A.call.1 ≡ start_call → A.answer ≡ refusal_answer r → (r.number ≡ 13) ⊎ (r.number ≡ 14)

-- the calls before it, as the copy is told of them
abbrev pub past : Answered → List (Call × ℕ)
past A = told (calls A.fitting A.list) (A.fitting.first ∷ A.answered)

-- where the copy then stands
abbrev pub point : Answered → Point
point A = reached A.fitting.graph (settings A.fitting) (past A)

-- "where finals count"
abbrev pub finals : Answered → Bool
finals A = use_finals A.fitting.graph (point A).state (asks_finals A.call.1)

-- "the words of the best path and of each reading are the nonzero output labels of one path from the start state with as many emitting arcs as frames decoded, ending in a final state where finals count"; so are those of each alternative and of each trace
abbrev pub WordsOfOnePath : Type 0
WordsOfOnePath = (A : Answered) (ws : List ℤ) → ws ∈ words_in A.answer → OnePath A.fitting.graph (point A) (finals A) ws

-- "No two listed readings have the same words": nor two alternatives, nor two traces
abbrev pub ReadingsDistinct : Type 0
ReadingsDistinct = (A : Answered) (lists : List (List ℤ)) → lists ∈ lists_in A.answer → Nodup lists

-- "The best path's phone segments are nonempty, abut, and run from 0 to the frame count (none at 0)."
abbrev pub SegmentsTile : Type 0
SegmentsTile = (A : Answered) (tr : Traced) → A.answer ≡ path_answer (some tr) → Tiles 0 (point A).state.frames tr.phones × ((point A).state.frames ≡ 0 → tr.phones ≡ [])

-- "Where finals do not count, the latest start was accepted and no cutoff has dropped anything in it or since, the best path's cost is its sum in the same order with the same offsets and rounding, and every other path of that many frames costs at least as much; where there is then no best path, there is no path of that many frames."
abbrev pub CostsLeast : Type 0
CostsLeast = (A : Answered) (o : Option Traced) → A.answer ≡ path_answer o → BestOrNone A.fitting.graph (point A) (NothingCut A.fitting.graph (settings A.fitting) (past A)) (finals A) o

-- beyond the demand: an alternative's segments, frames and cost are those of its path; each word of a traced reading has the frame of its arc
abbrev pub AlternativesOwn : Type 0
AlternativesOwn = (A : Answered) (trs : List Traced) → A.answer ≡ paths_answer trs → (tr : Traced) → tr ∈ trs → Own A.fitting.graph (point A) (finals A) tr

abbrev pub ReadingsTraced : Type 0
ReadingsTraced = (A : Answered) (rs : List Reading) (trs : List Traced) → A.answer ≡ readings_answer rs trs → (tr : Traced) → tr ∈ trs → OneTrace A.fitting.graph (point A) (finals A) tr
