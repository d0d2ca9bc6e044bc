-- What `trace` and `best_path` must answer and leave in the lent parts.
use Rattle.std.specs.Prelude.{◌≡◌, ℕ, zero, suc, ◌*◌, ◌/◌, ◌≤◌, Bool, ◌||◌, List, [], ◌∷◌, ℤ, pos, ltb, length, take, drop, Float, Option, Some, None, Result, Ok, Err}
use Rattle.std.proofs.Math.Option.{none, some}
use Rattle.model.specs.Basics.{refuse}
use Rattle.model.specs.Graph.{Graph}
use Rattle.model.specs.Path.{Path, Table}
use Rattle.model.specs.Passes.{State}
use Rattle.model.specs.Reads.{Segment, Traced as Told, trace}
use Rattle.model.specs.Calls.{Sizes, Answer, path_answer, short, words_of, refused_read, unless, read_best}
use Rattle.records.specs.History.{History}
use Rattle.records.specs.Layout.{store}
use Rattle.records.specs.Stands.{Stands}
use Rattle.stores.specs.Shown.{Is}
use Rattle.stores.specs.Rep.{lent, Finished}
use Rattle.traceback.specs.declared.Size.{Size}
use Rattle.traceback.specs.declared.BestPath.{BestPath}
use Rattle.traceback.specs.Trail.{segment}
use Rattle.traceback.specs.Traced.{numbers_of, Routed}
use Rattle.refusals.specs.declared.Reason.{Reason}
use Rattle.refusals.specs.Numbers.{number_of}

-- the three lent parts at one moment
pub record Parts : Type 0 where
  pub words : List ℤ
  pub frames : List ℕ
  pub segments : List ℕ

abbrev pub parts : List ℤ → List ℕ → List ℕ → Parts
parts ws fs ss = record { words = ws; frames = fs; segments = ss }

-- their places: a segment takes three numbers, and a path has no entry of its own
abbrev pub places_of : Parts → Sizes
places_of m = record { words = length m.words; frames = length m.frames; segments = length m.segments / 3; entries = 0 }

abbrev pub too_short : Size → (words frames segments : ℕ) → Bool
too_short z w f s = ltb w z.words || (ltb f z.words || ltb s z.segments)

-- the first k segments of the numbers
abbrev pub segments_in : ℕ → List ℕ → List Segment
segments_in zero xs = []
segments_in (suc k) [] = []
segments_in (suc k) (p ∷ []) = []
segments_in (suc k) (p ∷ s ∷ []) = []
segments_in (suc k) (p ∷ s ∷ e ∷ xs) = segment (pos p) s e ∷ segments_in k xs

-- what stands in the parts, of this size
abbrev pub path_in : Parts → Size → (cost : Float) → Told
path_in m z c = record { words = take z.words m.words; word_frames = take z.words m.frames; phones = segments_in z.segments m.segments; cost = c }

-- room for a trace
pub record Fits (z : Size) (ws : List ℤ) (fs ss : List ℕ) : Type 0 where
  pub words : z.words ≤ length ws
  pub frames : z.words ≤ length fs
  pub segments : z.segments * 3 ≤ length ss

-- an answer of this size has its places, and what stands behind it is unchanged
pub record Behind (z : Size) (m m' : Parts) : Type 0 where
  pub fits : Fits z m.words m.frames m.segments
  pub words : drop z.words m'.words ≡ drop z.words m.words
  pub frames : drop z.words m'.frames ≡ drop z.words m.frames
  pub segments : drop (z.segments * 3) m'.segments ≡ drop (z.segments * 3) m.segments

-- ---- a trace

abbrev pub traced_as : Result Size Reason → Parts → (cost : Float) → Answer
traced_as (Err e) m c = refused_read (number_of e)
traced_as (Ok z) m c = path_answer (some (path_in m z c))

abbrev pub TraceKeeps : Result Size Reason → (m m' : Parts) → Type 0
TraceKeeps (Err e) m m' = m' ≡ m
TraceKeeps (Ok z) m m' = Behind z m m'

-- a read's answer that is one path: 11 where a part is too short
abbrev pub answer_one : Told → Sizes → Answer
answer_one t z = unless (refuse 11 (short z (words_of (t ∷ [])) (t ∷ []) 0)) (path_answer (some t))

-- The trace of the path that `link` stands for, along the joins that the route names.
pub record TraceRight (rs : List ℕ) (ls : List ℤ) (route : List ℕ) (used n link : ℕ) (m m' : Parts) (r : Result Size Reason) : Type 0 where
  pub answer : (gs : List Float) (h : ℕ → History) → Stands (store rs ls gs) used h → Routed used route → (p : Path) (cost : Float) → Is h used link p → traced_as r m' cost ≡ answer_one (trace n (numbers_of h route) p cost) (places_of m)
  pub kept : TraceKeeps r m m'

-- ---- the best path

abbrev pub best_as : Result (Option BestPath) Reason → Parts → Answer
best_as (Err e) m = refused_read (number_of e)
best_as (Ok None) m = path_answer none
best_as (Ok (Some p)) m = path_answer (some (path_in m p.size p.cost))

abbrev pub BestKeeps : Result (Option BestPath) Reason → (m m' : Parts) → Type 0
BestKeeps (Err e) m m' = m' ≡ m
BestKeeps (Ok None) m m' = m' ≡ m
BestKeeps (Ok (Some p)) m m' = Behind p.size m m'

-- what a read is given: stores that stand for some table
pub record ReadAsks (tk : List ℕ) (sm fs : List Float) (rs : List ℕ) (ls : List ℤ) (n b used : ℕ) : Type 0 where
  pub side : b ≤ 1
  pub tokens : n * 8 ≤ length tk
  pub sums : n * 4 ≤ length sm
  pub finals : n ≤ length fs
  pub records : used * 8 ≤ length rs
  pub labels : used * 2 ≤ length ls
  pub few : used ≤ 1_048_576
  pub gaps : List Float
  pub table : Table
  pub finished : Finished b n (lent tk sm rs ls gaps) used table

-- the definition's answer, for every state that the stores stand for
pub record BestPathRight (tk : List ℕ) (sm fs : List Float) (rs : List ℕ) (ls : List ℤ) (n b used decoded : ℕ) (use_final : Bool) (m m' : Parts) (r : Result (Option BestPath) Reason) : Type 0 where
  pub answer : (g : Graph) → g.finals ≡ fs → (gs : List Float) (st : State) → st.frames ≡ decoded → Finished b n (lent tk sm rs ls gs) used st.table → best_as r m' ≡ read_best g st use_final (places_of m)
  pub kept : BestKeeps r m m'
