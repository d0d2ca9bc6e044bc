-- What stands in the lent slices of a reading list: words of all readings; frames of the words and segments of the first ones, which are traced; five numbers and four costs for each reading.
use Rattle.std.specs.Prelude.{◌≡◌, ℕ, zero, suc, ◌+◌, ◌-◌, ◌*◌, ◌/◌, List, [], ◌∷◌, ◌++◌, map, ℤ, pos, nat_abs, length, get_or, take, drop, Float}
use Rattle.std.specs.Float.{nan}
use Rattle.lists.specs.Lists.{range}
use Rattle.model.specs.Reads.{Traced as Told}
use Rattle.model.specs.Calls.{Sizes, Reading}
use Rattle.traceback.specs.Right.{parts, path_in}
use Rattle.readings.specs.Paths.{lesser_of, size_by}

-- the five lent slices at one moment
pub record Outputs : Type 0 where
  pub words : List ℤ
  pub frames : List ℕ
  pub segments : List ℕ
  pub numbers : List ℕ
  pub costs : List Float

abbrev pub outputs : List ℤ → (frames segments numbers : List ℕ) → List Float → Outputs
outputs ws fs ss ns cs = record { words = ws; frames = fs; segments = ss; numbers = ns; costs = cs }

abbrev pub places_in : Outputs → Sizes
places_in o = record { words = length o.words; frames = length o.frames; segments = length o.segments / 3; entries = lesser_of (length o.numbers / 5) (length o.costs / 4) }

-- ---- what stands in them

abbrev pub words_of : List Reading → List ℤ
words_of [] = []
words_of (r ∷ rs) = r.words ++ words_of rs

-- Five numbers for each reading, the first reading behind w words and s segments: where its words end; where its segments end, which is where they began if it is not traced; how many kept histories it takes; its token's phone and seq.
abbrev pub numbers_of : (w s : ℕ) → List Reading → List Told → List ℕ
numbers_of w s [] ts = []
numbers_of w s (r ∷ rs) [] = (w + length r.words) ∷ s ∷ r.kept ∷ nat_abs r.token_phone ∷ r.token_seq ∷ numbers_of (w + length r.words) s rs []
numbers_of w s (r ∷ rs) (t ∷ ts) =
    (w + length r.words) ∷ (s + length t.phones) ∷ r.kept ∷ nat_abs r.token_phone ∷ r.token_seq ∷ numbers_of (w + length r.words) (s + length t.phones) rs ts

-- four costs for each reading
abbrev pub costs_of : List Reading → List Float
costs_of [] = []
costs_of (r ∷ rs) = r.rank ∷ r.cost ∷ r.token_cost ∷ r.token_graph ∷ costs_of rs

-- the traces are of the first readings: their words and their costs
abbrev pub Traces : List Told → List Reading → Type 0
Traces [] rs = Unit {0}
Traces (t ∷ ts) [] = ⊥
Traces (t ∷ ts) (r ∷ rs) = (t.words ≡ r.words) × (t.cost ≡ r.cost) × Traces ts rs

-- phones that are read as they were written
abbrev pub Phones : List Reading → Type 0
Phones [] = Unit {0}
Phones (r ∷ rs) = (pos (nat_abs r.token_phone) ≡ r.token_phone) × Phones rs

-- ---- read back

-- where the words and the segments of the first i readings end
abbrev pub words_end : (numbers : List ℕ) → ℕ → ℕ
words_end ns zero = 0
words_end ns (suc i) = get_or ns (i * 5) 0

abbrev pub segments_end : (numbers : List ℕ) → ℕ → ℕ
segments_end ns zero = 0
segments_end ns (suc i) = get_or ns (i * 5 + 1) 0

-- The i-th reading. Behind the two ends: how many kept histories it takes, its token's phone and seq; and its rank, its cost, its token's cost and graph sum.
abbrev pub reading_at : Outputs → ℕ → Reading
reading_at o i =
    let ns = o.numbers in
    let cs = o.costs in
    let w = words_end ns i in
    record {
      words = take (words_end ns (suc i) - w) (drop w o.words);
      rank = get_or cs (i * 4) nan;
      cost = get_or cs (i * 4 + 1) nan;
      kept = get_or ns (i * 5 + 2) 0;
      token_cost = get_or cs (i * 4 + 2) nan;
      token_graph = get_or cs (i * 4 + 3) nan;
      token_phone = pos (get_or ns (i * 5 + 3) 0);
      token_seq = get_or ns (i * 5 + 4) 0;
    }

-- its trace
abbrev pub trace_at : Outputs → ℕ → Told
trace_at o i =
    let ns = o.numbers in
    let w = words_end ns i in
    let s = segments_end ns i in
    path_in (parts (drop w o.words) (drop w o.frames) (drop (s * 3) o.segments)) (size_by (words_end ns (suc i) - w) (segments_end ns (suc i) - s)) (get_or o.costs (i * 4 + 1) nan)

abbrev pub readings_in : ℕ → Outputs → List Reading
readings_in k o = map (reading_at o) (range 0 k)

abbrev pub traces_in : ℕ → Outputs → List Told
traces_in k o = map (trace_at o) (range 0 k)
