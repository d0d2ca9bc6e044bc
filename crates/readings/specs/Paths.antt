-- Paths one after another in the lent slices: what stands there, and what writing them asks and leaves.
use Rattle.std.specs.Prelude.{◌≡◌, ℕ, zero, suc, ◌+◌, ◌-◌, ◌*◌, ◌/◌, ◌≤◌, ◌<◌, Bool, ◌||◌, cond, List, [], ◌∷◌, ◌++◌, map, ℤ, ltb, length, get_or, take, drop, set, min, Float}
use Rattle.std.proofs.Common.{arith, lt-ltb, le-ltb}
use Rattle.std.proofs.Math.Nat.{min-eq_left, min-eq_right}
use Rattle.lists.specs.Tests.{case, lt_or_le}
use Rattle.std.proofs.lemmas.List.Edits.{sets}
use Rattle.lists.specs.Lists.{sum}
use Rattle.model.specs.Basics.{◌⊕◌}
use Rattle.model.specs.Reads.{Traced as Told}
use Rattle.model.specs.Calls.{Sizes, words_of}
use Rattle.tokens.specs.Layout.{cost_at, place_in}
use Rattle.traceback.specs.declared.Size.{Size}
use Rattle.traceback.specs.Ranks.{weight_in}
use Rattle.traceback.specs.Trail.{Trail, no_trail}
use Rattle.traceback.specs.Chain.{Walkable, trail_from, SizeIs}
use Rattle.traceback.specs.Write.{flat}
use Rattle.traceback.specs.Answers.{told_by}
use Rattle.traceback.specs.Right.{parts, path_in, segments_in}
use Rattle.groups.specs.Firsts.{link_at}

-- ---- one state's path

abbrev pub cost_in : (sm fs : List Float) → (side : ℕ) → (counts : Bool) → (s : ℕ) → Float
cost_in sm fs b counts s = cost_at sm (place_in b s) ⊕ weight_in fs s counts

abbrev pub trail_at : (tk rs : List ℕ) → List ℤ → (side n s : ℕ) → Trail
trail_at tk rs ls b n s = trail_from rs ls [] n (link_at tk b s) no_trail

-- the paths of states, with their costs
abbrev pub tolds_of : (tk rs : List ℕ) → List ℤ → (side n : ℕ) → (cost : ℕ → Float) → List ℕ → List Told
tolds_of tk rs ls b n cost ss = map (λ (s : ℕ). told_by (trail_at tk rs ls b n s) (cost s)) ss

pub record PathsAsk (tk rs : List ℕ) (ls : List ℤ) (b used s : ℕ) : Type 0 where
  pub side : b ≤ 1
  pub walkable : Walkable rs ls used
  pub inside : s * 8 + 8 ≤ length tk
  pub low : link_at tk b s ≤ used

-- ---- sizes

abbrev pub words_in : List Told → ℕ
words_in ts = sum (map length (words_of ts))

abbrev pub frames_in : List Told → ℕ
frames_in ts = sum (map (λ (t : Told). length t.word_frames) ts)

abbrev pub phones_in : List Told → ℕ
phones_in ts = sum (map (λ (t : Told). length t.phones) ts)

abbrev pub lesser_of : ℕ → ℕ → ℕ
lesser_of a b = cond (ltb b a) b a

-- it is std's `min`
pub lesser_is : (a b : ℕ) → min a b ≡ lesser_of a b
lesser_is a b = case (lt_or_le b a) (λ h. rw (lt-ltb b a h) (min-eq_right (omega arith))) (λ h. rw (le-ltb b a h) (min-eq_left h))

abbrev pub sizes : (words frames segments entries : ℕ) → Sizes
sizes w f s e = record { words = w; frames = f; segments = s; entries = e }

abbrev pub too_short : Size → (k : ℕ) → Sizes → Bool
too_short z k p = ltb p.words z.words || (ltb p.frames z.words || (ltb p.segments z.segments || ltb p.entries k))

pub record FillAsks (tk rs : List ℕ) (ls : List ℤ) (b used : ℕ) (order : List ℕ) (k : ℕ) : Type 0 where
  pub few : k ≤ 64
  pub long : k ≤ length order
  pub each : (i : ℕ) → i < k → PathsAsk tk rs ls b used (get_or order i 0)

-- the paths of the first k states together, whatever they cost
pub record TotalIs (tk rs : List ℕ) (ls : List ℤ) (b used n : ℕ) (order : List ℕ) (k : ℕ) (r : Size) : Type 0 where
  pub words : (cost : ℕ → Float) → r.words ≡ words_in (tolds_of tk rs ls b n cost (take k order))
  pub segments : (cost : ℕ → Float) → r.segments ≡ phones_in (tolds_of tk rs ls b n cost (take k order))
  pub few : (r.words ≤ k * 1_048_576) × (r.segments ≤ k * 2_097_152)
  pub sized : (i : ℕ) → i < k → (z : Size) × SizeIs (trail_at tk rs ls b n (get_or order i 0)) used z

-- ---- the slices

-- the five lent slices at one moment: two ends for a path, where its words and its segments end
pub record Outputs : Type 0 where
  pub words : List ℤ
  pub frames : List ℕ
  pub segments : List ℕ
  pub ends : List ℕ
  pub costs : List Float

abbrev pub outputs : List ℤ → (frames segments ends : List ℕ) → List Float → Outputs
outputs ws fs ss es cs = record { words = ws; frames = fs; segments = ss; ends = es; costs = cs }

abbrev pub places_in : Outputs → Sizes
places_in o = record { words = length o.words; frames = length o.frames; segments = length o.segments / 3; entries = lesser_of (length o.ends / 2) (length o.costs) }

abbrev pub size_by : (words segments : ℕ) → Size
size_by w s = record { words = w; segments = s }

-- k paths, the first of which begins behind w words and s segments
abbrev pub paths_from : (k w s : ℕ) → List ℤ → (frames segments ends : List ℕ) → List Float → List Told
paths_from zero w s ws fs ss es cs = []
paths_from (suc k) w s ws fs ss [] cs = []
paths_from (suc k) w s ws fs ss (e ∷ []) cs = []
paths_from (suc k) w s ws fs ss (e ∷ f ∷ es) [] = []
paths_from (suc k) w s ws fs ss (e ∷ f ∷ es) (c ∷ cs) =
    path_in (parts ws fs ss) (size_by (e - w) (f - s)) c ∷ paths_from k e f (drop (e - w) ws) (drop (e - w) fs) (drop ((f - s) * 3) ss) es cs

abbrev pub paths_in : ℕ → Outputs → List Told
paths_in k o = paths_from k 0 0 o.words o.frames o.segments o.ends o.costs

-- these paths have their places
pub record RoomFor (ts : List Told) (o : Outputs) : Type 0 where
  pub words : words_in ts ≤ length o.words
  pub frames : frames_in ts ≤ length o.frames
  pub segments : phones_in ts * 3 ≤ length o.segments
  pub ends : 2 * length ts ≤ length o.ends
  pub costs : length ts ≤ length o.costs

-- ---- the slices filled

-- a slice that begins with these
abbrev pub front : {A : Type 0} → List A → List A → List A
front l vs = vs ++ drop (length vs) l

abbrev pub all_words : List Told → List ℤ
all_words [] = []
all_words (t ∷ ts) = t.words ++ all_words ts

abbrev pub all_frames : List Told → List ℕ
all_frames [] = []
all_frames (t ∷ ts) = t.word_frames ++ all_frames ts

abbrev pub all_segments : List Told → List ℕ
all_segments [] = []
all_segments (t ∷ ts) = flat t.phones ++ all_segments ts

-- where each ends, the first beginning behind w words and s segments
abbrev pub ends_from : (w s : ℕ) → List Told → List ℕ
ends_from w s [] = []
ends_from w s (t ∷ ts) = (w + length t.words) ∷ (s + length t.phones) ∷ ends_from (w + length t.words) (s + length t.phones) ts

abbrev pub costs_of : List Told → List Float
costs_of ts = map (λ (t : Told). t.cost) ts

-- As many frames as words, and segments that are read as they were written.
pub record Plain (t : Told) : Type 0 where
  pub as_many : length t.word_frames ≡ length t.words
  pub back : (rest : List ℕ) → segments_in (length t.phones) (flat t.phones ++ rest) ≡ t.phones

abbrev pub Plains : List Told → Type 0
Plains [] = Unit {0}
Plains (t ∷ ts) = Plain t × Plains ts

-- ---- one path written

pub record PutAsks (t : Trail) (at : Size) (ws : List ℤ) (fs ss : List ℕ) : Type 0 where
  pub words : at.words + length t.words ≤ length ws
  pub frames : at.words + length t.words ≤ length fs
  pub segments : (at.segments + length t.segments) * 3 ≤ length ss
  pub even : length t.frames ≡ length t.words
  pub few : (at.words ≤ 67_108_864) × (at.segments ≤ 134_217_728)

pub record PathPut (t : Trail) (at r : Size) (ws ws' : List ℤ) (fs fs' ss ss' : List ℕ) : Type 0 where
  pub words : ws' ≡ sets ws at.words t.words
  pub frames : fs' ≡ sets fs at.words t.frames
  pub segments : ss' ≡ sets ss (at.segments * 3) (flat t.segments)
  pub to_words : r.words ≡ at.words + length t.words
  pub to_segments : r.segments ≡ at.segments + length t.segments

pub record EntryAsks (tk : List ℕ) (sm fs : List Float) (rs : List ℕ) (ls : List ℤ) (b used n s i : ℕ) (at : Size) (o : Outputs) : Type 0 where
  pub path : PathsAsk tk rs ls b used s
  pub sums : s * 4 + 4 ≤ length sm
  pub finals : s < length fs
  pub put : PutAsks (trail_at tk rs ls b n s) at o.words o.frames o.segments
  pub few : i < 64
  pub ends : 2 * i + 2 ≤ length o.ends
  pub costs : i < length o.costs

pub record EntryPut (t : Trail) (cost : Float) (i : ℕ) (at r : Size) (o o' : Outputs) : Type 0 where
  pub path : PathPut t at r o.words o'.words o.frames o'.frames o.segments o'.segments
  pub ends : o'.ends ≡ set (set o.ends (2 * i) r.words) (2 * i + 1) r.segments
  pub costs : o'.costs ≡ set o.costs i cost

pub record WriteAsks (tk : List ℕ) (sm fs : List Float) (rs : List ℕ) (ls : List ℤ) (b used n : ℕ) (counts : Bool) (order : List ℕ) (k : ℕ) (o : Outputs) : Type 0 where
  pub fill : FillAsks tk rs ls b used order k
  pub sums : (i : ℕ) → i < k → get_or order i 0 * 4 + 4 ≤ length sm
  pub finals : (i : ℕ) → i < k → get_or order i 0 < length fs
  pub even : (i : ℕ) → i < k → length (trail_at tk rs ls b n (get_or order i 0)).frames ≡ length (trail_at tk rs ls b n (get_or order i 0)).words
  pub few : (words_in (tolds_of tk rs ls b n (cost_in sm fs b counts) (take k order)) ≤ 67_108_864) × (phones_in (tolds_of tk rs ls b n (cost_in sm fs b counts) (take k order)) ≤ 134_217_728)
  pub room : RoomFor (tolds_of tk rs ls b n (cost_in sm fs b counts) (take k order)) o
