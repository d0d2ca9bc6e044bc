-- What each answer says, by its cases: the reason, whose number is document 01's, or the values given back. And what a call must answer and leave in the lent memory.
use Rattle.std.specs.Prelude.{ℕ, min, ◌≡◌, Bool, cond, List, map, Result, Ok, Err, ℤ, length, get_or, drop, Float}
use Rattle.std.specs.Float.{nan}
use Rattle.lists.specs.Lists.{range}
use Rattle.refusals.specs.declared.Reason.{Reason}
use Rattle.refusals.specs.Numbers.{number_of}
use Rattle.model.specs.Basics.{Outcome, ok, refused}
use Rattle.model.specs.Silence.{SilenceWeighting as Weighting, weighting_wrong, new_silence, active, too_many, compute_current_traceback, Deltas, get_delta_weights, trailing_silence_frames}
use Rattle.silence_weighting.specs.declared.SilenceWeighting.{SilenceWeighting}
use Rattle.silence_weighting.specs.declared.Weighed.{Weighed}
use Rattle.silence_weighting.specs.State.{state_of, places, segments_of}

-- A struct comes from the caller. One that `new` could not have given is refused by 7, and one whose frame list is longer than its store holds,
-- or than 65,536, by 10. Then the call answers.
unfoldable pub brought : {A : Type 0} → SilenceWeighting → (store : ℕ) → Outcome A → Outcome A
brought s store answer = cond (weighting_wrong s.weight s.subsampling) (refused 7) (cond (too_many store s.frames) (refused 10) answer)

-- ---- the next state

-- An error is the refusal of its number, a struct the state that the struct and the frame list's memory stand for.
abbrev pub next_as : List ℤ → (status : List ℕ) → (weights : List Float) → Result SilenceWeighting Reason → Outcome Weighting
next_as ps ss ws (Err e) = refused (number_of e)
next_as ps ss ws (Ok s) = ok (state_of ps s ss ws)

-- A refusal leaves the memory as it was; otherwise what lies behind the frame list stays.
abbrev pub NextKeeps : Result SilenceWeighting Reason → (status : List ℕ) → (weights : List Float) → (status' : List ℕ) → (weights' : List Float) → Type 0
NextKeeps (Err e) ss ws ss' ws' = (ss' ≡ ss) × (ws' ≡ ws)
NextKeeps (Ok s) ss ws ss' ws' = (drop s.frames ss' ≡ drop s.frames ss) × (drop s.frames ws' ≡ drop s.frames ws)

-- `new`, whatever phones and memory are lent later
pub record NewRight (weight : Float) (subsampling : ℕ) (r : Result SilenceWeighting Reason) : Type 0 where
  pub answer : (ps : List ℤ) (ss : List ℕ) (ws : List Float) → next_as ps ss ws r ≡ new_silence ps weight subsampling

-- `active`, whatever the frame list is
pub record ActiveRight (s : SilenceWeighting) (ps : List ℤ) (r : Bool) : Type 0 where
  pub answer : (ss : List ℕ) (ws : List Float) → r ≡ active (state_of ps s ss ws)

-- `compute_current_traceback`
pub record TracebackRight (s : SilenceWeighting) (ps phones : List ℤ) (starts ends : List ℕ) (decoded : ℕ) (ss : List ℕ) (ws : List Float) (r : Result SilenceWeighting Reason) (ss' : List ℕ) (ws' : List Float) : Type 0 where
  pub answer : next_as ps ss' ws' r ≡ brought s (places ss ws) (compute_current_traceback (places ss ws) (segments_of phones starts ends) decoded (state_of ps s ss ws))
  pub kept : NextKeeps r ss ws ss' ws'

-- ---- the differences

-- the lent memory of `get_delta_weights`: the frame list, and the output
pub record Memory : Type 0 where
  pub status : List ℕ
  pub weights : List Float
  pub frames : List ℕ
  pub deltas : List Float

-- the first n differences of the output, each with its frame
unfoldable pub deltas_in : ℕ → (frames : List ℕ) → (deltas : List Float) → List (ℕ × Float)
deltas_in n fs ds = map (λ k. (get_or fs k 0, get_or ds k nan)) (range 0 n)

-- An error is the refusal of its number, and otherwise there is the next state with the first `count` differences of the output.
abbrev pub weighed_as : List ℤ → Memory → Result Weighed Reason → Outcome Deltas
weighed_as ps m (Err e) = refused (number_of e)
weighed_as ps m (Ok w) = ok (record { state = state_of ps w.next m.status m.weights; deltas = deltas_in w.count m.frames m.deltas })

-- A refusal leaves the memory as it was; otherwise what lies behind the frame list and behind the answer stays.
abbrev pub WeighedKeeps : Result Weighed Reason → Memory → Memory → Type 0
WeighedKeeps (Err e) m m' = m' ≡ m
WeighedKeeps (Ok w) m m' =
    ((drop w.next.frames m'.status ≡ drop w.next.frames m.status) × (drop w.next.frames m'.weights ≡ drop w.next.frames m.weights))
    × ((drop w.count m'.frames ≡ drop w.count m.frames) × (drop w.count m'.deltas ≡ drop w.count m.deltas))

-- `get_delta_weights`, whatever the silence phones are; the output has room for as many differences as fit both slices
pub record DeltasRight (s : SilenceWeighting) (ready first : ℕ) (m : Memory) (r : Result Weighed Reason) (m' : Memory) : Type 0 where
  pub answer : (ps : List ℤ) → weighed_as ps m' r ≡ brought s (places m.status m.weights) (get_delta_weights (places m.status m.weights) (min (length m.frames) (length m.deltas)) ready first (state_of ps s m.status m.weights))
  pub kept : WeighedKeeps r m m'

-- ---- `trailing_silence_frames`

-- An error is the refusal of its number, a number the count.
abbrev pub trailing_as : Result ℕ Reason → Outcome ℕ
trailing_as (Err e) = refused (number_of e)
trailing_as (Ok n) = ok n

abbrev pub TrailingRight : List ℤ → (phones : List ℤ) → (starts ends : List ℕ) → Result ℕ Reason → Type 0
TrailingRight ps phones starts ends r = trailing_as r ≡ trailing_silence_frames ps (segments_of phones starts ends)
