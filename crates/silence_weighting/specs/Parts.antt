-- The parts of the calls: what is stored for a segment, and the frames of the window one by one. Defined from the definition's functions.
use Rattle.std.specs.Prelude.{⊤, ℕ, suc, ◌-◌, ◌^◌, ◌≤◌, min, max, ◌≡◌, Bool, not, ◌||◌, cond, List, [], ◌∷◌, map, Option, Some, None, Result, Ok, Err, ℤ, leb, ltb, eqb, length, get_or, replicate, Float}
use Rattle.std.proofs.lemmas.List.Edits.{sets}
use Rattle.std.specs.Float.{nan}
use Rattle.std.specs.Float.Ieee.{ne}
use Rattle.refusals.specs.declared.Reason.{Reason}
use Rattle.refusals.specs.declared.Reason.TheVariants.{BadSilenceSetting, TooManyFrames, TooShort}
use Rattle.lists.specs.Lists.{range}
use Rattle.model.specs.Basics.{◌⊖◌, 0f, 1f}
use Rattle.model.specs.Reads.{Segment}
use Rattle.model.specs.Silence.{FrameInfo, unknown, is_silence, deltas_from, weighting_wrong, too_many, ceil_div}
use Rattle.silence_weighting.specs.declared.SilenceWeighting.{SilenceWeighting}
use Rattle.silence_weighting.specs.declared.Frame.{Frame}
use Rattle.silence_weighting.specs.declared.Window.{Window}
use Rattle.silence_weighting.specs.declared.Step.{Step}
use Rattle.silence_weighting.specs.declared.Write.{Write}
use Rattle.silence_weighting.specs.State.{frame_at, places}

-- a refusal where a test is true
abbrev pub unless : Bool → Reason → Result ⊤ Reason
unless b r = cond b (Err r) (Ok tt)

-- ---- the traceback

-- the status of the frames of a phone
unfoldable pub status_of : List ℤ → (phone : ℤ) → ℕ
status_of ps p = cond (is_silence ps p) 2 1

-- the segments stored one after the other, each over its frames below n
unfoldable pub told_to : List ℤ → List Segment → (n : ℕ) → (status : List ℕ) → List ℕ
told_to ps [] n ss = ss
told_to ps (s ∷ rest) n ss = told_to ps rest n (sets ss s.start (replicate (min s.end n - s.start) (status_of ps s.phone)))

-- ---- the window

-- the definition's frame
abbrev pub info_in : Frame → FrameInfo
info_in i = record { known = i.known; silence = i.silence; weight = i.weight }

-- frame f of the grown list: those behind the first `listed` are unknown
unfoldable pub grown_at : (listed : ℕ) → (status : List ℕ) → (weights : List Float) → ℕ → FrameInfo
grown_at listed ss ws f = cond (ltb f listed) (frame_at ss ws f) unknown

-- a frame's weight; where the window's first frame is unknown it is the one before, known or not
unfoldable pub weight_of : (silence : Float) → (all-unknown : Bool) → (previous : Float) → FrameInfo → Float
weight_of sil u p i = cond i.known (cond u p (cond i.silence sil 1f)) p

-- the weights of frames one after the other
unfoldable pub weights_along : (silence : Float) → (all-unknown : Bool) → (previous : Float) → List FrameInfo → List Float
weights_along sil u p [] = []
weights_along sil u p (i ∷ is) = weight_of sil u p i ∷ weights_along sil u (weight_of sil u p i) is

-- the frames from f to the window's end
abbrev pub frames_from : Window → (status : List ℕ) → (weights : List Float) → ℕ → List FrameInfo
frames_from w ss ws f = map (grown_at w.listed ss ws) (range f (w.total - f))

-- their weights, and their differences, where the weight before f is p
abbrev pub weights_left : Window → (status : List ℕ) → (weights : List Float) → (p : Float) → ℕ → List Float
weights_left w ss ws p f = weights_along w.silence w.unknown p (frames_from w ss ws f)

abbrev pub deltas_left : Window → (status : List ℕ) → (weights : List Float) → (p : Float) → ℕ → List (ℕ × Float)
deltas_left w ss ws p f = deltas_from w.subsampling w.first f (frames_from w ss ws f) (weights_left w ss ws p f)

-- the whole window's
unfoldable pub weights_on : Window → (status : List ℕ) → (weights : List Float) → List Float
weights_on w ss ws = weights_left w ss ws w.previous w.begin

unfoldable pub deltas_on : Window → (status : List ℕ) → (weights : List Float) → List (ℕ × Float)
deltas_on w ss ws = deltas_left w ss ws w.previous w.begin

-- a window within its memory, whose numbers all fit
pub record Sound (w : Window) (ss : List ℕ) (ws : List Float) : Type 0 where
  pub status : w.total ≤ length ss
  pub weights : w.total ≤ length ws
  pub grows : w.listed ≤ w.total
  pub begins : w.begin ≤ w.total
  pub few : w.total ≤ 65_536
  pub times : w.subsampling ≤ 16
  pub input : w.first ≤ 2 ^ 32

-- the window's weights and differences, written
pub record Wrote (w : Window) (ss : List ℕ) (ws : List Float) (fs : List ℕ) (ds : List Float) (ws' : List Float) (fs' : List ℕ) (ds' : List Float) : Type 0 where
  pub weights : ws' ≡ sets ws w.begin (weights_on w ss ws)
  pub frames : fs' ≡ sets fs 0 (map (λ (d : ℕ × Float). d.0) (deltas_on w ss ws))
  pub deltas : ds' ≡ sets ds 0 (map (λ (d : ℕ × Float). d.1) (deltas_on w ss ws))

-- frame f of the window, where the weight before it is p
unfoldable pub step_at : Window → (status : List ℕ) → (weights : List Float) → (p : Float) → ℕ → Step
step_at w ss ws p f =
    let i = grown_at w.listed ss ws f in
    let v = weight_of w.silence w.unknown p i in
    let d = v ⊖ i.weight in
    record { weight = v; delta = d; times = cond (ne d 0f || eqb (suc f) w.total) w.subsampling 0 }

-- the weight of the frame before the window, or of silence where there is none
unfoldable pub weight_before : (silence : Float) → (weights : List Float) → (begin : ℕ) → Float
weight_before sil ws begin = cond (eqb begin 0) sil (get_or ws (begin - 1) nan)

-- the window of a state, where n frames are needed
unfoldable pub window_of : SilenceWeighting → (n first : ℕ) → (status : List ℕ) → (weights : List Float) → Window
window_of s n from ss ws =
    let begin = s.frames - 100 in
    record {
      silence = s.weight;
      previous = weight_before s.weight ws begin;
      unknown = not (grown_at s.frames ss ws begin).known;
      subsampling = s.subsampling;
      first = from;
      begin = begin;
      listed = s.frames;
      total = max s.frames n;
    }

-- what `get_delta_weights` is to do: refuse, or nothing, or write a window's differences
unfoldable pub plan_of : SilenceWeighting → (ready first room : ℕ) → (status : List ℕ) → (weights : List Float) → Result (Option Write) Reason
plan_of s ready from room ss ws =
    let n = ceil_div (ready - from) s.subsampling in
    let w = window_of s n from ss ws in
    cond (weighting_wrong s.weight s.subsampling) (Err BadSilenceSetting)
    (cond (too_many (places ss ws) s.frames) (Err TooManyFrames)
    (cond (ltb (2 ^ 32) ready) (Err TooManyFrames)
    (cond (ltb (2 ^ 32) from) (Err TooManyFrames)
    (cond (leb ready from) (Ok None)
    (cond (too_many (places ss ws) n) (Err TooManyFrames)
    (cond (ltb room (length (deltas_on w ss ws))) (Err TooShort)
    (Ok (Some (record { window = w; count = length (deltas_on w ss ws) })))))))))
