-- What the struct and the lent memory stand for: a state of the definition, and a list of segments.
use Rattle.std.specs.Prelude.{ℕ, min, not, List, map, ℤ, pos, eqb, length, get_or, Float}
use Rattle.std.specs.Float.{nan}
use Rattle.lists.specs.Lists.{range}
use Rattle.model.specs.Reads.{Segment}
use Rattle.model.specs.Silence.{FrameInfo, SilenceWeighting as Weighting}
use Rattle.silence_weighting.specs.declared.SilenceWeighting.{SilenceWeighting}

-- frame k of the list: its status is 0 where it is unknown, and 2 where it is known to be silence; any other is known, and no silence
abbrev pub frame_at : (status : List ℕ) → (weights : List Float) → ℕ → FrameInfo
frame_at ss ws k = record { known = not (eqb (get_or ss k 0) 0); silence = eqb (get_or ss k 0) 2; weight = get_or ws k nan }

-- the first n frames
unfoldable pub info_of : ℕ → (status : List ℕ) → (weights : List Float) → List FrameInfo
info_of n ss ws = map (frame_at ss ws) (range 0 n)

-- the definition's state, of the silence phones, the struct and the frame list's memory
unfoldable pub state_of : List ℤ → SilenceWeighting → (status : List ℕ) → (weights : List Float) → Weighting
state_of ps s ss ws = record { phones = ps; weight = s.weight; subsampling = s.subsampling; info = info_of s.frames ss ws }

-- the store holds the frames that fit both slices
abbrev pub places : (status : List ℕ) → (weights : List Float) → ℕ
places ss ws = min (length ss) (length ws)

abbrev pub segment_at : (phones : List ℤ) → (starts ends : List ℕ) → ℕ → Segment
segment_at ps ss es k = record { phone = get_or ps k (pos 0); start = get_or ss k 0; end = get_or es k 0 }

-- as many segments as all three slices hold
abbrev pub segment_count : (phones : List ℤ) → (starts ends : List ℕ) → ℕ
segment_count ps ss es = min (length ps) (min (length ss) (length es))

unfoldable pub segments_of : (phones : List ℤ) → (starts ends : List ℕ) → List Segment
segments_of ps ss es = map (segment_at ps ss es) (range 0 (segment_count ps ss es))
