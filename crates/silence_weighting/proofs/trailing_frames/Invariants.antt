-- `silence_weighting::trailing_frames` meets its contract: what is counted from the end, with what the segments before would give, is the whole.
use Rattle.silence_weighting.proofs.Segments.{segments_back}
use Prim.Native.Nat.{◌+◌, ◌*◌, ◌≤◌, ◌-◌}
use mathlib.Core.Path.{◌≡◌}
use mathlib.Core.List.{reverse}
use Rattle.model.specs.Silence.{trailing}
use Rattle.silence_weighting.specs.State.{segment_count, segments_of}
use Rattle.silence_weighting.proofs.trailing_frames.Given as goal

abbrev pub invariant-loop-i : goal.invariant-loop-i
invariant-loop-i l = (l.i ≤ segment_count l.phones l.starts l.ends) × ((l.n ≤ 65536 * (segment_count l.phones l.starts l.ends - l.i)) × (l.n + trailing l.silence_phones (segments_back l.phones l.starts l.ends l.i) ≡ trailing l.silence_phones (reverse (segments_of l.phones l.starts l.ends))))
