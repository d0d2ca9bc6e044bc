-- `silence_weighting::check_segments` meets its contract: the segments passed are good, so a bad one is among those that are left.
use mathlib.Core.Path.{◌≡◌}
use Prim.Native.Nat.{◌≤◌}
use Rattle.lists.specs.Lists.{any}
use Rattle.model.specs.Silence.{bad_segment, bad_segments}
use Rattle.silence_weighting.specs.State.{segments_of, segment_count}
use Rattle.silence_weighting.proofs.Segments.{segments_from}
use Rattle.silence_weighting.proofs.check_segments.Given as goal

abbrev pub invariant-loop-i : goal.invariant-loop-i
invariant-loop-i l = (l.count ≡ segment_count l.phones l.starts l.ends) × ((l.i ≤ l.count) × (bad_segments (segments_of l.phones l.starts l.ends) ≡ any bad_segment (segments_from l.phones l.starts l.ends l.i)))
