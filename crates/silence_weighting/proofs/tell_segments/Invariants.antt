-- `silence_weighting::tell_segments` meets its contract: the segments that are left, stored now, give the list that is wanted.
use mathlib.Core.Path.{◌≡◌}
use Prim.Native.Nat.{◌≤◌}
use lib.ListN.{length}
use Rattle.silence_weighting.specs.State.{segment_count, segments_of}
use Rattle.silence_weighting.specs.Parts.{told_to}
use Rattle.silence_weighting.proofs.Segments.{segments_from}
use Rattle.silence_weighting.proofs.tell_segments.Given as goal

abbrev pub invariant-loop-k : goal.invariant-loop-k
invariant-loop-k l = (l.k-end ≡ segment_count l.phones l.starts l.ends) × ((l.k ≤ l.k-end) × ((length l.status ≡ length l.initial.status) × (told_to l.silence_phones (segments_from l.phones l.starts l.ends l.k) l.decoded l.status ≡ told_to l.silence_phones (segments_of l.phones l.starts l.ends) l.decoded l.initial.status)))
