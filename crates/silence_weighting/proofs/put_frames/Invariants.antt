-- `silence_weighting::put_frames` meets its contract: what is still to be stored, stored now, gives the list that is wanted.
use mathlib.Core.Path.{◌≡◌}
use Prim.Native.Nat.{◌+◌, ◌-◌}
use lib.Seq.{sets}
use Rattle.lists.specs.Lists.{range}
use Rattle.silence_weighting.proofs.put_frames.Given as goal

abbrev pub invariant-loop-k : goal.invariant-loop-k
invariant-loop-k l = sets l.frames (l.at + l.k) (range (l.number + l.k) (l.times - l.k)) ≡ sets l.initial.frames l.at (range l.number l.times)
