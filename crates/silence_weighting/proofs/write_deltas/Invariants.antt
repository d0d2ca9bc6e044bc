-- `silence_weighting::write_deltas` meets its contract: before each frame, to write what is left gives what is wanted.
use Rattle.silence_weighting.proofs.Writing.{Writing}
use Rattle.silence_weighting.proofs.write_deltas.Given as goal

abbrev pub invariant-loop-f : goal.invariant-loop-f
invariant-loop-f l = Writing l.w l.status l.initial.weights l.initial.frames l.initial.deltas l.weights l.frames l.deltas l.at l.previous l.f
