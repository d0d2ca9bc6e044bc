-- `listen::hear_frames` is safe and ends: between the frames it holds what the last one left.
use mathlib.Core.Path.{◌∙◌}
use Rattle.stores.specs.Rep.{lent, lens_then}
use Rattle.decoder.proofs.Held.{held_asked}
use Rattle.listen.specs.Held.{frame_asked, frame_hears}
use native.Mathlib.Omega.{arith}
use Rattle.listen.proofs.hear_frames.Goals as goal

pub frame-requires : goal.frame-requires
frame-requires c = frame_asked c.loop-i.invariant.1

pub overflow_step-i : goal.overflow_step-i
overflow_step-i c = record { fits = omega (arith, c.loop-i-test.true) }

pub loop-i-preserved : goal.loop-i-preserved
loop-i-preserved c =
    let F = c.frame.ensures in
    let I = c.loop-i.invariant in
    (omega (arith, c.loop-i-test.true), frame_hears F c.in-Done.is I.1, lens_then I.2 F.lent.stores, record { same_length = F.lent.queue.same_length ∙ I.3.same_length }, record { same_length = F.scratch.same_length ∙ I.4.same_length })

pub write_best-requires : goal.write_best-requires
write_best-requires c = (held_asked c.loop-i.invariant.1.held).best
