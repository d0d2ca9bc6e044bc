-- `silence_weighting::write_deltas` meets its contract: before each frame, to write what is left gives what is wanted.
use mathlib.Core.Path.{refl}
use Prim.Native.Nat.{◌<◌}
use native.Mathlib.Omega.{arith}
use Rattle.silence_weighting.proofs.Writing.{writing_starts, writing_ends, writing_next, fits_next, product_few}
use Rattle.silence_weighting.proofs.Steps.{times_few}
use Rattle.silence_weighting.proofs.write_deltas.Goals as goal

pub loop-f-init : goal.loop-f-init
loop-f-init c =
    let a = c.args in
    writing_starts a.w a.status.now a.weights.now a.frames.now a.deltas.now c.requires.sound.begins

pub put_frames-requires : goal.put_frames-requires
put_frames-requires c =
    let s = c.requires.sound in
    let l = c.loop-f in
    let t = c.step_at-s in
    let n = times_few c.args.w c.args.status.now l.weights l.previous l.f t.result t.ensures in
    let p = product_few l.f c.args.w.subsampling (omega arith) s.times in
    let room = fits_next _ _ _ _ _ _ _ _ _ _ _ l.invariant c.loop-f-test.true _ t.ensures in
    (omega arith, omega arith)

pub fill-requires : goal.fill-requires
fill-requires c =
    let room = fits_next _ _ _ _ _ _ _ _ _ _ _ c.loop-f.invariant c.loop-f-test.true _ c.step_at-s.ensures in
    omega arith

pub loop-f-preserved : goal.loop-f-preserved
loop-f-preserved c =
    let a = c.args in
    let l = c.loop-f in
    let t = c.step_at-s in
    let h : l.f < a.w.total = c.loop-f-test.true in
    writing_next a.w a.status.now a.weights.now a.frames.now a.deltas.now l.weights l.frames l.deltas l.at l.previous l.f l.invariant h t.result _ c.put_frames.new.frames c.fill.new.xs t.ensures refl c.put_frames.ensures c.fill.ensures

pub returns : goal.returns
returns c =
    let a = c.args in
    let l = c.loop-f in
    writing_ends a.w a.status.now a.weights.now a.frames.now a.deltas.now l.weights l.frames l.deltas l.at l.previous l.f c.loop-f-test.false l.invariant
