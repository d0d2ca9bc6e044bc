-- `shuffle::unshuffle` meets its contract: the first i numbers stand in the output. The loop is left by its first test alone.
use mathlib.Core.Path.{◌≡◌, sym, ◌∙◌}
use Prim.Native.Nat.{◌/◌}
use native.Mathlib.Omega.{arith}
use lib.ListN.{length}
use Rattle.shuffle.specs.Block.{unshuffled}
use Rattle.shuffle.proofs.Block.{done}
use Rattle.shuffle.proofs.Filling.{unshuffling_more, unshuffling_done}
use Rattle.shuffle.proofs.unshuffle.Goals as goal

pub loop-i-preserved : goal.loop-i-preserved
loop-i-preserved c =
    let block = c.args.block.now in
    let l = c.loop-i in
    (omega arith, omega arith, omega arith, unshuffling_more (length block / 4) block l.output l.i (omega arith) l.invariant.3)

pub returns-after-loop-i : goal.returns-after-loop-i
returns-after-loop-i c =
    let block = c.args.block.now in
    let l = c.loop-i in
    let e : l.i ≡ length block / 4 = omega arith in
    done unshuffled _ _ (sym c.is_wrong.ensures ∙ c.if-is_wrong.false) l.output (unshuffling_done _ block l.output (rw e at l.invariant.3))
