-- `shuffle::shuffle` meets its contract: the first i numbers have their bytes in the four parts of the output.
use mathlib.Core.Path.{◌≡◌, sym, ◌∙◌}
use Prim.Native.Nat.{◌/◌}
use native.Mathlib.Omega.{arith}
use lib.ListN.{length}
use Rattle.shuffle.specs.Block.{shuffled}
use Rattle.shuffle.proofs.Block.{done}
use Rattle.shuffle.proofs.Filling.{shuffling_more, shuffling_done}
use Rattle.shuffle.proofs.shuffle.Goals as goal

pub loop-i-preserved : goal.loop-i-preserved
loop-i-preserved c =
    let block = c.args.block.now in
    let l = c.loop-i in
    (omega arith, omega arith, shuffling_more (length block / 4) block l.output l.i (omega arith) l.invariant.2)

pub returns : goal.returns
returns c =
    let block = c.args.block.now in
    let l = c.loop-i in
    let e : l.i ≡ length block / 4 = omega arith in
    done shuffled _ _ (sym c.is_wrong.ensures ∙ c.if-is_wrong.false) l.output (shuffling_done _ block l.output (rw e at l.invariant.2))
