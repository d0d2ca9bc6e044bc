-- The records above the one at hand have handed their marks on.
use mathlib.Core.Path.{◌≡◌}
use Prim.Native.Nat.{◌+◌, ◌-◌}
use Rattle.compaction.proofs.Marking.{handed_none, handed_next, handed_all, same_prev, same_kept_lem}
use native.Mathlib.Omega.{arith}
use Rattle.compaction.proofs.spread.Goals as goal

pub loop-k-init : goal.loop-k-init
loop-k-init c = handed_none _ _

pub hand_on-requires : goal.hand_on-requires
hand_on-requires c =
    let k = c.loop-k.k - 1 in
    let e : k + 1 ≡ c.loop-k.k = omega arith in
    rw e (
      omega arith,
      omega arith,
      omega (arith, same_prev _ _ c.loop-k.invariant.same k, c.requires.1 k (omega arith)),
      omega (arith, same_kept_lem _ _ c.loop-k.invariant.same k, c.requires.2 k (omega arith)),
    )

pub loop-k-preserved : goal.loop-k-preserved
loop-k-preserved c =
    let o = c.hand_on in
    let k = c.loop-k.k in
    let e : k - 1 + 1 ≡ k = omega arith in
    handed_next _ _ _ _ k (omega arith) (omega arith) (c.requires.1 (k - 1) (omega arith)) (c.requires.2 (k - 1) (omega arith)) c.loop-k.invariant (rw e at o.ensures)

pub returns : goal.returns
returns c = let e : c.loop-k.k ≡ 0 = omega arith in handed_all _ _ _ (rw e at c.loop-k.invariant)
