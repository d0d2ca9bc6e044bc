-- The joins above the one at hand have marked what they lead to.
use mathlib.Core.Path.{refl, ◌∙◌}
use mathlib.Core.Path.{◌≡◌}
use Prim.Native.Nat.{◌+◌, ◌-◌}
use Rattle.below.proofs.Marking.{handed_none, handed_next, handed_all}
use native.Mathlib.Omega.{arith}
use Rattle.below.proofs.want_below.Goals as goal

pub loop-k-init : goal.loop-k-init
loop-k-init c = (refl, handed_none _ _ _ _ _ _)

pub loop-k-preserved : goal.loop-k-preserved
loop-k-preserved c = let e : c.loop-k.k - 1 + 1 ≡ c.loop-k.k = let t = c.loop-k-test.true in omega arith in
    (c.want_ways.auto.lists ∙ c.loop-k.invariant.0, handed_next _ _ _ _ _ _ _ _ c.loop-k.k c.requires.0 c.loop-k-test.true c.loop-k.auto.k c.loop-k.invariant.1 (rw e at c.want_ways.ensures))

pub returns : goal.returns
returns c = let e : c.loop-k.k ≡ 0 = let t = c.loop-k-test.false in omega arith in handed_all _ _ _ _ _ _ _ (rw e at c.loop-k.invariant.1)
