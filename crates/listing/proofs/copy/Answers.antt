-- Those passed are copied.
use mathlib.Core.Path.{refl, subst}
use Prim.Native.Nat.{ℕ, ◌-◌}
use native.Mathlib.Omega.{arith}
use lib.ListN.{length, length-set}
use Rattle.listing.specs.Listed.{Copied}
use Rattle.listing.specs.Copies.{copied_none, copied_more}
use Rattle.listing.proofs.copy.Goals as goal

pub loop-i-init : goal.loop-i-init
loop-i-init c = (omega arith, refl, copied_none _ _)

pub loop-i-preserved : goal.loop-i-preserved
loop-i-preserved c = let t = c.loop-i-test.true in let e = c.loop-i.invariant.1 in (omega arith, simp length-set e, copied_more c.loop-i.invariant.2 (omega arith) (omega arith))

pub returns : goal.returns
returns c = let t = c.loop-i-test.false in let z = c.loop-i.invariant.0 in subst (λ (k : ℕ). Copied c.args.from.now c.loop-i.to k) (omega arith) c.loop-i.invariant.2
