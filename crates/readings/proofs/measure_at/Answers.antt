-- The walk from the token's newest record.
use mathlib.Core.Path.{subst}
use native.Mathlib.Omega.{arith}
use Prim.Native.Nat.{ℕ}
use mathlib.Core.List.{[]}
use Rattle.traceback.specs.Trail.{no_trail}
use Rattle.traceback.specs.Chain.{trail_from, SizeIs}
use Rattle.readings.proofs.measure_at.Goals as goal

pub link_at-link-requires : goal.link_at-link-requires
link_at-link-requires c = (c.requires.side, c.requires.inside)

pub measure-requires : goal.measure-requires
measure-requires c = (c.requires.walkable, let z = c.requires.low in let k = c.link_at-link.ensures in omega arith)

pub returns : goal.returns
returns c = subst (λ (l : ℕ). SizeIs (trail_from c.args.records.now c.args.labels.now [] c.args.n l no_trail) c.args.used c.measure.result) c.link_at-link.ensures c.measure.ensures
