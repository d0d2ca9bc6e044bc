-- The path, its ends and its cost.
use mathlib.Core.Path.{sym, ap, subst, refl}
use native.Mathlib.Omega.{arith}
use Prim.Native.Nat.{ℕ, ◌*◌}
use mathlib.Core.List.{[]}
use lib.ListN.{set, length-set}
use Rattle.traceback.specs.Trail.{no_trail}
use Rattle.traceback.specs.Chain.{trail_from}
use Rattle.readings.specs.Paths.{PutAsks}
use Rattle.readings.specs.Fronts.{put_at}
use Rattle.readings.proofs.write_entry.Goals as goal

pub link_at-link-requires : goal.link_at-link-requires
link_at-link-requires c = (c.requires.path.side, c.requires.path.inside)

pub write_path-to-requires : goal.write_path-to-requires
write_path-to-requires c = (c.requires.path.walkable, let z = c.requires.path.low in let k = c.link_at-link.ensures in omega arith, subst (λ (l : ℕ). PutAsks (trail_from c.args.records.now c.args.labels.now [] c.args.n l no_trail) c.args.at c.args.words.now c.args.frames.now c.args.segments.now) (sym c.link_at-link.ensures) c.requires.put)

pub bounds-ends-i : goal.bounds-ends-i
bounds-ends-i c = let z = c.requires.ends in omega arith

pub bounds-ends-i-2 : goal.bounds-ends-i-2
bounds-ends-i-2 c = let z = c.requires.ends in let y = length-set c.args.ends.now (2 * c.args.i) c.write_path-to.result.words in omega arith

pub end_cost-requires : goal.end_cost-requires
end_cost-requires c = (c.requires.path.side, c.requires.sums, c.requires.finals)

pub returns : goal.returns
returns c = record {
  path = put_at c.args.records.now c.args.labels.now c.args.n c.link_at-link.ensures c.write_path-to.ensures;
  ends = refl;
  costs = ap (λ x. set c.args.costs.now c.args.i x) c.end_cost.ensures;
}
