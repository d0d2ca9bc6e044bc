-- One cost after the other.
use native.Mathlib.Omega.{arith}
use Prim.Native.Nat.{◌*◌}
use lib.ListN.{length-set}
use Rattle.reading_list.specs.Fronts.{put_four}
use Rattle.reading_list.proofs.put_costs.Goals as goal

pub bounds-costs-i-2 : goal.bounds-costs-i-2
bounds-costs-i-2 c = simp length-set (omega arith)

pub bounds-costs-i-3 : goal.bounds-costs-i-3
bounds-costs-i-3 c = simp length-set (omega arith)

pub bounds-costs-i-4 : goal.bounds-costs-i-4
bounds-costs-i-4 c = simp length-set (omega arith)

pub returns : goal.returns
returns c = put_four c.args.costs.now (c.args.i * 4) c.args.g.rank c.args.g.cost c.args.t.cost c.args.t.graph
