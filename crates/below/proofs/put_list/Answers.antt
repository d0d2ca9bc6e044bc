-- Two stores.
use lib.ListN.{length-set}
use Prim.Native.Nat.{◌-◌, ◌*◌}
use Rattle.below.proofs.Filled.{list_put_at}
use native.Mathlib.Omega.{arith}
use Rattle.below.proofs.put_list.Goals as goal

pub bounds-lists-r-2 : goal.bounds-lists-r-2
bounds-lists-r-2 c = rw (length-set c.args.lists.now ((c.args.r - 1) * 2) c.args.first) (let z = c.requires.1 in let y = c.requires.0 in omega arith)

pub returns : goal.returns
returns c = list_put_at c.args.lists.now c.args.r c.args.first c.args.count c.requires.0 c.requires.1 (length-set c.args.lists.now ((c.args.r - 1) * 2) c.args.first)
