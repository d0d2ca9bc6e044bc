-- The kept readings in order, of each word list one of both, merged.
use native.Mathlib.Omega.{arith}
use Rattle.listing.specs.Joining.{order_asks, settle_asks, merge_asks, with_is}
use Rattle.listing.proofs.list_with.Goals as goal

pub order_kept-requires : goal.order_kept-requires
order_kept-requires c = order_asks c.requires.0 c.requires.0.keys_long.1 c.requires.0.order_long c.requires.0.first_long c.requires.0.second_long

pub settle-left-requires : goal.settle-left-requires
settle-left-requires c = (settle_asks c.requires.0 c.order_kept.ensures (let u = c.requires.0.order_long in let x = c.order_kept.auto.order in omega arith) (let u = c.requires.0.keys_long.0 in let x = c.order_kept.auto.keys in omega arith) c.requires.0.places_long c.requires.0.gone_long (let u = c.requires.0.first_long in let x = c.order_kept.auto.ra in omega arith), c.requires.1)

pub merge_lists-requires : goal.merge_lists-requires
merge_lists-requires c = merge_asks c.requires.0 c.order_kept.ensures (let u = c.requires.0.order_long in let x = c.order_kept.auto.order in omega arith) c.settle-left.ensures c.requires.0.list_long c.settle-left.auto.own c.settle-left.auto.order

pub returns : goal.returns
returns c = with_is c.requires.0 c.order_kept.ensures (let u = c.requires.0.order_long in let x = c.order_kept.auto.order in omega arith) c.settle-left.ensures (let u = c.requires.0.list_long in let x = c.merge_lists.auto.list in omega arith) c.merge_lists.ensures
