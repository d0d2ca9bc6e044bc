-- Keys, sorted; of each word list one is dropped, and both are closed up.
use native.Mathlib.Omega.{arith}
use Rattle.listing.specs.Settling.{drops_ask, settled}
use Rattle.listing.proofs.settle.Goals as goal

pub fill_keys-requires : goal.fill_keys-requires
fill_keys-requires c = (c.requires.0.states, c.requires.0.keys_long, c.requires.0.places_long, c.requires.1)

pub sort-requires : goal.sort-requires
sort-requires c = let u = c.requires.0.keys_long in let v = c.requires.0.places_long in let x = c.fill_keys.auto.keys in let y = c.fill_keys.auto.places in record { keys_long = omega arith; items_long = omega arith }

pub drop_twins-requires : goal.drop_twins-requires
drop_twins-requires c = let u = c.requires.0.keys_long in let v = c.requires.0.places_long in let x = c.fill_keys.auto.keys in let y = c.fill_keys.auto.places in let s = c.sort.auto.keys in let t = c.sort.auto.items in drops_ask c.requires.0 c.fill_keys.ensures (omega arith) (omega arith) (record { keys_long = omega arith; items_long = omega arith }) c.sort.ensures

pub drop_gone-requires : goal.drop_gone-requires
drop_gone-requires c = let u = c.requires.0.gone_long in let x = c.drop_twins.auto.gone in (c.requires.0.states.long, omega arith)

pub close_up-own_left-requires : goal.close_up-own_left-requires
close_up-own_left-requires c = let u = c.requires.0.states.long in let x = c.drop_gone.auto.own in omega arith

pub close_up-kept_left-requires : goal.close_up-kept_left-requires
close_up-kept_left-requires c = let u = c.requires.0.order_long in let x = c.drop_twins.auto.order in omega arith

pub returns : goal.returns
returns c = settled c.requires.0 c.drop_twins.ensures c.drop_twins.auto.order c.drop_gone.ensures c.drop_gone.auto.own c.close_up-own_left.ensures c.close_up-kept_left.ensures
