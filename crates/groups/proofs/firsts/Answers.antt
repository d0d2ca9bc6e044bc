-- Keys, sorted places, what repeats dropped, closed up.
use native.Mathlib.Omega.{arith}
use Rattle.groups.specs.Laws.{drops_asks, firsts_are}
use Rattle.groups.proofs.firsts.Goals as goal

pub drop_repeats-requires : goal.drop_repeats-requires
drop_repeats-requires c = (drops_asks c.requires.0 c.fill_keys.ensures (let z = c.requires.1 in let k = c.fill_keys.auto.keys in omega arith) (let z = c.requires.2 in let k = c.fill_keys.auto.places in omega arith) (record { keys_long = let z = c.requires.1 in let k = c.fill_keys.auto.keys in let s = c.sort.auto.keys in omega arith; items_long = let z = c.requires.2 in let k = c.fill_keys.auto.places in let s = c.sort.auto.items in omega arith }) c.sort.ensures, c.requires.4)

pub returns : goal.returns
returns c = record { few = c.close_up.ensures.few; is = λ gs h ok. firsts_are c.requires.0 c.fill_keys.ensures (let z = c.requires.1 in let k = c.fill_keys.auto.keys in omega arith) (let z = c.requires.2 in let k = c.fill_keys.auto.places in omega arith) (record { keys_long = let z = c.requires.1 in let k = c.fill_keys.auto.keys in let s = c.sort.auto.keys in omega arith; items_long = let z = c.requires.2 in let k = c.fill_keys.auto.places in let s = c.sort.auto.items in omega arith }) c.sort.ensures c.drop_repeats.ensures (let z = c.requires.0.long in let k = c.drop_repeats.auto.order in omega arith) c.close_up.ensures gs h ok }
