-- The ranked states, and of their copy the first of each word list.
use native.Mathlib.Omega.{arith}
use Rattle.listing.specs.Finding.{rank_asks, states_ask}
use Rattle.listing.proofs.list_own.Goals as goal

pub ranked-all-requires : goal.ranked-all-requires
ranked-all-requires c = rank_asks c.requires.0.stores c.args.counts c.requires.0.keys_long c.requires.0.heads_long

pub firsts-m-requires : goal.firsts-m-requires
firsts-m-requires c = let x = c.ranked-all.ensures.few in (states_ask c.requires.0.stores c.ranked-all.ensures c.copy.ensures.is (let y = c.requires.0.own_long in let z = c.copy.auto.to in omega arith), let y = c.requires.0.keys_long in let z = c.ranked-all.auto.keys in omega arith, let y = c.requires.0.places_long in omega arith, c.requires.1.keys, c.requires.1.skips)

pub returns : goal.returns
returns c = record { ranked = c.ranked-all.ensures; before = _; copied = c.copy.ensures.is; firsts = c.firsts-m.ensures; room = let x = c.ranked-all.ensures.few in let w = c.firsts-m.ensures.few in let y = c.requires.0.own_long in let z = c.copy.auto.to in let v = c.firsts-m.auto.order in omega arith }
