-- The words above the next join down.
use lib.Ieee.{of_bits}
use Prim.Native.Nat.{◌-◌}
use Rattle.below.proofs.Wayside.{own_reach}
use native.Mathlib.Omega.{arith}
use Rattle.below.proofs.own_way.Goals as goal

pub first_join-end-requires : goal.first_join-end-requires
first_join-end-requires c = (c.requires.0, let z = c.requires.0.prev_low (c.args.r - 1) (omega arith) in let e = c.prev_of-link.ensures in omega arith)

pub hash_above-words-requires : goal.hash_above-words-requires
hash_above-words-requires c = (c.requires.0, (let z = c.requires.0.prev_low (c.args.r - 1) (omega arith) in let e = c.prev_of-link.ensures in omega arith), let z = c.requires.0.prev_low (c.args.r - 1) (omega arith) in let e = c.prev_of-link.ensures in let l = c.first_join-end.ensures.low in omega arith)

pub first_of-requires : goal.first_of-requires
first_of-requires c = let z = c.requires.0.prev_low (c.args.r - 1) (omega arith) in let e = c.prev_of-link.ensures in let l = c.first_join-end.ensures.low in omega arith

pub count_of-requires : goal.count_of-requires
count_of-requires c = let z = c.requires.0.prev_low (c.args.r - 1) (omega arith) in let e = c.prev_of-link.ensures in let l = c.first_join-end.ensures.low in omega arith

pub returns : goal.returns
unfolding of_bits
returns c = own_reach c.requires.0 c.requires.1 c.requires.2 c.prev_of-link.ensures c.first_join-end.ensures c.hash_above-words.ensures c.first_of.ensures c.count_of.ensures
