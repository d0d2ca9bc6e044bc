-- The words above the next join down, with the kept arc's on top.
use Prim.Native.Nat.{◌-◌}
use Rattle.model.specs.Ints.{back}
use Rattle.below.proofs.Wayside.{kept_reach}
use borrow.Author.Rules.{rules}
use native.Mathlib.Omega.{arith}
use Rattle.below.proofs.kept_way.Goals as goal

pub kept_of-link-requires : goal.kept_of-link-requires
kept_of-link-requires c = let w = c.requires.0.records in let v = c.requires.0.labels in search rules

pub first_join-end-requires : goal.first_join-end-requires
first_join-end-requires c = (record { records = c.requires.0.records; labels = c.requires.0.labels; prev_low = c.requires.0.prev_low }, let z = c.requires.0.kept_low (c.args.r - 1) (omega arith) in let e = c.kept_of-link.ensures in omega arith)

pub hash_above-above-requires : goal.hash_above-above-requires
hash_above-above-requires c = (record { records = c.requires.0.records; labels = c.requires.0.labels; prev_low = c.requires.0.prev_low }, (let z = c.requires.0.kept_low (c.args.r - 1) (omega arith) in let e = c.kept_of-link.ensures in omega arith), let z = c.requires.0.kept_low (c.args.r - 1) (omega arith) in let e = c.kept_of-link.ensures in let l = c.first_join-end.ensures.low in omega arith)

pub kept_word_of-requires : goal.kept_word_of-requires
kept_word_of-requires c = let w = c.requires.0.records in let v = c.requires.0.labels in search rules

pub with_word-words-requires : goal.with_word-words-requires
with_word-words-requires c = let z = c.requires.0.kept_low (c.args.r - 1) (omega arith) in let e = c.kept_of-link.ensures in let l = c.hash_above-above.ensures.low c.first_join-end.ensures.low in let f = c.requires.0.few in omega arith

pub cost_of-cost-requires : goal.cost_of-cost-requires
cost_of-cost-requires c = let w = c.requires.0.records in let v = c.requires.0.labels in search rules

pub first_of-requires : goal.first_of-requires
first_of-requires c = let z = c.requires.0.kept_low (c.args.r - 1) (omega arith) in let e = c.kept_of-link.ensures in let l = c.first_join-end.ensures.low in omega arith

pub count_within-requires : goal.count_within-requires
count_within-requires c = let z = c.requires.0.kept_low (c.args.r - 1) (omega arith) in let e = c.kept_of-link.ensures in let l = c.first_join-end.ensures.low in omega arith

pub overflow_sub-result : goal.overflow_sub-result
overflow_sub-result c = let w = c.requires.0.records in let v = c.requires.0.labels in search rules

pub overflow_cast-result : goal.overflow_cast-result
overflow_cast-result c = let w = c.requires.0.records in let v = c.requires.0.labels in search rules

pub overflow_mul-result : goal.overflow_mul-result
overflow_mul-result c = let w = c.requires.0.records in let v = c.requires.0.labels in search rules

pub overflow_add-result : goal.overflow_add-result
overflow_add-result c = let w = c.requires.0.records in let v = c.requires.0.labels in search rules

pub offset_bounds-gaps-r : goal.offset_bounds-gaps-r
offset_bounds-gaps-r c = let w = c.requires.0.records in let v = c.requires.0.labels in search rules

pub bounds-gaps-r : goal.bounds-gaps-r
bounds-gaps-r c = let w = c.requires.0.records in let v = c.requires.0.labels in search rules

pub returns : goal.returns
returns c = kept_reach c.requires.0 c.requires.2 c.requires.3 c.kept_of-link.ensures c.first_join-end.ensures c.hash_above-above.ensures c.kept_word_of.ensures (back c.kept_word_of.result c.kept_word_of.type_inv) c.with_word-words.ensures c.first_of.ensures c.cost_of-cost.ensures c.count_within.ensures
