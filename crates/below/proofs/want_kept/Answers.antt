-- The margin's test.
use Prim.Native.Nat.{◌-◌}
use Rattle.below.proofs.Marking.{kept_cut, kept_wanted}
use borrow.Author.Rules.{rules}
use native.Mathlib.Omega.{arith}
use Rattle.below.proofs.want_kept.Goals as goal

pub cost_of-requires : goal.cost_of-requires
cost_of-requires c = let w = c.requires.0.records in search rules

pub kept_of-requires : goal.kept_of-requires
kept_of-requires c = let w = c.requires.0.records in search rules

pub want_end-requires : goal.want_end-requires
want_end-requires c = (record { records = c.requires.0.records; labels = c.requires.0.labels; prev_low = c.requires.0.prev_low }, (let z = c.requires.0.kept_low (c.args.r - 1) (omega arith) in let e = c.kept_of.ensures in omega arith), c.requires.4)

pub returns-then-cost_of-margin : goal.returns-then-cost_of-margin
returns-then-cost_of-margin c = kept_wanted _ _ c.cost_of.ensures c.if-cost_of-margin.true c.kept_of.ensures c.want_end.ensures

pub returns-else-cost_of-margin : goal.returns-else-cost_of-margin
returns-else-cost_of-margin c = kept_cut _ c.cost_of.ensures c.if-cost_of-margin.false
