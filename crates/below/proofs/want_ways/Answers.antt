-- Two joins, where the record is wanted.
use Prim.Native.Nat.{◌-◌}
use Rattle.below.proofs.Marking.{ways_none, ways_wanted}
use borrow.Author.Rules.{rules}
use native.Mathlib.Omega.{arith}
use Rattle.below.proofs.want_ways.Goals as goal

pub count_of-requires : goal.count_of-requires
count_of-requires c = let w = c.requires.0.records in search rules

pub returns-then-count_of-eq0 : goal.returns-then-count_of-eq0
returns-then-count_of-eq0 c = ways_none _ c.count_of.ensures c.if-count_of-eq0.true

pub prev_of-requires : goal.prev_of-requires
prev_of-requires c = let w = c.requires.0.records in search rules

pub want_end-requires : goal.want_end-requires
want_end-requires c = (record { records = c.requires.0.records; labels = c.requires.0.labels; prev_low = c.requires.0.prev_low }, (let z = c.requires.0.prev_low (c.args.r - 1) (omega arith) in let e = c.prev_of.ensures in omega arith), c.requires.4)

pub want_kept-requires : goal.want_kept-requires
want_kept-requires c = (c.requires.0, c.requires.1, c.requires.2, c.requires.3, let z = c.want_end.auto.lists in let y = c.requires.4 in omega arith)

pub returns : goal.returns
returns c = ways_wanted _ _ _ c.count_of.ensures c.if-count_of-eq0.false c.requires.2 c.prev_of.ensures c.want_end.ensures c.want_kept.ensures
