-- Its stores are the join's fields at its places.
use native.Mathlib.Numerals.{towards_suc}
use Rattle.model.specs.Ints.{back}
use Rattle.records.specs.Puts.{join_put}
use native.Mathlib.Omega.{arith}
use lib.ListN.{length-set}
use Rattle.records.proofs.put_join.Goals as goal

pub bounds-records-i-2 : goal.bounds-records-i-2
bounds-records-i-2 c = simp length-set (omega arith)

pub bounds-records-i-3 : goal.bounds-records-i-3
bounds-records-i-3 c = simp length-set (omega arith)

pub bounds-records-i-4 : goal.bounds-records-i-4
bounds-records-i-4 c = simp length-set (omega arith)

pub bounds-records-i-5 : goal.bounds-records-i-5
bounds-records-i-5 c = simp length-set (omega arith)

pub bounds-records-i-6 : goal.bounds-records-i-6
bounds-records-i-6 c = simp length-set (omega arith)

pub bounds-records-i-7 : goal.bounds-records-i-7
bounds-records-i-7 c = simp length-set (omega arith)

pub bounds-labels-j : goal.bounds-labels-j
bounds-labels-j c = simp length-set (omega arith)

pub bounds-gaps-j-2 : goal.bounds-gaps-j-2
bounds-gaps-j-2 c = simp length-set (omega arith)

pub shape_of-records : goal.shape_of-records
shape_of-records c = simp length-set

pub returns : goal.returns
returns c = join_put _ _ _ _ _ _ _ _ _ c.args.k (omega arith) (omega arith) (omega arith) (simp towards_suc) (simp (towards_suc, back c.args.k.word c.struct_told-1.given.1.0.1)) (simp towards_suc)
