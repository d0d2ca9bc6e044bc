-- Its stores are the link's fields at its places.
use native.Mathlib.Numerals.{towards_suc}
use mir.Syntax.{w32}
use mir.ValLaws.{to_z-of_z}
use Rattle.records.specs.Puts.{link_put}
use native.Mathlib.Omega.{arith}
use lib.ListN.{length-set}
use Rattle.records.proofs.put_link.Goals as goal

pub bounds-records-i-2 : goal.bounds-records-i-2
bounds-records-i-2 c = simp length-set (omega arith)

pub bounds-records-i-3 : goal.bounds-records-i-3
bounds-records-i-3 c = simp length-set (omega arith)

pub bounds-records-i-4 : goal.bounds-records-i-4
bounds-records-i-4 c = simp length-set (omega arith)

pub returns : goal.returns
returns c = link_put _ _ _ _ _ _ _ _ _ (omega arith) (omega arith) (simp towards_suc) (simp (towards_suc, to_z-of_z w32 c.args.word c.ranges.word))
