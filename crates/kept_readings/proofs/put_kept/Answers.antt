-- Field by field.
use Rattle.std.proofs.Common.{arith, length-set}
use Rattle.kept_readings.specs.Laws.{kept_put_lem}
use Rattle.kept_readings.proofs.put_kept.Goals as goal

pub bounds-links-i-2 : goal.bounds-links-i-2
bounds-links-i-2 c = let z = c.requires.links in simp length-set (omega arith)

pub bounds-links-i-3 : goal.bounds-links-i-3
bounds-links-i-3 c = let z = c.requires.links in simp length-set (omega arith)

pub bounds-links-i-4 : goal.bounds-links-i-4
bounds-links-i-4 c = let z = c.requires.links in simp length-set (omega arith)

pub bounds-sums-i-2 : goal.bounds-sums-i-2
bounds-sums-i-2 c = let z = c.requires.sums in simp length-set (omega arith)

pub returns : goal.returns
returns c = kept_put_lem _ _ _ _ _ c.requires
