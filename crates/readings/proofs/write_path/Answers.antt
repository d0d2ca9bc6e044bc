-- The path in the parts that begin where the paths so far end.
use native.Mathlib.Omega.{arith}
use Rattle.readings.specs.Fronts.{part_fits, path_put}
use Rattle.readings.proofs.write_path.Goals as goal

pub measure-z-requires : goal.measure-z-requires
measure-z-requires c = (c.requires.0, c.requires.1)

pub write-requires : goal.write-requires
write-requires c = (c.requires.0, c.requires.1, c.measure-z.ensures, part_fits c.requires.2 c.measure-z.ensures)

pub overflow_add-result : goal.overflow_add-result
overflow_add-result c = record { fits = let z = c.requires.2.few.0 in let y = c.measure-z.ensures.few.0 in let q = c.requires.0.few in omega arith }

pub overflow_add-result-2 : goal.overflow_add-result-2
overflow_add-result-2 c = record { fits = let z = c.requires.2.few.1 in let y = c.measure-z.ensures.few.1 in let q = c.requires.0.few in omega arith }

pub returns : goal.returns
returns c = path_put c.requires.2 c.measure-z.ensures c.write.ensures
