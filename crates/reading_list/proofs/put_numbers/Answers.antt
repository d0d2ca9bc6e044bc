-- One number after the other.
use native.Mathlib.Omega.{arith}
use Prim.Native.Nat.{◌*◌}
use lib.ListN.{length-set}
use Rattle.reading_list.specs.Fronts.{put_five}
use Rattle.reading_list.proofs.put_numbers.Goals as goal

pub bounds-numbers-i-2 : goal.bounds-numbers-i-2
bounds-numbers-i-2 c = simp length-set (omega arith)

pub bounds-numbers-i-3 : goal.bounds-numbers-i-3
bounds-numbers-i-3 c = simp length-set (omega arith)

pub bounds-numbers-i-4 : goal.bounds-numbers-i-4
bounds-numbers-i-4 c = simp length-set (omega arith)

pub bounds-numbers-i-5 : goal.bounds-numbers-i-5
bounds-numbers-i-5 c = simp length-set (omega arith)

pub returns : goal.returns
returns c = rw (c.from.ensures, c.from-2.ensures) (put_five c.args.numbers.now (c.args.i * 5) c.args.to.words c.args.to.segments c.args.kept c.args.t.phone c.args.t.seq)
