-- A word, or none.
use native.Mathlib.Omega.{arith}
use Rattle.model.specs.Ints.{nonzero_yes, nonzero_no}
use Rattle.routes.proofs.count_over.Goals as goal

pub returns-then-word-ne0 : goal.returns-then-word-ne0
returns-then-word-ne0 c = rw (nonzero_yes c.args.word c.if-word-ne0.true) (omega arith)

pub returns : goal.returns
returns c = rw (nonzero_no c.args.word c.ranges.word c.if-word-ne0.false) (omega arith)
