-- By whether the path is traced.

use Rattle.reading_list.proofs.grown.Goals as goal

pub returns-then-traced : goal.returns-then-traced
returns-then-traced c = rw c.if-traced.true

pub returns : goal.returns
returns c = rw c.if-traced.false
