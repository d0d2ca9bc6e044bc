-- By the answer of the read.

use Rattle.hirqazhom.proofs.hirqazhom_alternatives.Goals as goal

pub returns : goal.returns
returns c = record { answer = c.alternatives.result; is = c.alternatives.ensures; told = c.from.ensures }
