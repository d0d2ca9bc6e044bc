-- By the answer of what was fitted.

use Rattle.hirqazhom.proofs.hirqazhom_fit.Goals as goal

pub returns : goal.returns
returns c =
    record { answer = c.fit.result; is = c.fit.ensures; told = c.from.ensures }
