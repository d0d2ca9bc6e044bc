-- By the answer of the call.
use mathlib.Core.Path.{ap, ◌∙◌}
use Rattle.c_answers.specs.Forms.{answer_of}
use Rattle.hirqazhom.proofs.hirqazhom_set_keep.Goals as goal

pub returns : goal.returns
returns c = c.from.ensures ∙ ap answer_of c.set_keep.ensures
