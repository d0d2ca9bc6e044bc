-- By the verdict of what was built.
use mathlib.Core.Path.{◌∙◌, ap}
use Rattle.c_answers.specs.Forms.{built_verdict}
use Rattle.hirqazhom.proofs.hirqazhom_build.Goals as goal

pub returns : goal.returns
returns c = c.from.ensures ∙ ap built_verdict c.build.ensures
