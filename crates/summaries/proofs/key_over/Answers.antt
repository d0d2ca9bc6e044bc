-- Of the hash with one more word only the hash itself is needed.
use mathlib.Core.Path.{ap, ◌∙◌}
use Rattle.model.specs.Ints.{back}
use Rattle.histories.specs.declared.Hashed.{Hashed}
use Rattle.summaries.specs.Key.{key_over}
use Rattle.summaries.proofs.Table.{key_with}
use Rattle.summaries.proofs.key_over.Goals as goal

pub returns : goal.returns
returns c = ap (λ (x : Hashed). x.hash) c.with_word-h.ensures ∙ key_with _ _ _ _ ∙ ap (key_over c.args.key) (back c.args.word c.well_formed.1.0)
