-- `reading_search::find` meets its contract: the ends are judged first, and the search begins only where they are right.
use mathlib.Core.Path.{sym, ◌∙◌}
use Rattle.model.specs.Search.{first_reading}
use Rattle.reading_search.proofs.find.Goals as goal

pub returns-then-parts_wrong : goal.returns-then-parts_wrong
unfolding first_reading
returns-then-parts_wrong c = rw (sym c.parts_wrong.ensures ∙ c.if-parts_wrong.true)
