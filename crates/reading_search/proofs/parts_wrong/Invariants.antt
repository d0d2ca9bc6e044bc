-- `reading_search::parts_wrong` meets its contract: the test of all ends is that of the ends not yet passed.
use mathlib.Core.Path.{◌≡◌}
use lib.ListN.{drop}
use Rattle.model.specs.Search.{parts_wrong}
use Rattle.reading_search.proofs.parts_wrong.Given as goal

abbrev pub invariant-loop-end : goal.invariant-loop-end
invariant-loop-end l = parts_wrong 0 l.limit l.ends ≡ parts_wrong l.from l.limit (drop l.end-index l.ends)
