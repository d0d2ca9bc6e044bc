-- `reading_search::few_have_word` meets its contract: the word is among the few just where it is among those not yet passed.
use Rattle.std.proofs.Common.{◌≡◌, drop}
use Rattle.model.specs.Search.{contains}
use Rattle.reading_search.proofs.few_have_word.Given as goal

abbrev pub invariant-loop-i : goal.invariant-loop-i
invariant-loop-i l = contains l.word l.few ≡ contains l.word (drop l.i l.few)
