-- `reading_search::search` meets its contract: what is found among all readings is found among those not yet passed.
use Rattle.reading_search.proofs.Searching.{Searching}
use Rattle.reading_search.proofs.search.Given as goal

abbrev pub invariant-loop-reading : goal.invariant-loop-reading
invariant-loop-reading l = Searching l.word l.ends l.words l.from l.reading
