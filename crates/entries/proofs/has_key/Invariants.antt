-- None so far has the words.
use Rattle.entries.specs.Laws.{NoKey}
use Rattle.entries.proofs.has_key.Given as goal

abbrev pub invariant-loop-e : goal.invariant-loop-e
invariant-loop-e l =
    NoKey l.hashes l.nexts l.from l.to l.b l.e
