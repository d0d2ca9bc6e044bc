-- What is written, and the words from the cursor down, which are still to come.
use Rattle.routes.specs.Written.{Writing}
use Rattle.routes.proofs.write_words.Given as goal

abbrev pub invariant-loop-k : goal.invariant-loop-k
invariant-loop-k l =
    Writing l.records l.labels l.route l.link l.n l.initial.words l.words l.r l.k
