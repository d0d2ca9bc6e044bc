-- So many are passed over, one at a time.
use Rattle.routes.specs.Back.{Skipped}
use Rattle.routes.proofs.skip_words.Given as goal

abbrev pub invariant-loop : goal.invariant-loop
invariant-loop l =
    Skipped l.records l.labels l.route l.link l.counter l.r
