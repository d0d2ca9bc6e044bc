-- The whole answer is that of the records ahead.
use mathlib.Core.Path.{◌≡◌}
use lib.ListN.{drop}
use Rattle.model.specs.Path.{memℕ}
use Rattle.traceback.proofs.on_route.Given as goal

abbrev pub invariant-loop-join : goal.invariant-loop-join
invariant-loop-join l = memℕ l.r l.route ≡ memℕ l.r (drop l.join-index l.route)
