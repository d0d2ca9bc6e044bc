-- `replay::graphs::try_new` meets its contract: a run of calls stops at this record.
use mathlib.Core.Path.{refl}
use Rattle.replay.proofs.graphs.try_new.Goals as goal

pub returns-then-r-eq-GRAPH : goal.returns-then-r-eq-GRAPH
returns-then-r-eq-GRAPH c = c.turn_of.ensures _ refl

pub returns-then-r-eq-FIT : goal.returns-then-r-eq-FIT
returns-then-r-eq-FIT c = c.turn_of-then-r-eq-FIT.ensures _ refl
