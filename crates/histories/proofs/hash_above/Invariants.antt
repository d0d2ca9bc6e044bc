-- The words passed are hashed, and those from the cursor down are to come. The numbers fall.
use Rattle.histories.proofs.Steps.{Hashing}
use Rattle.histories.proofs.hash_above.Given as goal

abbrev pub invariant-loop-r : goal.invariant-loop-r
invariant-loop-r l = Hashing l.records l.labels l.used l.link l.end l.h l.r

abbrev pub decreases-loop-r : goal.decreases-loop-r
decreases-loop-r l = l.r
