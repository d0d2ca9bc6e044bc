-- The records passed have their lists.
use mathlib.Core.Path.{◌≡◌}
use lib.ListN.{length}
use Rattle.below.proofs.Filled.{DoneTo}
use Rattle.below.proofs.fill_lists.Given as goal

abbrev pub invariant-loop-k : goal.invariant-loop-k
invariant-loop-k l =
    (length l.lists ≡ length l.initial.lists) × (length l.hashes ≡ length l.initial.hashes) × (length l.nexts ≡ length l.initial.nexts) × (length l.sums ≡ length l.initial.sums) × DoneTo l.records l.labels l.gaps l.used l.margin l.cap l.initial.lists l.lists l.hashes l.nexts l.sums l.places l.k l.free
