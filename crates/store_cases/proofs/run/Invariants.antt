-- Between two lines the store is ready, and the slices are as long as they were.
use mathlib.Core.Path.{◌≡◌}
use Prim.Native.Nat.{◌-◌}
use lib.ListN.{length}
use Rattle.records.specs.Layout.{store}
use Rattle.store_cases.specs.Ready.{Ready}
use Rattle.store_cases.proofs.run.Given as goal

abbrev pub invariant-loop-at : goal.invariant-loop-at
invariant-loop-at l =
    (length l.records ≡ length l.initial.records) × (length l.labels ≡ length l.initial.labels) × (length l.gaps ≡ length l.initial.gaps) × (length l.tokens ≡ length l.initial.tokens)
    × Ready (store l.records l.labels l.gaps) l.tokens l.z.used l.z.cap l.z.places

abbrev pub decreases-loop-at : goal.decreases-loop-at
decreases-loop-at l = l.end - l.at
