-- Each turn puts a link on, on a record that there is.
use mathlib.Core.Path.{◌≡◌}
use Prim.Native.Nat.{◌≤◌}
use lib.Ieee.{Float}
use mathlib.Core.List.{List}
use lib.ListN.{length}
use Rattle.records.specs.Layout.{store}
use Rattle.store_cases.specs.Ready.{RecordsPut}
use Rattle.store_cases.proofs.link_on.Given as goal

abbrev pub invariant-loop : goal.invariant-loop
invariant-loop l =
    (l.last ≤ l.n) × (l.n ≤ l.cap) × (length l.records ≡ length l.initial.records) × (length l.labels ≡ length l.initial.labels) × ((gs : List Float) → RecordsPut (store l.initial.records l.initial.labels gs) (store l.records l.labels gs) l.used l.n l.cap)
