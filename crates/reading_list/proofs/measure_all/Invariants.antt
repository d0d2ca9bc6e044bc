-- The sizes so far.
use mathlib.Core.Path.{◌≡◌}
use Prim.Native.Nat.{◌-◌, ◌≤◌}
use lib.ListN.{length}
use Rattle.reading_list.specs.Lines.{view, TotalsAre}
use Rattle.reading_list.proofs.measure_all.Given as goal

abbrev pub invariant-loop-i : goal.invariant-loop-i
invariant-loop-i l =
    (l.i ≤ l.k) × (length l.route ≡ length l.initial.route) × TotalsAre (view l.tokens l.sums l.finals l.records l.labels l.nexts l.kept_hashes l.kept_links l.kept_sums l.side l.used l.n l.counts) l.max l.list l.i l.total

abbrev pub decreases-loop-i : goal.decreases-loop-i
decreases-loop-i l =
    l.k - l.i
