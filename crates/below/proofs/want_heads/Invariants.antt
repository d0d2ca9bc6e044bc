-- The states passed have their joins marked.
use mathlib.Core.Path.{◌≡◌}
use Prim.Native.Nat.{◌≤◌, ◌-◌}
use lib.ListN.{length}
use Rattle.below.specs.Marks.{HeadsWanted}
use Rattle.below.proofs.want_heads.Given as goal

abbrev pub invariant-loop-i : goal.invariant-loop-i
invariant-loop-i l =
    (l.i ≤ l.n) × (length l.lists ≡ length l.initial.lists) × HeadsWanted l.tokens l.records l.labels l.side l.used l.heads l.i l.initial.lists l.lists

abbrev pub decreases-loop-i : goal.decreases-loop-i
decreases-loop-i l =
    l.n - l.i
