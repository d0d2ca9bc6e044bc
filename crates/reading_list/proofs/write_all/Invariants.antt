-- The readings so far.
use mathlib.Core.Path.{◌≡◌}
use Prim.Native.Nat.{◌-◌}
use lib.ListN.{length}
use Rattle.reading_list.specs.Outputs.{outputs}
use Rattle.reading_list.specs.Lines.{view}
use Rattle.reading_list.specs.Writing.{Going}
use Rattle.reading_list.proofs.write_all.Given as goal

abbrev pub invariant-loop-i : goal.invariant-loop-i
invariant-loop-i l =
    (length l.route ≡ length l.initial.route) × Going (view l.tokens l.sums l.finals l.records l.labels l.nexts l.kept_hashes l.kept_links l.kept_sums l.side l.used l.n l.counts) l.max l.list l.k l.i l.at (outputs l.initial.words l.initial.frames l.initial.segments l.initial.numbers l.initial.costs) (outputs l.words l.frames l.segments l.numbers l.costs)

abbrev pub decreases-loop-i : goal.decreases-loop-i
decreases-loop-i l =
    l.k - l.i
