-- `fst::check_arcs` meets its contract. The invariant: the whole answer is that of the arcs ahead.
use mathlib.Core.Path.{◌≡◌}
use mathlib.Core.List.{[]}
use Prim.Native.Nat.{◌≤◌}
use lib.ListN.{length}
use Rattle.fst.specs.Answer.{without_words}
use Rattle.fst.proofs.Arcs.{whole, ahead}
use Rattle.fst.proofs.check_arcs.Given as goal

abbrev pub invariant-loop-i : goal.invariant-loop-i
invariant-loop-i l =
    let g = without_words [] l.ilabels l.weights l.nextstates l.finals l.tid2pdf l.tid2phone l.pdfs in
    (l.i ≤ length l.ilabels) × (whole g l.state (length l.ilabels) ≡ ahead g l.state (length l.ilabels) l.i)
