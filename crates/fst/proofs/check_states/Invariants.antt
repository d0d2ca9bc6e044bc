-- `fst::check_states` meets its contract. The invariant: the whole answer is that of the states ahead.
use mathlib.Core.Path.{◌≡◌}
use Prim.Native.Nat.{◌≤◌}
use lib.ListN.{length, drop}
use Rattle.model.specs.Graph.{check_states}
use Rattle.fst.specs.Answer.{without_words}
use Rattle.fst.proofs.check_states.Given as goal

abbrev pub invariant-loop-s : goal.invariant-loop-s
invariant-loop-s l =
    (l.s ≤ length l.finals) × (check_states (without_words l.offsets l.ilabels l.weights l.nextstates l.finals l.tid2pdf l.tid2phone l.pdfs) 0 l.offsets ≡ check_states (without_words l.offsets l.ilabels l.weights l.nextstates l.finals l.tid2pdf l.tid2phone l.pdfs) l.s (drop l.s l.offsets))
