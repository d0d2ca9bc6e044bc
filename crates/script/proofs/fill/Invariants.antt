-- `script::fill` meets its contract: after i turns the first i words are in place.
use Rattle.script.proofs.Stores.{Filling}
use Rattle.script.proofs.fill.Given as goal

abbrev pub invariant-loop-i : goal.invariant-loop-i
invariant-loop-i g l = Filling g.T.Word.of_word l.bytes l.at l.n l.initial.out l.out l.i
