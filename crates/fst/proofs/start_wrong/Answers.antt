-- `fst::start_wrong` meets its contract: its tests are the definition's.
use Rattle.model.specs.Graph.{start_wrong}
use borrow.Author.Tests.{lt-ltb, le-ltb}
use Rattle.fst.proofs.start_wrong.Goals as goal

pub returns-then-start-finals : goal.returns-then-start-finals
unfolding start_wrong
returns-then-start-finals c = simp (lt-ltb _ _ c.if-start-finals.true)

pub returns : goal.returns
unfolding start_wrong
returns c = simp (le-ltb _ _ c.if-start-finals.false)
