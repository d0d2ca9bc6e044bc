-- One store, at the place of the block's marks.
use Rattle.tokens.proofs.Marks.{mark_put}
use Rattle.tokens.proofs.set_mark.Goals as goal

pub returns : goal.returns
returns c = let s = c.args in mark_put s.tokens.now s.side s.s s.mark c.requires.0 c.requires.2
