-- The states of the blocks passed have empty places, and no place of the other table was touched.
use Rattle.std.proofs.Common.{arith, length-set}
use Rattle.std.proofs.lemmas.Grind.{div_ceil_times}
use Rattle.tokens.proofs.Stores.{cleared_more}
use Rattle.tokens.proofs.clear.Goals as goal

pub loop-block-preserved : goal.loop-block-preserved
loop-block-preserved c = (simp length-set c.loop-block.invariant.0, cleared_more _ _ _ _ c.requires.0 (omega (arith, (div_ceil_times c.args.states 16 (omega arith)).1)) c.loop-block.invariant.1)
