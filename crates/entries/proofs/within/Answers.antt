-- The margin cuts none so far.
use Rattle.std.proofs.Common.{arith}
use Rattle.entries.specs.Laws.{uncut_next, cut_at, uncut_all}
use Rattle.entries.proofs.within.Goals as goal

pub returns-then-margin-b : goal.returns-then-margin-b
returns-then-margin-b c = cut_at _ _ _ c.args.w c.loop-i.invariant c.by_way-b.result c.loop-i-test.true c.by_way-b.ensures c.if-margin-b.true

pub loop-i-preserved : goal.loop-i-preserved
loop-i-preserved c = uncut_next _ _ _ c.args.w c.loop-i.invariant c.by_way-b.result c.loop-i-test.true c.by_way-b.ensures c.if-margin-b.false

pub returns : goal.returns
returns c = uncut_all _ _ _ c.args.w c.loop-i.invariant (let z = c.loop-i.invariant.few in let y = c.loop-i-test.false in omega arith)
