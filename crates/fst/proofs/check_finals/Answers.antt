-- `fst::check_finals` meets its contract. The invariant: the whole answer is that of the weights ahead.
use borrow.Author.Rules.{rules}
use mathlib.Core.Path.{refl, ap, ◌∙◌}
use native.Mathlib.Omega.{arith}
use Rattle.std.specs.Prelude.{Err}
use Rattle.fst.proofs.Weights.{all_fair, unfair, fair}
use Rattle.fst.proofs.check_finals.Goals as goal

pub loop-s-init : goal.loop-s-init
loop-s-init c = (search rules, refl)

pub returns-then-final_wrong : goal.returns-then-final_wrong
returns-then-final_wrong c =
    let l = c.loop-s in
    ap Err c.at.ensures ∙ unfair _ l.s l.invariant.1 c.loop-s-test.true c.if-final_wrong.ensures

pub loop-s-preserved : goal.loop-s-preserved
loop-s-preserved c =
    let l = c.loop-s in
    (search rules, fair _ l.s l.invariant.1 c.loop-s-test.true c.if-final_wrong.ensures)

pub returns : goal.returns
returns c = all_fair _ c.loop-s.s c.loop-s.invariant.1 (omega arith)
