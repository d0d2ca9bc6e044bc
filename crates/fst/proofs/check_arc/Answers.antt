-- `fst::check_arc` meets its contract: its four tests are the definition's, in the definition's order.
use borrow.Author.Tests.{le-leb, lt-leb}
use mathlib.Core.Path.{sym, ◌∙◌}
use mir.Syntax.{w32}
use mir.ValLaws.{to_z-of_z}
use Rattle.std.proofs.lemmas.Result.{err_from_is_err_and}
use Rattle.fst.proofs.Arcs.{no_target, by_label_lem, by_weight}
use Rattle.fst.proofs.check_arc.Goals as goal

pub returns-then-finals-nextstate : goal.returns-then-finals-nextstate
returns-then-finals-nextstate c = no_target _ _ _ _ _ _ _ (le-leb _ _ c.if-finals-nextstate.true)

pub returns-in_err-check_label : goal.returns-in_err-check_label
returns-in_err-check_label c =
    let p = err_from_is_err_and c.from_residual.result c.from_residual.ensures.1 in
    let l = rw (to_z-of_z w32 c.args.ilabel c.ranges.ilabel) at c.in_err-check_label.ensures in
    rw (p.1, p.2) (by_label_lem _ _ _ _ _ _ _ (lt-leb _ _ c.if-finals-nextstate.false) _ l)

-- the last test, of the weight, decides
pub returns-then-weight_wrong : goal.returns-then-weight_wrong
returns-then-weight_wrong c =
    let e = to_z-of_z w32 c.args.ilabel c.ranges.ilabel in
    let l = rw e at c.in_ok-check_label.ensures in
    let w = rw e at c.weight_wrong.ensures in
    by_weight _ _ _ _ _ _ _ (lt-leb _ _ c.if-finals-nextstate.false) l _ (sym c.if-weight_wrong.true ∙ w)

pub returns : goal.returns
returns c =
    let e = to_z-of_z w32 c.args.ilabel c.ranges.ilabel in
    let l = rw e at c.in_ok-check_label.ensures in
    let w = rw e at c.weight_wrong.ensures in
    by_weight _ _ _ _ _ _ _ (lt-leb _ _ c.if-finals-nextstate.false) l _ (sym c.if-weight_wrong.false ∙ w)
