-- `fst::check_arcs` meets its contract. The invariant: the whole answer is that of the arcs ahead.
use borrow.Author.Rules.{rules}
use mathlib.Core.Path.{◌∙◌, ap}
use native.Mathlib.Omega.{arith}
use lib.IntN.{pos}
use lib.ListN.{get_or}
use mir.Syntax.{w32}
use mir.Val.{of_z, to_z}
use Rattle.std.specs.Prelude.{Err}
use Rattle.model.specs.Ints.{back}
use Rattle.fst.proofs.Arcs.{arc_refused, arc_passed, arc_read}
use Rattle.fst.proofs.check_arcs.Goals as goal

pub returns-in-Err : goal.returns-in-Err
returns-in-Err c =
    let l = c.loop-i in
    let a = c.args in
    let z = get_or a.ilabels.now l.i (pos 0) in
    let e = arc_read a.ilabels.now a.weights.now a.nextstates.now a.finals.now a.tid2pdf.now a.tid2phone.now a.pdfs a.state l.i (to_z w32 (of_z w32 z)) (back z (omega arith)) (omega arith) in
    ap Err c.at.ensures ∙ arc_refused _ a.state _ l.i l.invariant.1 (omega arith) _ e _ c.in-Err.ensures

pub loop-i-preserved : goal.loop-i-preserved
loop-i-preserved c =
    let l = c.loop-i in
    let a = c.args in
    let z = get_or a.ilabels.now l.i (pos 0) in
    let e = arc_read a.ilabels.now a.weights.now a.nextstates.now a.finals.now a.tid2pdf.now a.tid2phone.now a.pdfs a.state l.i (to_z w32 (of_z w32 z)) (back z (omega arith)) (omega arith) in
    (search rules, arc_passed _ a.state _ l.i l.invariant.1 (omega arith) _ e c.in_default.ensures)
