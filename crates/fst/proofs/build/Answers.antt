-- `fst::build` meets its contract: its four checks are the definition's, in the definition's order, and what it gives back fits since the shape was accepted.
use mathlib.Core.Path.{◌≡◌, sym, ◌∙◌, ap}
use mathlib.Core.Bool.{Bool}
use mathlib.Core.List.{List, []}
use Prim.Native.Nat.{ℕ}
use native.Mathlib.Omega.{arith}
use lib.IntN.{ℤ}
use lib.Ieee.{Float}
use Rattle.std.specs.Prelude.{Err}
use Rattle.std.proofs.lemmas.Result.{err_from_is_err_and}
use Rattle.model.specs.Graph.{Graph, shape_wrong, start_wrong}
use Rattle.model.proofs.Checked.{good_shape}
use Rattle.fst.specs.Answer.{graph_of, found_of}
use Rattle.fst.proofs.States.{words_unread}
use Rattle.fst.proofs.Whole.{shape_refused, start_refused, arc_refused, final_refused, accepted}
use Rattle.fst.proofs.build.Goals as goal

-- neither the start nor the count of pdfs counts in the shape, and the final weights alone in the start
module _ (os : List ℕ) (il ol : List ℤ) (ws : List Float) (ns : List ℕ) (fs : List Float) (p h : List ℤ) (st m : ℕ) where
  abbrev whole : Graph
  whole = graph_of os il ol ws ns fs p h st m

  shape_read : {r t : Bool} → r ≡ t → r ≡ shape_wrong (graph_of os il ol ws ns fs p h 0 0) → t ≡ shape_wrong whole
  unfolding shape_wrong
  shape_read e s = sym e ∙ s

  start_read : {r t : Bool} → r ≡ t → r ≡ start_wrong (graph_of [] [] [] [] [] fs [] [] st 0) → t ≡ start_wrong whole
  unfolding start_wrong
  start_read e s = sym e ∙ s

pub returns-then-shape_wrong : goal.returns-then-shape_wrong
returns-then-shape_wrong c =
    ap Err c.at.ensures ∙ shape_refused _ (shape_read _ _ _ _ _ _ _ _ c.args.start c.args.pdfs c.if-shape_wrong.true c.shape_wrong.ensures)

pub returns-then-start_wrong : goal.returns-then-start_wrong
returns-then-start_wrong c =
    let a = c.args in
    let s = shape_read _ _ _ _ _ _ _ _ a.start a.pdfs c.if-shape_wrong.false c.shape_wrong.ensures in
    ap Err c.at-then-start_wrong.ensures ∙ start_refused _ s (start_read _ _ _ _ _ _ _ _ _ _ c.if-start_wrong.true c.start_wrong.ensures)

pub check_states-requires : goal.check_states-requires
check_states-requires c =
    let a = c.args in
    let s = shape_read _ _ _ _ _ _ _ _ a.start a.pdfs c.if-shape_wrong.false c.shape_wrong.ensures in
    let h = good_shape _ (sym s) in
    record {
      states_few = h.states_few;
      arcs_few = h.arcs_few;
      offsets_long = h.offsets;
      weights_long = h.weights;
      nextstates_long = h.nextstates;
      rising = h.rising;
    }

pub check_finals-requires : goal.check_finals-requires
check_finals-requires c =
    let a = c.args in
    let s = shape_read _ _ _ _ _ _ _ _ a.start a.pdfs c.if-shape_wrong.false c.shape_wrong.ensures in
    (good_shape _ (sym s)).states_few

pub returns-in_err-check_states : goal.returns-in_err-check_states
returns-in_err-check_states c =
    let a = c.args in
    let s = shape_read _ _ _ _ _ _ _ _ a.start a.pdfs c.if-shape_wrong.false c.shape_wrong.ensures in
    let t = start_read _ _ _ _ _ _ _ _ _ _ c.if-start_wrong.false c.start_wrong.ensures in
    let w = ap found_of (words_unread a.offsets.now a.ilabels.now a.olabels.now a.weights.now a.nextstates.now a.finals.now a.tid2pdf.now a.tid2phone.now a.start a.pdfs) in
    let p = err_from_is_err_and c.from_residual.result c.from_residual.ensures.1 in
    rw (p.1, p.2) (arc_refused _ s t _ (sym c.in_err-check_states.was ∙ c.check_states.ensures ∙ w))

pub returns-in_err-check_finals : goal.returns-in_err-check_finals
returns-in_err-check_finals c =
    let a = c.args in
    let s = shape_read _ _ _ _ _ _ _ _ a.start a.pdfs c.if-shape_wrong.false c.shape_wrong.ensures in
    let t = start_read _ _ _ _ _ _ _ _ _ _ c.if-start_wrong.false c.start_wrong.ensures in
    let w = ap found_of (words_unread a.offsets.now a.ilabels.now a.olabels.now a.weights.now a.nextstates.now a.finals.now a.tid2pdf.now a.tid2phone.now a.start a.pdfs) in
    let p = err_from_is_err_and c.from_residual-in_err-check_finals.result c.from_residual-in_err-check_finals.ensures.1 in
    rw (p.1, p.2) (final_refused _ s t (sym c.in_ok-check_states.was ∙ c.check_states.ensures ∙ w) _ (sym c.in_err-check_finals.was ∙ c.check_finals.ensures))

pub overflow_cast-result : goal.overflow_cast-result
overflow_cast-result c =
    let a = c.args in
    let s = shape_read _ _ _ _ _ _ _ _ a.start a.pdfs c.if-shape_wrong.false c.shape_wrong.ensures in
    let h = good_shape _ (sym s) in
    omega arith

pub overflow_cast-result-2 : goal.overflow_cast-result-2
overflow_cast-result-2 c =
    let a = c.args in
    let s = shape_read _ _ _ _ _ _ _ _ a.start a.pdfs c.if-shape_wrong.false c.shape_wrong.ensures in
    let h = good_shape _ (sym s) in
    omega arith

pub returns : goal.returns
returns c =
    let a = c.args in
    let s = shape_read _ _ _ _ _ _ _ _ a.start a.pdfs c.if-shape_wrong.false c.shape_wrong.ensures in
    let t = start_read _ _ _ _ _ _ _ _ _ _ c.if-start_wrong.false c.start_wrong.ensures in
    let w = ap found_of (words_unread a.offsets.now a.ilabels.now a.olabels.now a.weights.now a.nextstates.now a.finals.now a.tid2pdf.now a.tid2phone.now a.start a.pdfs) in
    accepted _ s t (sym c.in_ok-check_states.was ∙ c.check_states.ensures ∙ w) (sym c.in_ok-check_finals.was ∙ c.check_finals.ensures)
