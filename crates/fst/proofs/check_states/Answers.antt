-- `fst::check_states` meets its contract. The invariant: the whole answer is that of the states ahead.
use borrow.Author.Rules.{rules}
use mathlib.Core.Path.{◌≡◌, refl, sym, ◌∙◌}
use Prim.Native.Nat.{◌≤◌}
use native.Mathlib.Omega.{arith}
use lib.ListN.{length}
use Rattle.std.proofs.lemmas.Result.{err_from_is_err_and}
use Rattle.lists.specs.Parts.{part_length}
use Rattle.fst.specs.Answer.{without_words, found_of}
use Rattle.fst.proofs.Offsets.{between}
use Rattle.fst.proofs.States.{arcs, part_checked, state_refused, state_passed, all_states_lem}
use Rattle.fst.proofs.check_states.Goals.{After-first_arc-e, After-check_arcs}
use Rattle.fst.proofs.check_states.Goals as goal

-- where the state's arcs begin and end
part : (c : After-first_arc-e) → (c.first_arc-a.result ≤ c.first_arc-e.result) × (c.first_arc-e.result ≤ length c.args.ilabels.now)
part c =
    between (length c.args.ilabels.now) c.args.offsets.now c.requires.rising c.loop-s.s (omega arith) c.first_arc-a.ensures c.first_arc-e.ensures

-- the answer of the state's part is the definition's for the state
of_state : (c : After-check_arcs) →
    let a = c.args in
    c.check_arcs.result ≡ found_of (arcs (without_words a.offsets.now a.ilabels.now a.weights.now a.nextstates.now a.finals.now a.tid2pdf.now a.tid2phone.now a.pdfs) a.offsets.now c.loop-s.s)
of_state c =
    let a = c.args in
    let b = between (length a.ilabels.now) a.offsets.now c.requires.rising c.loop-s.s (omega arith) c.first_arc-a.ensures c.first_arc-e.ensures in
    c.check_arcs.ensures ∙
    part_checked a.offsets.now a.ilabels.now a.weights.now a.nextstates.now a.finals.now a.tid2pdf.now a.tid2phone.now a.pdfs c.loop-s.s c.first_arc-a.result c.first_arc-e.result b.0 b.1 c.first_arc-a.ensures c.first_arc-e.ensures

pub slice_bounds-check_arcs-count : goal.slice_bounds-check_arcs-count
slice_bounds-check_arcs-count c = (part c).0

pub slice_bounds-check_arcs-start : goal.slice_bounds-check_arcs-start
slice_bounds-check_arcs-start c = (part (goal.at.slice_bounds-check_arcs-start c).After-first_arc-e).0

pub slice_bounds-check_arcs-end : goal.slice_bounds-check_arcs-end
slice_bounds-check_arcs-end c = (part (goal.at.slice_bounds-check_arcs-end c).After-first_arc-e).1

pub slice_bounds-check_arcs-count-in-loop-s : goal.slice_bounds-check_arcs-count-in-loop-s
slice_bounds-check_arcs-count-in-loop-s c = (part (goal.at.slice_bounds-check_arcs-count-in-loop-s c).After-first_arc-e).0

pub slice_bounds-check_arcs-start-in-loop-s : goal.slice_bounds-check_arcs-start-in-loop-s
slice_bounds-check_arcs-start-in-loop-s c = (part (goal.at.slice_bounds-check_arcs-start-in-loop-s c).After-first_arc-e).0

pub slice_bounds-check_arcs-end-in-loop-s : goal.slice_bounds-check_arcs-end-in-loop-s
slice_bounds-check_arcs-end-in-loop-s c =
    let b = part (goal.at.slice_bounds-check_arcs-end-in-loop-s c).After-first_arc-e in
    let n = c.requires.weights_long in
    omega arith

pub slice_bounds-check_arcs-count-in-loop-s-2 : goal.slice_bounds-check_arcs-count-in-loop-s-2
slice_bounds-check_arcs-count-in-loop-s-2 c = (part (goal.at.slice_bounds-check_arcs-count-in-loop-s-2 c).After-first_arc-e).0

pub slice_bounds-check_arcs-start-in-loop-s-2 : goal.slice_bounds-check_arcs-start-in-loop-s-2
slice_bounds-check_arcs-start-in-loop-s-2 c = (part (goal.at.slice_bounds-check_arcs-start-in-loop-s-2 c).After-first_arc-e).0

pub slice_bounds-check_arcs-end-in-loop-s-2 : goal.slice_bounds-check_arcs-end-in-loop-s-2
slice_bounds-check_arcs-end-in-loop-s-2 c =
    let b = part (goal.at.slice_bounds-check_arcs-end-in-loop-s-2 c).After-first_arc-e in
    let n = c.requires.nextstates_long in
    omega arith

pub check_arcs-requires : goal.check_arcs-requires
check_arcs-requires c =
    let a = c.first_arc-a.result in
    let e = c.first_arc-e.result in
    let b = part (goal.at.check_arcs-requires c).After-first_arc-e in
    let n = length c.args.ilabels.now in
    let l = part_length c.args.ilabels.now a e n refl b.0 b.1 in (
      part_length c.args.weights.now a e n c.requires.weights_long b.0 b.1 ∙ sym l,
      part_length c.args.nextstates.now a e n c.requires.nextstates_long b.0 b.1 ∙ sym l,
      omega arith,
    )

pub returns-in_err-check_arcs : goal.returns-in_err-check_arcs
returns-in_err-check_arcs c =
    let l = c.loop-s in
    let p = err_from_is_err_and c.from_residual.result c.from_residual.ensures.1 in
    rw (p.1, p.2) (state_refused _ _ l.s l.invariant.1 (omega arith) _ (sym c.in_err-check_arcs.was ∙ of_state (goal.at.returns-in_err-check_arcs c).After-check_arcs))

pub loop-s-preserved : goal.loop-s-preserved
loop-s-preserved c =
    let l = c.loop-s in
    (search rules, state_passed _ _ l.s l.invariant.1 (omega arith) (sym c.in_ok-check_arcs.was ∙ of_state (goal.at.loop-s-preserved c).After-check_arcs))

pub returns : goal.returns
returns c = let l = c.loop-s in all_states_lem _ _ l.s l.invariant.1 (omega arith)
