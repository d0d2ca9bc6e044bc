-- `refusal_lines::read_line` meets its contract: the bytes are compared with the line of the one refusal that has their numbers.
use mathlib.Core.Path.{◌≡◌, sym, ap, subst, ◌∙◌}
use native.Mathlib.Omega.{arith}
use lib.ListN.{length, length-take}
use Rattle.std.proofs.lemmas.Bool.Decides.{Decides-eqb}
use Rattle.std.proofs.lemmas.Slice.Eq.{slice_eq-Decides}
use Rattle.lists.specs.Tests.{never}
use Rattle.decimals.specs.Stored.{stored_front}
use Rattle.refusals.specs.declared.Refusal.{Refusal}
use Rattle.refusal_lines.specs.Line.{line_of}
use Rattle.refusal_lines.specs.Answer.{Fits}
use Rattle.refusal_lines.proofs.Laws.{line-length, only_refusal, refusal_fits, line_not_empty, line_placed}
use Rattle.refusal_lines.proofs.read_line.Goals as goal
use Rattle.refusal_lines.proofs.read_line.Goals.{else-end-ne0-via-then-end-ne0+else-eq, else-end-ne0-via-else-end-ne0}

pub slice_bounds-line-end : goal.slice_bounds-line-end
slice_bounds-line-end c = omega (arith, line-length c.refusal_of-refusal.result)

pub slice_bounds-eq-end : goal.slice_bounds-eq-end
slice_bounds-eq-end c = omega (arith, line-length c.refusal_of-refusal.result, length-take c.compose-end.result c.compose-end.new.out)

pub returns-then-eq : goal.returns-then-eq
returns-then-eq c =
    let call = c.refusal_of-refusal in
    let found = c.numbers_in.result in
    let written = stored_front (line_of call.result) c.compose-end.ensures (omega (arith, line-length call.result)) in (
      record { fits = subst Fits (sym call.ensures) (refusal_fits found (omega arith) (omega arith) (omega arith)); placed = line_placed call.result (omega arith) },
      sym written ∙ (slice_eq-Decides Decides-eqb _ _ _ c.eq.ensures).0 c.if-eq.true,
    )

pub returns-else-end-ne0 : goal.returns-else-end-ne0
returns-else-end-ne0 c x r d =
    let y = c.refusal_of-refusal.result in
    let e : y ≡ x = only_refusal _ c.numbers_in.result x y c.numbers_in.ensures c.refusal_of-refusal.ensures r d in
    let written = stored_front (line_of y) c.compose-end.ensures (omega (arith, line-length y)) in
    elim c.else-end-ne0.branch [
      | else-end-ne0-via-then-end-ne0+else-eq w ↦ never (sym w.if-eq.false ∙ (slice_eq-Decides Decides-eqb _ _ _ w.eq.ensures).1 (written ∙ ap line_of e ∙ d))
      | else-end-ne0-via-else-end-ne0 w ↦ omega (arith, ap (λ (z : Refusal). length (line_of z)) e, line_not_empty x r)
    ]
