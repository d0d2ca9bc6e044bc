-- `fst::shape_wrong` meets its contract: each of its tests is one of the definition's; where none of the first eight holds, the last decides.
use borrow.Author.Tests.{lt-ltb, le-ltb, eq-eqb, ne_eqb}
use mathlib.Core.Path.{◌≡◌, refl, sym, ◌∙◌}
use mathlib.Core.Bool.{Bool, true, false, ◌||◌}
use Prim.Native.Nat.{ℕ, suc, ◌-◌, ◌<◌, ◌≤◌}
use native.Mathlib.Numerals.{add-one}
use native.Mathlib.Omega.{arith}
use lib.Dec.{ltb}
use lib.ListN.{length}
use Rattle.model.specs.Graph.{shape_wrong}
use Rattle.fst.proofs.shape_wrong.Goals as goal

or-true : (b : Bool) → (b || true) ≡ true
or-true true = refl
or-true false = refl

-- entry 0 is no id
more-ids : (n : ℕ) → 65_537 < n → ltb 65_536 (n - 1) ≡ true
more-ids n h = lt-ltb 65_536 (n - 1) (omega arith)

no-more-ids : (n : ℕ) → n ≤ 65_537 → ltb 65_536 (n - 1) ≡ false
no-more-ids n h = le-ltb 65_536 (n - 1) (omega arith)

pub returns-then-states-gt-MAX_STATES : goal.returns-then-states-gt-MAX_STATES
unfolding shape_wrong
returns-then-states-gt-MAX_STATES c = simp (lt-ltb _ _ c.if-states-gt-MAX_STATES.true)

pub returns-then-arcs-gt-MAX_ARCS : goal.returns-then-arcs-gt-MAX_ARCS
unfolding shape_wrong
returns-then-arcs-gt-MAX_ARCS c = simp (lt-ltb _ _ c.if-arcs-gt-MAX_ARCS.true, or-true)

pub returns-then-tid2pdf-gt-MAX_TRANSITIONS : goal.returns-then-tid2pdf-gt-MAX_TRANSITIONS
unfolding shape_wrong
returns-then-tid2pdf-gt-MAX_TRANSITIONS c = simp (more-ids _ c.if-tid2pdf-gt-MAX_TRANSITIONS.true, or-true)

pub returns-then-tid2phone-gt-MAX_TRANSITIONS : goal.returns-then-tid2phone-gt-MAX_TRANSITIONS
unfolding shape_wrong
returns-then-tid2phone-gt-MAX_TRANSITIONS c = simp (more-ids _ c.if-tid2phone-gt-MAX_TRANSITIONS.true, or-true)

pub returns-then-offsets-states : goal.returns-then-offsets-states
unfolding shape_wrong
returns-then-offsets-states c = let a = c.args in simp (ne_eqb (length a.offsets.now) (suc (length a.finals.now)) (λ e. c.if-offsets-states.true (e ∙ sym (add-one (length a.finals.now)))), or-true)

pub returns-then-olabels-arcs : goal.returns-then-olabels-arcs
unfolding shape_wrong
returns-then-olabels-arcs c = simp (ne_eqb _ _ c.if-olabels-arcs.true, or-true)

pub returns-then-weights-arcs : goal.returns-then-weights-arcs
unfolding shape_wrong
returns-then-weights-arcs c = simp (ne_eqb _ _ c.if-weights-arcs.true, or-true)

pub returns-then-nextstates-arcs : goal.returns-then-nextstates-arcs
unfolding shape_wrong
returns-then-nextstates-arcs c = simp (ne_eqb _ _ c.if-nextstates-arcs.true, or-true)

pub returns : goal.returns
unfolding shape_wrong
returns c =
    let a = c.args in
    simp (
      le-ltb _ _ c.if-states-gt-MAX_STATES.false,
      le-ltb _ _ c.if-arcs-gt-MAX_ARCS.false,
      no-more-ids _ c.if-tid2pdf-gt-MAX_TRANSITIONS.false,
      no-more-ids _ c.if-tid2phone-gt-MAX_TRANSITIONS.false,
      eq-eqb (length a.offsets.now) (suc (length a.finals.now)) (c.if-offsets-states.false ∙ add-one (length a.finals.now)),
      eq-eqb _ _ c.if-olabels-arcs.false,
      eq-eqb _ _ c.if-weights-arcs.false,
      eq-eqb _ _ c.if-nextstates-arcs.false,
      c.runs.ensures,
    )
