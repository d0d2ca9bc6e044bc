-- The verdict on `won` and `lost` is that on the two cursors, which pass one word each in a turn, unless they are at one record.
use Prim.Native.Nat.{◌-◌}
use mathlib.Core.Path.{refl, sym, ap, ◌∙◌}
use mir.Syntax.{w32}
use mir.Val.{of_z}
use Rattle.model.specs.Ints.{bits_eq}
use Rattle.joins.proofs.Compare.{same_next, other_next, one_ends, next_is, ends_with, one_record}
use native.Mathlib.Omega.{arith}
use Rattle.joins.proofs.same_above.Goals as goal

pub returns-then-a-b : goal.returns-then-a-b
returns-then-a-b c =
    record { is = λ gs h ok. sym (c.loop-a.invariant.2 gs h ok ∙ one_record c.next_word-a.ensures c.next_word-b.ensures c.if-a-b.true gs h ok) }

pub returns-then-a-met : goal.returns-then-a-met
returns-then-a-met c =
    record { is = λ gs h ok. sym (c.loop-a.invariant.2 gs h ok ∙ ends_with c.next_word-b.ensures gs h ok (c.next_word-a.ensures.none c.if-a-met.true gs h ok)) }

pub returns-then-b-met : goal.returns-then-b-met
returns-then-b-met c =
    record {
      is = λ gs h ok. sym (c.loop-a.invariant.2 gs h ok
          ∙ (one_ends (c.next_word-b.ensures.none c.if-b-met.true gs h ok) (c.next_word-a.ensures.some c.if-a-met.false gs h ok)).1);
    }

pub returns-then-word_of : goal.returns-then-word_of
returns-then-word_of c =
    record {
      is = λ gs h ok. sym (c.loop-a.invariant.2 gs h ok ∙ other_next
          (next_is c.next_word-a.ensures gs h ok c.if-a-met.false c.word_of.ensures refl)
          (next_is c.next_word-b.ensures gs h ok c.if-b-met.false c.word_of-in-loop-a.ensures refl)
          (λ e. c.if-word_of.true (ap (of_z w32) e)));
    }

pub loop-a-preserved : goal.loop-a-preserved
loop-a-preserved c =
    let p = c.next_word-a in
    let q = c.next_word-b in
    let x = c.word_of in
    let y = c.word_of-in-loop-a in (
      omega (arith, c.requires.0.prev_low (p.result - 1) (omega (arith, p.ensures.low)), c.prev_of-a.ensures, p.ensures.low),
      omega (arith, c.requires.0.prev_low (q.result - 1) (omega (arith, q.ensures.low)), c.prev_of-b.ensures, q.ensures.low),
      λ gs h ok. c.loop-a.invariant.2 gs h ok ∙ same_next
          (next_is p.ensures gs h ok c.if-a-met.false x.ensures c.prev_of-a.ensures)
          (next_is q.ensures gs h ok c.if-b-met.false y.ensures c.prev_of-b.ensures)
          (bits_eq x.result y.result (record { sfits = x.type_inv }) (record { sfits = y.type_inv }) c.if-word_of.false),
    )
