-- No record that was passed is a join. The numbers fall.
use Rattle.std.proofs.Common.{◌-◌, sym, ◌∙◌, arith}
use Rattle.histories.specs.Laws.{join_at_lem, link_at_lem}
use Rattle.histories.proofs.Steps.{at_start_lem}
use Rattle.histories.proofs.first_join.Goals as goal

pub returns-then-is_join : goal.returns-then-is_join
returns-then-is_join c =
    let l = c.loop-r in
    record { low = l.invariant.0; is = λ gs h ok. sym (l.invariant.1 gs h ok ∙ join_at_lem ok (l.r - 1) (omega arith) (omega arith) (sym c.is_join.ensures ∙ c.if-is_join.true)) }

pub loop-r-preserved : goal.loop-r-preserved
loop-r-preserved c =
    let j = sym c.is_join.ensures ∙ c.if-is_join.false in (
      omega (arith, c.requires.0.prev_low (c.loop-r.r - 1) (omega arith), c.prev_of-r.ensures),
      λ gs h ok. c.loop-r.invariant.1 gs h ok ∙ link_at_lem ok (c.loop-r.r - 1) (omega arith) (omega arith) j ∙ simp (← c.prev_of-r.ensures),
    )

pub returns : goal.returns
returns c =
    let l = c.loop-r in
    record { low = l.invariant.0; is = λ gs h ok. sym (l.invariant.1 gs h ok ∙ at_start_lem ok c.loop-r-test.false) }
