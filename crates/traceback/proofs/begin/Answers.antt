-- By the phone, and by the one of the oldest segment.
use borrow.Author.Tests.{eq-eqb, ne_eqb}
use Rattle.traceback.specs.Chain.{head_on}
use Rattle.traceback.proofs.begin.Goals as goal

pub returns-then-phone-eq0 : goal.returns-then-phone-eq0
unfolding head_on
returns-then-phone-eq0 c = simp (eq-eqb _ _ c.if-phone-eq0.true)

pub returns-then-head-phone : goal.returns-then-head-phone
unfolding head_on
returns-then-head-phone c = simp (ne_eqb _ _ c.if-phone-eq0.false, eq-eqb _ _ c.if-head-phone.true) (λ i. record { count = c.args.head.count; phone = c.if-head-phone.true i; start = c.args.frame; end = c.args.head.end })

pub returns : goal.returns
unfolding head_on
returns c = simp (ne_eqb _ _ c.if-phone-eq0.false, ne_eqb _ _ c.if-head-phone.false)
