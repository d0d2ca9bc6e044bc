-- By the margin, then by the gap.
use mathlib.Core.Path.{◌∙◌}
use Rattle.model.specs.Ints.{back}
use Rattle.joins.specs.Keep.{keeps_of}
use Rattle.joins.proofs.is_kept.Goals as goal

pub returns-in_default : goal.returns-in_default
unfolding keeps_of
returns-in_default c = record { is = λ h ok. rw c.in_default.is }

pub returns-then-gap-m : goal.returns-then-gap-m
unfolding keeps_of
returns-then-gap-m c =
    record { is = λ h ok. c.worth_keeping.ensures.is h ok ∙ rw (back c.args.over c.ranges.over.sfits, c.in-Some.is, c.if-gap-m.true) }

pub returns-else-gap-m : goal.returns-else-gap-m
unfolding keeps_of
returns-else-gap-m c = record { is = λ h ok. rw (c.in-Some.is, c.if-gap-m.false) }
