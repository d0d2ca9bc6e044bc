-- By where the histories meet.
use mathlib.Core.Path.{sym, ap, ◌∙◌}
use mathlib.Core.Bool.{not}
use Rattle.model.specs.Ints.{back}
use Rattle.joins.proofs.worth_keeping.Goals as goal

pub returns-in-Some : goal.returns-in-Some
returns-in-Some c =
    let m = rw c.in-Some.is at c.meet.ensures in
    record { is = λ h ok. ap not (c.same_words.ensures.is c.args.gaps.now h ok) ∙ rw (back c.args.over c.ranges.over.sfits) (sym (m.worth_is h c.args.over ok)) }
