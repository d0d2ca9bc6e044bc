-- The ends are one where their records are; the words from the records skipped to decide then.
use Rattle.summaries.proofs.Same.{ends_apart, ends_one}
use Rattle.summaries.proofs.same_at.Goals as goal

pub returns-then-end-end_at : goal.returns-then-end-end_at
returns-then-end-end_at c = let p = c.requires in ends_apart p.1 p.2 p.3 c.end_at-end.ensures c.end_at.ensures c.if-end-end_at.true

pub returns : goal.returns
returns c = let p = c.requires in ends_one p.1 p.2 p.3 c.end_at-end.ensures c.end_at.ensures c.if-end-end_at.false c.skip_at.ensures c.skip_at-2.ensures c.same_above.ensures
