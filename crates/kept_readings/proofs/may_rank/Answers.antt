-- Where finals count, any can.
use Rattle.std.proofs.Common.{ap, ◌∙◌}
use Rattle.kept_readings.specs.Heads.{best_within}
use Rattle.kept_readings.proofs.may_rank.Goals as goal

pub returns-then-counts : goal.returns-then-counts
returns-then-counts c = simp c.if-counts.true

pub candidate_at-requires : goal.candidate_at-requires
candidate_at-requires c = (c.requires.0, c.requires.1, c.requires.2, c.requires.3)

pub returns : goal.returns
returns c = c.best_within.ensures ∙ ap (best_within c.args.bound) c.candidate_at.ensures ∙ simp c.if-counts.false
