-- Where it can rank, by whether it has a join.
use Rattle.std.proofs.Common.{sym, ◌∙◌, arith}
use Rattle.kept_readings.specs.Steps.{cannot_rank, is-head}
use Rattle.kept_readings.proofs.is_head.Goals as goal

pub may_rank-requires : goal.may_rank-requires
may_rank-requires c = (c.requires.0, c.requires.2.tokens, c.requires.2.sums, c.requires.2.finals)

pub returns-then-not-may_rank : goal.returns-then-not-may_rank
returns-then-not-may_rank c = cannot_rank (sym c.may_rank.ensures ∙ c.if-not-may_rank.true)

pub link_at-link-requires : goal.link_at-link-requires
link_at-link-requires c = (c.requires.0, c.requires.2.tokens)

pub first_join-requires : goal.first_join-requires
first_join-requires c = (c.requires.1, let z = c.requires.2.low in let e = c.link_at-link.ensures in omega arith)

pub returns : goal.returns
returns c = is-head c.link_at-link.ensures c.first_join.ensures c.requires.2.low (sym c.may_rank.ensures ∙ c.if-not-may_rank.false)
