-- The steps in turn.
use Rattle.std.proofs.Common.{sym, ◌∙◌, arith}
use Rattle.kept_readings.specs.Steps.{head_asks, head_nobody, head_token}
use Rattle.kept_readings.proofs.add_head.Goals as goal

pub link_at-link-requires : goal.link_at-link-requires
link_at-link-requires c = (c.requires.0, c.requires.3.tokens)

pub first_join-join-requires : goal.first_join-join-requires
first_join-join-requires c = (c.requires.1, let z = c.requires.3.low in let e = c.link_at-link.ensures in omega arith)

pub hash_above-above-requires : goal.hash_above-above-requires
hash_above-above-requires c = let z = c.requires.3.low in let e = c.link_at-link.ensures in let k = c.first_join-join.ensures.low in (c.requires.1, omega arith, omega arith)

pub candidate_at-requires : goal.candidate_at-requires
candidate_at-requires c = (c.requires.0, c.requires.3.tokens, c.requires.3.sums, c.requires.3.finals)

pub first_of-requires : goal.first_of-requires
first_of-requires c = let z = c.requires.3.low in let e = c.link_at-link.ensures in let k = c.first_join-join.ensures.low in let w = c.requires.2 in omega arith

pub count_of-requires : goal.count_of-requires
count_of-requires c = let z = c.requires.3.low in let e = c.link_at-link.ensures in let k = c.first_join-join.ensures.low in let w = c.requires.2 in omega arith

pub add_below-requires : goal.add_below-requires
add_below-requires c = (head_asks c.link_at-link.ensures c.first_join-join.ensures c.hash_above-above.ensures c.requires.3 _ _ c.first_of.ensures c.count_of.ensures, c.requires.4, c.requires.5)

pub returns-in-None : goal.returns-in-None
returns-in-None c = head_nobody c.link_at-link.ensures c.first_join-join.ensures c.hash_above-above.ensures (sym c.candidate_at.ensures ∙ c.in-None.is) c.requires.5

pub returns-in-Some : goal.returns-in-Some
returns-in-Some c = head_token c.link_at-link.ensures c.first_join-join.ensures c.hash_above-above.ensures (sym c.candidate_at.ensures ∙ c.in-Some.is) _ _ c.first_of.ensures c.count_of.ensures c.add_below.ensures
