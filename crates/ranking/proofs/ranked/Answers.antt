-- The listed states, sorted by key.
use Rattle.std.proofs.Common.{◌∙◌}
use Rattle.ranking.specs.Ranking.{ranked_is}
use Rattle.ranking.proofs.ranked.Goals as goal

pub rank_all-n-requires : goal.rank_all-n-requires
rank_all-n-requires c = c.requires

pub returns : goal.returns
returns c = ranked_is c.requires (λ i. (c.type_inv.tokens i).fits) c.rank_all-n.ensures (record { keys_length = c.sort.auto.keys ∙ c.rank_all-n.auto.keys; items-length = c.sort.auto.items ∙ c.rank_all-n.auto.order }) c.sort.ensures
