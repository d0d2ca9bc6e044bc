-- By whether there is a token.
use Rattle.ranking.specs.Listed.{put_nobody, put_token}
use Rattle.ranking.proofs.put_ranked.Goals as goal

pub key_of_rank-requires : goal.key_of_rank-requires
key_of_rank-requires c = c.requires.known _ c.in-Some.is

pub returns-in-None : goal.returns-in-None
returns-in-None c = put_nobody c.in-None.is

pub returns-in-Some : goal.returns-in-Some
returns-in-Some c = put_token _ _ c.requires c.in-Some.is c.key_of_rank.ensures
