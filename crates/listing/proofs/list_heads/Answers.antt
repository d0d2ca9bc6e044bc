-- Of each word list above the newest join the first, and of those the heads.
use Rattle.listing.specs.Finding.{heads_states, heads_ask}
use Rattle.listing.proofs.list_heads.Goals as goal

pub firsts-m-requires : goal.firsts-m-requires
firsts-m-requires c = (heads_states c.requires.0, c.requires.0.keys_long, c.requires.0.places_long, c.requires.1.keys, c.requires.1.skips)

pub keep_heads-requires : goal.keep_heads-requires
keep_heads-requires c = heads_ask c.requires.0 c.firsts-m.ensures c.firsts-m.auto.order

pub returns : goal.returns
returns c = record { between = _; k = _; firsts = c.firsts-m.ensures; are = c.keep_heads.ensures }
