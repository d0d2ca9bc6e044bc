-- The ranked states, the first of each word list, and the first `max` of them.
use mathlib.Core.Path.{◌∙◌}
use native.Mathlib.Omega.{arith}
use Rattle.readings.specs.Paths.{lesser_is}
use Rattle.readings.specs.Answers.{rank_asks, states_ask}
use Rattle.readings.specs.Grouping.{states_listed}
use Rattle.readings.proofs.list_states.Goals as goal

pub ranked-all-requires : goal.ranked-all-requires
ranked-all-requires c = rank_asks c.requires.0 c.args.counts

pub firsts-m-requires : goal.firsts-m-requires
firsts-m-requires c = (states_ask c.requires.0 c.ranked-all.ensures c.ranked-all.auto.order, let x = c.ranked-all.ensures.few in let y = c.requires.0.keys_long in let z = c.ranked-all.auto.keys in omega arith, let x = c.ranked-all.ensures.few in let y = c.requires.0.places_long in omega arith, c.requires.1.keys, c.requires.1.skips)

pub returns : goal.returns
returns c = states_listed c.requires.0.read c.ranked-all.ensures c.firsts-m.ensures c.args.max (let y = c.requires.0.order_long in let z = c.ranked-all.auto.order in let w = c.firsts-m.auto.order in omega arith) (c.min.ensures ∙ lesser_is c.args.max c.firsts-m.result)
