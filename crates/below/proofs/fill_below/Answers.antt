-- The wanted lists are those of the visited joins.
use Rattle.below.proofs.Filled.{lists_ask, below_is}
use native.Mathlib.Omega.{arith}
use Rattle.below.proofs.fill_below.Goals as goal

pub clear-requires : goal.clear-requires
clear-requires c = c.requires.1.lists_long

pub want_heads-requires : goal.want_heads-requires
want_heads-requires c = (c.requires.0, let z = c.requires.1.lists_long in let y = c.clear.auto.lists in omega arith)

pub want_below-requires : goal.want_below-requires
want_below-requires c = (c.requires.1.walkable, c.requires.1.gaps_long, let z = c.requires.1.lists_long in let y = c.clear.auto.lists in let x = c.want_heads.auto.lists in omega arith)

pub fill_lists-requires : goal.fill_lists-requires
fill_lists-requires c = lists_ask c.requires.0.long c.clear.ensures c.want_heads.ensures c.want_below.ensures c.args.cap c.requires.1.links_low c.requires.1.fair c.requires.1.h c.requires.1.stands c.requires.1.walkable c.requires.1.gaps_long (let z = c.requires.1.lists_long in let y = c.clear.auto.lists in let x = c.want_heads.auto.lists in let w = c.want_below.auto.lists in omega arith) c.requires.1.room c.requires.1.few

pub returns : goal.returns
returns c = below_is c.requires.0.long c.clear.ensures c.want_heads.ensures c.want_below.ensures c.args.cap c.requires.1.links_low c.requires.1.fair c.fill_lists.ensures
