-- The heads, the lists below them, and the map of what they keep.
use native.Mathlib.Omega.{arith}
use mathlib.Core.Path.{refl}
use lib.ListN.{length}
use Rattle.places.specs.Places.{entry_few}
use Rattle.listing.specs.Rooms.{entry_room}
use Rattle.listing.specs.Finding.{heads_list_asks, below_heads_ask, below_asked, fill_asks, below_as, none_found, many_found, all_found}
use Rattle.std.proofs.lemmas.Result.{err_from_is_err_and}
use Rattle.listing.proofs.find_kept.Goals as goal

pub list_heads-m-requires : goal.list_heads-m-requires
list_heads-m-requires c = (heads_list_asks c.requires.0.stores c.requires.0.ranked c.requires.0.heads_long c.requires.0.keys_long c.requires.0.places_long, c.requires.1)

pub entry_places-room-requires : goal.entry_places-room-requires
entry_places-room-requires c = tt

pub overflow_cast-listed : goal.overflow_cast-listed
overflow_cast-listed c = record { fits = let z = c.requires.0.few in omega arith }

pub overflow_add-listed : goal.overflow_add-listed
overflow_add-listed c = record { fits = let z = c.requires.0.few in omega arith }

pub fill_below-requires : goal.fill_below-requires
fill_below-requires c = (below_heads_ask c.requires.0.stores c.requires.0.ranked c.list_heads-m.ensures (let y = c.requires.0.heads_long in let z = c.list_heads-m.auto.heads in omega arith), below_asked c.requires.0.stores c.requires.0.ranked c.list_heads-m.ensures c.requires.0.lists_long (entry_room (length c.args.hashes.now) (length c.args.nexts.now) (length c.args.costs.now) c.entry_places-room.ensures refl refl refl) (entry_few (length c.args.hashes.now) (length c.args.nexts.now) (length c.args.costs.now) c.entry_places-room.ensures))

pub returns-in_err-ok_or : goal.returns-in_err-ok_or
returns-in_err-ok_or c = let p = err_from_is_err_and c.from_residual.result c.from_residual.ensures.1 in rw (p.1, p.2) (none_found c.list_heads-m.ensures c.entry_places-room.ensures c.fill_below.ensures c.in_err-ok_or.ensures.ok_part c.in_err-ok_or.ensures.value)

pub fill_kept-kept-requires : goal.fill_kept-kept-requires
fill_kept-kept-requires c = fill_asks c.requires.0.stores c.requires.0.ranked c.list_heads-m.ensures (let y = c.requires.0.heads_long in let z = c.list_heads-m.auto.heads in omega arith) (let y = c.requires.0.lists_long in let z = c.fill_below.auto.lists in omega arith) (entry_room (length c.args.hashes.now) (length c.args.nexts.now) (length c.args.costs.now) c.entry_places-room.ensures c.fill_below.auto.hashes c.fill_below.auto.nexts c.fill_below.auto.sums) (entry_few (length c.args.hashes.now) (length c.args.nexts.now) (length c.args.costs.now) c.entry_places-room.ensures) (below_as c.fill_below.ensures c.in_ok-ok_or.ensures.ok_part) c.requires.0.room

pub returns-in-Some : goal.returns-in-Some
returns-in-Some c = all_found c.list_heads-m.ensures c.entry_places-room.ensures (below_as c.fill_below.ensures c.in_ok-ok_or.ensures.ok_part) (rw c.in-Some.is at c.fill_kept-kept.ensures)

pub returns-in-None : goal.returns-in-None
returns-in-None c = many_found c.list_heads-m.ensures c.entry_places-room.ensures (below_as c.fill_below.ensures c.in_ok-ok_or.ensures.ok_part) (rw c.in-None.is at c.fill_kept-kept.ensures)
