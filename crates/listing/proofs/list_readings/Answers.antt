-- The own groups, and where there is a margin what is kept beside them.
use mathlib.Core.Path.{refl, sym, ◌∙◌}
use native.Mathlib.Omega.{arith}
use lib.ListN.{length}
use Rattle.places.specs.Places.{kept_few}
use Rattle.listing.specs.Rooms.{entry_room, kept_room}
use Rattle.listing.specs.Alone.{own_alone}
use Rattle.listing.specs.Answer.{bound_asks, stores_kept, with_asks, is_full_lem, are_items_lem}
use Rattle.std.proofs.lemmas.Result.{err_from_is_err_and}
use Rattle.listing.proofs.list_readings.Goals as goal

pub list_own-r-requires : goal.list_own-r-requires
list_own-r-requires c = let p = c.requires in (record { gs = _; keeps = _; margin = _; stores = p.0.stores; keys_long = p.0.wide.keys; places_long = p.0.wide.places; own_long = p.0.wide.own; heads_long = p.0.wide.heads }, p.2)

pub is_listing-requires : goal.is_listing-requires
is_listing-requires c = tt

pub copy-requires : goal.copy-requires
copy-requires c = let o = c.list_own-r in (o.ensures.room, let x = o.ensures.firsts.few in let y = o.ensures.ranked.few in let z = c.requires.0.wide.list in omega arith)

pub returns-then-not-is_listing : goal.returns-then-not-is_listing
returns-then-not-is_listing c = let p = c.requires in own_alone p.0.stores.few c.list_own-r.ensures c.copy.ensures (let z = p.0.wide.list in let q = c.copy.auto.to in omega arith) _ _ _ _ (sym c.is_listing.ensures ∙ c.if-not-is_listing.true) _ _ _ _ _ _ _ _

pub bound_of-bound-requires : goal.bound_of-bound-requires
bound_of-bound-requires c = bound_asks c.requires.0.stores c.args.listed (sym c.is_listing.ensures ∙ c.if-not-is_listing.false) c.list_own-r.ensures

pub kept_places-most-requires : goal.kept_places-most-requires
kept_places-most-requires c = tt

pub find_kept-requires : goal.find_kept-requires
find_kept-requires c = let a = c.args in let p = c.requires in let o = c.list_own-r in (record { stores = stores_kept p.0.stores a.listed (sym c.is_listing.ensures ∙ c.if-not-is_listing.false); few = p.1; ranked = o.ensures.ranked; heads_long = (let z = p.0.wide.heads in let q = o.auto.heads in omega arith); keys_long = (let z = p.0.wide.keys in let q = o.auto.keys in omega arith); places_long = (let z = p.0.wide.places in let q = o.auto.places in omega arith); lists_long = p.0.wide.lists; room = kept_room (length a.kept_hashes.now) (length a.kept_links.now) (length a.kept_sums.now) c.kept_places-most.ensures refl refl refl }, p.2)

pub list_with-requires : goal.list_with-requires
list_with-requires c = let a = c.args in let p = c.requires in let o = c.list_own-r in let f = c.find_kept in let l = (sym c.is_listing.ensures ∙ c.if-not-is_listing.false) in let e = c.kept_places-most.ensures in let q = f.auto.keys ∙ o.auto.keys in (with_asks o.ensures c.bound_of-bound.ensures c.in_ok-n.ensures p.0.stores l p.1 (entry_room (length a.hashes.now) (length a.nexts.now) (length a.costs.now) refl f.auto.hashes f.auto.nexts f.auto.costs) (kept_few (length a.kept_hashes.now) (length a.kept_links.now) (length a.kept_sums.now) e) (kept_room (length a.kept_hashes.now) (length a.kept_links.now) (length a.kept_sums.now) e f.auto.kept_hashes f.auto.kept_links f.auto.kept_sums) (let z = p.0.wide.keys in omega arith, let z = p.0.wide.keys_kept in omega arith) (let z = p.0.wide.places in let q = f.auto.places ∙ o.auto.places in omega arith) (let z = p.0.wide.heads in let q = f.auto.heads ∙ o.auto.heads in omega arith) (let z = p.0.wide.order in omega arith) p.0.wide.route (let z = p.0.wide.lists in let q = f.auto.lists in omega arith) (let z = p.0.wide.list in omega arith), p.2.keys)

pub returns-in_err-n : goal.returns-in_err-n
returns-in_err-n c = let p = err_from_is_err_and c.from_residual.result c.from_residual.ensures.1 in rw (p.1, p.2) (is_full_lem c.list_own-r.ensures c.bound_of-bound.ensures c.in_err-n.ensures c.args.keeps c.requires.0.stores (sym c.is_listing.ensures ∙ c.if-not-is_listing.false) c.kept_places-most.ensures)

pub returns : goal.returns
returns c = let a = c.args in let p = c.requires in let o = c.list_own-r in let f = c.find_kept in let l = (sym c.is_listing.ensures ∙ c.if-not-is_listing.false) in let e = c.kept_places-most.ensures in are_items_lem o.ensures c.bound_of-bound.ensures c.in_ok-n.ensures a.keeps p.0.stores l (entry_room (length a.hashes.now) (length a.nexts.now) (length a.costs.now) refl f.auto.hashes f.auto.nexts f.auto.costs) (kept_room (length a.kept_hashes.now) (length a.kept_links.now) (length a.kept_sums.now) e f.auto.kept_hashes f.auto.kept_links f.auto.kept_sums) e c.list_with.ensures
