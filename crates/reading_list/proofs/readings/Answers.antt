-- The refusals one after the other; then the list, and what is written of it.
use mathlib.Core.Path.{refl, ◌∙◌}
use lib.ListN.{length}
use Rattle.places.specs.Places.{kept_few}
use Rattle.reading_list.specs.Scratch.{used_self, used_late}
use Rattle.reading_list.specs.Whole.{count_places, too_many_lem, many_listed, many_traced, items_of, read_full, list_asks, read_right}
use Rattle.std.proofs.lemmas.Result.{err_from_is_err_and}
use Rattle.reading_list.proofs.readings.Goals as goal

pub returns-then-listed-gt-MAX_LISTED : goal.returns-then-listed-gt-MAX_LISTED
returns-then-listed-gt-MAX_LISTED c = (too_many_lem (many_listed c.args.listed c.args.max c.if-listed-gt-MAX_LISTED.true), used_self _)

pub returns-then-max-gt-MAX_LISTED : goal.returns-then-max-gt-MAX_LISTED
returns-then-max-gt-MAX_LISTED c = (too_many_lem (many_traced c.args.listed c.args.max c.if-listed-gt-MAX_LISTED.false c.if-max-gt-MAX_LISTED.true), used_self _)

pub finals_count-counts-requires : goal.finals_count-counts-requires
finals_count-counts-requires c = (c.requires.0.stores.side, c.requires.0.stores.tokens)

pub fill-requires : goal.fill-requires
fill-requires c = let w = c.requires.0.stores.walkable in (record { records = w.records; labels = w.labels; prev_low = w.prev_low }, c.requires.1, c.requires.2)

pub list_readings-requires : goal.list_readings-requires
list_readings-requires c = (c.requires.0, c.if-listed-gt-MAX_LISTED.false, c.fill.ensures)

pub fill_counts-requires : goal.fill_counts-requires
fill_counts-requires c = (c.requires.0.stores.walkable, count_places c.requires.1 c.fill.auto.history_keys)

pub write_list-requires : goal.write_list-requires
write_list-requires c = (list_asks c.finals_count-counts.ensures (items_of c.in_ok-k.ensures) c.requires.0 (kept_few (length c.args.kept_hashes.now) (length c.args.kept_links.now) (length c.args.kept_sums.now) refl) c.list_readings.auto.route c.args.n, c.fill.ensures.skips, c.fill_counts.ensures)

pub returns-in_err-k : goal.returns-in_err-k
returns-in_err-k c = let p = err_from_is_err_and c.from_residual.result c.from_residual.ensures.1 in rw (p.1, p.2) (read_full c.finals_count-counts.ensures c.if-listed-gt-MAX_LISTED.false c.if-max-gt-MAX_LISTED.false c.in_err-k.ensures, used_late c.if-listed-gt-MAX_LISTED.false c.if-max-gt-MAX_LISTED.false (record { keys = record { same_length = c.list_readings.auto.keys }; places = record { same_length = c.list_readings.auto.places }; own = record { same_length = c.list_readings.auto.own }; heads = record { same_length = c.list_readings.auto.heads }; list = record { same_length = c.list_readings.auto.list }; lists = record { same_length = c.list_readings.auto.lists }; route = record { same_length = c.list_readings.auto.route }; history_keys = record { same_length = c.fill.auto.history_keys }; history_skips = record { same_length = c.fill.auto.history_skips }; entry_hashes = record { same_length = c.list_readings.auto.hashes }; entry_nexts = record { same_length = c.list_readings.auto.nexts }; entry_sums = record { same_length = c.list_readings.auto.costs }; kept_hashes = record { same_length = c.list_readings.auto.kept_hashes }; kept_links = record { same_length = c.list_readings.auto.kept_links }; kept_sums = record { same_length = c.list_readings.auto.kept_sums }; order = record { same_length = c.list_readings.auto.order } }))

pub returns : goal.returns
returns c = (read_right c.finals_count-counts.ensures (items_of c.in_ok-k.ensures) c.requires.0 c.if-listed-gt-MAX_LISTED.false c.if-max-gt-MAX_LISTED.false c.write_list.ensures, used_late c.if-listed-gt-MAX_LISTED.false c.if-max-gt-MAX_LISTED.false (record { keys = record { same_length = c.list_readings.auto.keys }; places = record { same_length = c.list_readings.auto.places }; own = record { same_length = c.list_readings.auto.own }; heads = record { same_length = c.list_readings.auto.heads }; list = record { same_length = c.list_readings.auto.list }; lists = record { same_length = c.list_readings.auto.lists }; route = record { same_length = c.write_list.auto.route ∙ c.list_readings.auto.route }; history_keys = record { same_length = c.fill_counts.auto.history_counts ∙ c.fill.auto.history_keys }; history_skips = record { same_length = c.fill.auto.history_skips }; entry_hashes = record { same_length = c.list_readings.auto.hashes }; entry_nexts = record { same_length = c.list_readings.auto.nexts }; entry_sums = record { same_length = c.list_readings.auto.costs }; kept_hashes = record { same_length = c.list_readings.auto.kept_hashes }; kept_links = record { same_length = c.list_readings.auto.kept_links }; kept_sums = record { same_length = c.list_readings.auto.kept_sums }; order = record { same_length = c.list_readings.auto.order } }))
