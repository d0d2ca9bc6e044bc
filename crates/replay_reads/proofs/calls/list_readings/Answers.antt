-- `replay_reads::calls::list_readings` is safe: what is lent lies within the places.
use lib.ListN.{length, take}
use native.Mathlib.Omega.{arith}
use Rattle.replay_reads.specs.Reads.{readings_lent}
use Rattle.replay_reads.proofs.calls.list_readings.Goals as goal

pub overflow_mul-s : goal.overflow_mul-s
overflow_mul-s c = record { fits = omega (arith, c.requires.lengths_within.0.segments) }

pub overflow_mul-s-2 : goal.overflow_mul-s-2
overflow_mul-s-2 c = record { fits = omega (arith, c.requires.lengths_within.0.entries) }

pub overflow_mul-s-3 : goal.overflow_mul-s-3
overflow_mul-s-3 c = record { fits = omega (arith, c.requires.lengths_within.0.entries) }

pub reading_list-requires : goal.reading_list-requires
reading_list-requires c = readings_lent _ _ _ _ _ _ _ _ _ _ (length (take c.args.s.kept c.places-kept_hashes.result)) _ _ c.places-keys.ensures c.places-places.ensures c.places-own.ensures c.places-heads.ensures c.places-list.ensures c.places-lists.ensures c.places-route.ensures c.places-history_keys.ensures c.places-history_skips.ensures c.places-numbering.ensures c.places-kept_links.ensures c.places-kept_sums.ensures c.requires.list_left
