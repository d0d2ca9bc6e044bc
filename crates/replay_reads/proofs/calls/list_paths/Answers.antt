-- `replay_reads::calls::list_paths` is safe: the scratch has the places that the decoder asks for.
use Rattle.replay_reads.specs.Reads.{alternatives_lent}
use Rattle.replay_reads.proofs.calls.list_paths.Goals as goal

pub alternatives-listed-requires : goal.alternatives-listed-requires
alternatives-listed-requires c = alternatives_lent _ _ _ _ _ c.places-keys.ensures c.places-places.ensures c.places-own.ensures c.places-history_keys.ensures c.places-history_skips.ensures c.requires
