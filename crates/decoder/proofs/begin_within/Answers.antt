-- A start in the first places of the stores, and the rest behind them.
use Rattle.decoder.specs.Parts.{begin_cut_asks, begins_whole}
use Rattle.decoder.proofs.begin_within.Goals as goal

pub begin-requires : goal.begin-requires
begin-requires c = begin_cut_asks c.requires

pub returns : goal.returns
returns c = begins_whole c.requires.is.fixed.stores _ (record { tokens = c.begin.auto.tokens; sums = c.begin.auto.sums; records = c.begin.auto.records; labels = c.begin.auto.labels; gaps = c.begin.auto.gaps }) c.begin.ensures
