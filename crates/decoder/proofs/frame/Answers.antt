-- A frame in the first places of the stores, and the rest behind them.
use Rattle.decoder.specs.Parts.{frame_cut_asks, frame_whole}
use Rattle.decoder.proofs.frame.Goals as goal

pub advance-requires : goal.advance-requires
advance-requires c = frame_cut_asks c.requires

pub returns : goal.returns
returns c = frame_whole c.requires.left.is.fixed.stores _ (record { tokens = c.advance.auto.tokens; sums = c.advance.auto.sums; records = c.advance.auto.records; labels = c.advance.auto.labels; gaps = c.advance.auto.gaps }) c.advance.auto.queue c.advance.auto.scratch c.advance.ensures
