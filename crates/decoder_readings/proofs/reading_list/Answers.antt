-- Of the finished table, its records and their gaps.
use Rattle.decoder_readings.specs.Listed.{readings_asks, readings_is}
use Rattle.decoder_readings.proofs.reading_list.Goals as goal

pub readings-requires : goal.readings-requires
readings-requires c = let p = c.requires in readings_asks p.left _ _ _ _ _ _ _ _ _ _ _ p.wide p.wide_records p.wide_kept

pub returns : goal.returns
returns c = record { answer = λ F. readings_is F _ _ _ _ _ _ _ _ c.readings.ensures.0; work = c.readings.ensures.1 }
