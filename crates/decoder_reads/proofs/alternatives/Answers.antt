-- Of the finished table and its records.
use Rattle.decoder_reads.specs.Reads.{histories_wide, alternatives_asks, alternatives_is}
use Rattle.decoder_reads.proofs.alternatives.Goals as goal

pub alternatives-requires : goal.alternatives-requires
alternatives-requires c = let h = histories_wide c.requires.left.left _ _ c.requires.wide_records in (alternatives_asks c.requires.left.left _ c.requires.left.finals_are _ _ _ c.requires.wide, h.0, h.1)

pub returns : goal.returns
returns c = record { answer = λ F. alternatives_is F.left _ F.finals_are _ _ _ _ _ c.alternatives.ensures.0; work = c.alternatives.ensures.1 }
