-- Of the finished table and its records.
use Rattle.decoder_reads.specs.Reads.{best_asks, best_is}
use Rattle.decoder_reads.proofs.best_path.Goals as goal

pub best_path-requires : goal.best_path-requires
best_path-requires c = best_asks c.requires.left _ c.requires.finals_are

pub returns : goal.returns
returns c = λ F. best_is F.left _ F.finals_are _ _ _ _ c.best_path.ensures
