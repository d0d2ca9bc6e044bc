-- Of the finished table.
use Rattle.decoder_reads.specs.Reads.{read_asks, active_is}
use Rattle.decoder_reads.proofs.num_active.Goals as goal

pub num_active-requires : goal.num_active-requires
num_active-requires c = let z = read_asks c.requires.left in (z.0, z.1)

pub returns : goal.returns
returns c = λ sm rs ls L. active_is L _ c.num_active.ensures
