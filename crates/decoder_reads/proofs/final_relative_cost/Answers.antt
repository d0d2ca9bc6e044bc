-- Of the finished table.
use Rattle.decoder_reads.specs.Reads.{read_asks, finals_long, relative_is}
use Rattle.decoder_reads.proofs.final_relative_cost.Goals as goal

pub final_relative_cost-requires : goal.final_relative_cost-requires
final_relative_cost-requires c = let z = read_asks c.requires.left.left in (z.0, z.1, z.2, finals_long c.requires.left.left _ c.requires.left.finals_are)

pub returns : goal.returns
returns c = λ rs ls F. relative_is F.left _ F.finals_are _ c.final_relative_cost.ensures
