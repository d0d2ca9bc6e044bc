-- By the index of what was found.
use mir.Syntax.{w32}
use mir.ValLaws.{to_z-of_z}
use Rattle.hirqazhom.proofs.hirqazhom_find.Goals as goal

pub returns : goal.returns
returns c =
    record {
      answer = c.find.result;
      is = rw (to_z-of_z w32 c.args.word c.ranges.word) at c.find.ensures;
      told = c.from.ensures;
    }
