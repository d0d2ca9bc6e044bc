-- By the line of the refusal that the verdict tells.

use Rattle.hirqazhom.proofs.hirqazhom_write_line.Goals as goal

pub returns : goal.returns
returns c =
    let call = c.write_line in
    record {
      answer = call.result;
      is = rw c.from.ensures at call.ensures;
      told = c.from-2.ensures;
    }
