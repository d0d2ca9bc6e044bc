-- By the count of what was listed.

use Rattle.hirqazhom.proofs.hirqazhom_reading_list.Goals as goal

pub returns : goal.returns
returns c = record { answer = c.reading_list.result; is = c.reading_list.ensures; told = c.from.ensures }
