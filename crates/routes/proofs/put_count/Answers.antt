-- The record before it is in the table, and its own word is one more.
use mathlib.Core.Path.{◌∙◌}
use native.Mathlib.Omega.{arith}
use Rattle.model.specs.Ints.{back}
use Rattle.routes.specs.Counts.{prev_counted, counts_more}
use Rattle.routes.proofs.put_count.Goals as goal

pub count_at-requires : goal.count_at-requires
count_at-requires c = let p = prev_counted c.requires.0 c.requires.1 c.requires.2 (omega arith) c.prev_of-prev.ensures in (p.1, p.2)

pub count_over-n-requires : goal.count_over-n-requires
count_over-n-requires c = let p = prev_counted c.requires.0 c.requires.1 c.requires.2 (omega arith) c.prev_of-prev.ensures in
    omega (arith, p.0, p.2, c.requires.0.few)

pub returns : goal.returns
returns c = counts_more c.requires.0 c.requires.1 c.requires.2 (omega arith) c.prev_of-prev.ensures (back c.word_of-word.result c.word_of-word.type_inv ∙ c.word_of-word.ensures) c.count_at.ensures c.count_over-n.ensures
