-- The hash takes the word, shifted past the newer ones.
use Rattle.std.proofs.Common.{◌∙◌}
use Rattle.histories.proofs.Steps.{cast_is, older_is}
use Rattle.histories.proofs.hash_older.Goals as goal

pub returns : goal.returns
returns c = older_is c.args.h c.args.word (c.from.ensures ∙ c.cast_unsigned.ensures ∙ cast_is c.args.word c.ranges.word) c.wrapping_mul-shifted.ensures c.wrapping_mul.ensures
