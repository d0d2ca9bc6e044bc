-- No word, or one that the hash takes past the others.
use Rattle.std.proofs.Common.{◌∙◌}
use Rattle.histories.proofs.Steps.{cast_is, newer_none, newer_is}
use Rattle.histories.proofs.with_word.Goals as goal

pub returns-then-word-eq0 : goal.returns-then-word-eq0
returns-then-word-eq0 c = newer_none c.args.h c.args.word c.ranges.word c.if-word-eq0.true

pub returns : goal.returns
returns c = newer_is c.args.h c.args.word c.if-word-eq0.false (c.from.ensures ∙ c.cast_unsigned.ensures ∙ cast_is c.args.word c.ranges.word) c.wrapping_mul.ensures c.wrapping_mul-2.ensures
