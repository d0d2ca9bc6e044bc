-- By which half of the numbers the item is in.
use mathlib.Core.Path.{ap, ◌∙◌}
use borrow.Author.Tests.{lt-ltb, le-ltb}
use Rattle.reading_list.specs.Items.{own_reading, kept_reading, item_reading}
use Rattle.reading_list.proofs.reading_at.Goals as goal

pub candidate_at-requires : goal.candidate_at-requires
candidate_at-requires c = let a = c.requires.own c.if-item-lt2147483648.true in (c.requires.side, a.tokens, a.sums, a.finals)

pub returns-then-item-lt2147483648 : goal.returns-then-item-lt2147483648
unfolding item_reading
returns-then-item-lt2147483648 c = c.own_reading.ensures ∙ ap own_reading c.candidate_at.ensures ∙ (rw (lt-ltb _ _ c.if-item-lt2147483648.true))

pub kept_at-requires : goal.kept_at-requires
kept_at-requires c = c.requires.kept c.if-item-lt2147483648.false

pub returns : goal.returns
unfolding item_reading
returns c = c.kept_reading.ensures ∙ ap kept_reading c.kept_at.ensures ∙ (rw (le-ltb _ _ c.if-item-lt2147483648.false))
