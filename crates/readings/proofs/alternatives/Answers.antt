-- Too many asked for, too short, or written.
use mathlib.Core.Path.{◌∙◌}
use Rattle.readings.specs.Paths.{outputs, lesser_is}
use Rattle.readings.specs.Answers.{used_self, used_late, chains_are, fill_asks, write_asks, listed_many, listed_short, listed_written, short_told}
use Rattle.readings.proofs.alternatives.Goals as goal

pub returns-then-max-gt-MAX_LISTED : goal.returns-then-max-gt-MAX_LISTED
returns-then-max-gt-MAX_LISTED c = (listed_many c.if-max-gt-MAX_LISTED.true, used_self _)

pub finals_count-counts-requires : goal.finals_count-counts-requires
finals_count-counts-requires c = (c.requires.0.read.side, c.requires.0.read.tokens)

pub fill-requires : goal.fill-requires
fill-requires c = (chains_are c.requires.0, c.requires.1, c.requires.2)

pub list_states-k-requires : goal.list_states-k-requires
list_states-k-requires c = (c.requires.0, c.fill.ensures)

pub measure_all-total-requires : goal.measure_all-total-requires
measure_all-total-requires c = fill_asks c.requires.0 c.list_states-k.ensures c.if-max-gt-MAX_LISTED.false

pub returns-then-too_short : goal.returns-then-too_short
returns-then-too_short c = (listed_short c.requires.0 c.list_states-k.ensures c.if-max-gt-MAX_LISTED.false c.measure_all-total.ensures (outputs c.args.words.now c.args.frames.now c.args.segments.now c.args.ends.now c.args.costs.now) c.finals_count-counts.ensures (short_told c.measure_all-total.result c.list_states-k.result (outputs c.args.words.now c.args.frames.now c.args.segments.now c.args.ends.now c.args.costs.now) c.too_short.ensures (c.min.ensures ∙ lesser_is _ _) c.if-too_short.true), used_late c.if-max-gt-MAX_LISTED.false (record { keys = record { same_length = c.list_states-k.auto.keys }; places = record { same_length = c.list_states-k.auto.places }; order = record { same_length = c.list_states-k.auto.order }; history_keys = record { same_length = c.fill.auto.history_keys }; history_skips = record { same_length = c.fill.auto.history_skips } }))

pub write_all-requires : goal.write_all-requires
write_all-requires c = write_asks c.requires.0 c.list_states-k.ensures c.if-max-gt-MAX_LISTED.false c.measure_all-total.ensures (outputs c.args.words.now c.args.frames.now c.args.segments.now c.args.ends.now c.args.costs.now) (short_told c.measure_all-total.result c.list_states-k.result (outputs c.args.words.now c.args.frames.now c.args.segments.now c.args.ends.now c.args.costs.now) c.too_short.ensures (c.min.ensures ∙ lesser_is _ _) c.if-too_short.false)

pub returns : goal.returns
returns c = (listed_written c.requires.0 c.list_states-k.ensures c.if-max-gt-MAX_LISTED.false c.measure_all-total.ensures (outputs c.args.words.now c.args.frames.now c.args.segments.now c.args.ends.now c.args.costs.now) c.finals_count-counts.ensures (short_told c.measure_all-total.result c.list_states-k.result (outputs c.args.words.now c.args.frames.now c.args.segments.now c.args.ends.now c.args.costs.now) c.too_short.ensures (c.min.ensures ∙ lesser_is _ _) c.if-too_short.false) c.write_all.ensures, used_late c.if-max-gt-MAX_LISTED.false (record { keys = record { same_length = c.list_states-k.auto.keys }; places = record { same_length = c.list_states-k.auto.places }; order = record { same_length = c.list_states-k.auto.order }; history_keys = record { same_length = c.fill.auto.history_keys }; history_skips = record { same_length = c.fill.auto.history_skips } }))
