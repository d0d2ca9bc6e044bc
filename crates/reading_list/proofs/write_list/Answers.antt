-- Measured, and then written.
use Rattle.reading_list.specs.Outputs.{outputs}
use Rattle.reading_list.specs.Writing.{write_asks, list_refused, list_written}
use Rattle.reading_list.proofs.write_list.Goals as goal

pub returns-then-too_short : goal.returns-then-too_short
returns-then-too_short c = list_refused c.requires.0 c.measure_all-total.ensures (outputs c.args.words.now c.args.frames.now c.args.segments.now c.args.numbers.now c.args.costs.now) c.too_short.ensures c.if-too_short.true

pub write_all-requires : goal.write_all-requires
write_all-requires c = (write_asks c.requires.0 c.measure_all-total.ensures (outputs c.args.words.now c.args.frames.now c.args.segments.now c.args.numbers.now c.args.costs.now) c.too_short.ensures c.if-too_short.false c.measure_all-total.auto.route, c.requires.1, c.requires.2)

pub returns : goal.returns
returns c = list_written c.requires.0 c.measure_all-total.ensures (outputs c.args.words.now c.args.frames.now c.args.segments.now c.args.numbers.now c.args.costs.now) c.too_short.ensures c.if-too_short.false c.write_all.ensures
