-- All of it where it is traced; else its words alone, out of the table where the route is empty.
use Rattle.std.proofs.Common.{sym, ◌∙◌, eqb-true}
use Rattle.routes.specs.Counts.{count_room, count_along}
use Rattle.reading_list.specs.Sizes.{size_words, size_for}
use Rattle.reading_list.proofs.measure_path.Goals as goal

pub returns-then-traced : goal.returns-then-traced
returns-then-traced c = size_for c.if-traced.true c.measure.ensures

pub count_at-requires : goal.count_at-requires
count_at-requires c = count_room c.requires.3 c.requires.1

pub returns-then-is_empty : goal.returns-then-is_empty
returns-then-is_empty c = size_words c.args.records.now c.args.labels.now c.args.route.now c.args.n c.requires.1 c.if-traced.false (count_along c.requires.3 c.requires.1 c.args.route.now (eqb-true _ _ (sym c.is_empty.ensures ∙ c.if-is_empty.true)) c.count_at.ensures)

pub returns : goal.returns
returns c = size_words c.args.records.now c.args.labels.now c.args.route.now c.args.n c.requires.1 c.if-traced.false c.count_words.ensures
