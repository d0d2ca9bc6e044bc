-- The part that begins where the paths so far end: all of a trace, or its words alone.
use native.Mathlib.Omega.{arith}
use Rattle.routes.specs.Words.{back_trail}
use Rattle.reading_list.specs.Behind.{starts_low, part_fits, behind_traced, words_fit, behind_words}
use Rattle.reading_list.specs.Sizes.{size_whole, size_back}
use Rattle.reading_list.proofs.write_behind.Goals as goal

pub overflow_mul-from : goal.overflow_mul-from
overflow_mul-from c = record { fits = let z = starts_low c.requires.2 c.if-traced.true in omega arith }

pub slice_bounds-write-count-then-traced : goal.slice_bounds-write-count-then-traced
slice_bounds-write-count-then-traced c = let z = c.requires.2.frames c.if-traced.true in omega arith

pub offset_bounds-segments-from : goal.offset_bounds-segments-from
offset_bounds-segments-from c = let z = starts_low c.requires.2 c.if-traced.true in omega arith

pub slice_bounds-write-count-then-traced-2 : goal.slice_bounds-write-count-then-traced-2
slice_bounds-write-count-then-traced-2 c = let z = starts_low c.requires.2 c.if-traced.true in omega arith

pub write-requires : goal.write-requires
write-requires c = (c.requires.0, c.requires.1, size_whole c.if-traced.true c.requires.2.size, part_fits c.requires.2 c.if-traced.true)

pub returns-then-traced : goal.returns-then-traced
returns-then-traced c = behind_traced c.requires.2 c.if-traced.true c.write.ensures

pub write_words-requires : goal.write_words-requires
write_words-requires c = (c.requires.0, c.requires.1, size_back c.args.records.now c.args.labels.now c.args.route.now c.args.n c.args.link c.requires.2.size, words_fit c.requires.2, c.requires.3)

pub returns : goal.returns
returns c = behind_words c.requires.2 (back_trail c.args.records.now c.args.labels.now c.args.route.now c.args.n c.args.link) c.write_words.ensures c.if-traced.false
