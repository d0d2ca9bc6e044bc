-- The sizes so far.
use mathlib.Core.Path.{refl, ◌∙◌, subst}
use native.Mathlib.Omega.{arith}
use Prim.Native.Nat.{ℕ}
use Rattle.reading_list.specs.Lines.{view, TotalsAre}
use Rattle.reading_list.specs.Totals.{total_none, path_of_lem, fits_more, total_more}
use Rattle.reading_list.proofs.measure_all.Goals as goal

pub loop-i-init : goal.loop-i-init
loop-i-init c = (omega arith, refl, total_none c.requires.0 c.args.max)

pub offset_bounds-list-i : goal.offset_bounds-list-i
offset_bounds-list-i c = record { fits = let z = c.requires.0.few in omega arith }

pub bounds-list-i : goal.bounds-list-i
bounds-list-i c = let z = c.requires.0.long in omega arith

pub reading_at-g-requires : goal.reading_at-g-requires
reading_at-g-requires c = c.requires.0.items _ c.loop-i-test.true

pub measure_reading-z-requires : goal.measure_reading-z-requires
measure_reading-z-requires c = (path_of_lem c.requires.0 c.args.max c.loop-i-test.true c.reading_at-g.ensures c.loop-i.invariant.1, c.requires.1, c.requires.2)

pub grown-total-requires : goal.grown-total-requires
grown-total-requires c = fits_more c.requires.0 c.args.max c.loop-i-test.true c.reading_at-g.ensures c.loop-i.invariant.2 c.measure_reading-z.ensures

pub overflow_step-i : goal.overflow_step-i
overflow_step-i c = record { fits = let z = c.requires.0.few in omega arith }

pub loop-i-smaller : goal.loop-i-smaller
loop-i-smaller c = omega arith

pub loop-i-preserved : goal.loop-i-preserved
loop-i-preserved c = (omega arith, c.measure_reading-z.auto.route ∙ c.loop-i.invariant.1, total_more c.requires.0 c.args.max c.loop-i-test.true c.reading_at-g.ensures c.loop-i.invariant.2 c.measure_reading-z.ensures c.grown-total.ensures)

pub returns : goal.returns
returns c = let a = c.args in let e = c.loop-i.invariant.0 in let f = c.loop-i-test.false in
    subst (λ (j : ℕ). TotalsAre (view a.tokens.now a.sums.now a.finals.now a.records.now a.labels.now a.nexts.now a.kept_hashes.now a.kept_links.now a.kept_sums.now a.side a.used a.n a.counts) a.max a.list.now j c.loop-i.total) (omega arith) c.loop-i.invariant.2
