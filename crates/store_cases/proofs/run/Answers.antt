-- Between two lines the store is ready, and the slices are as long as they were.
use mathlib.Core.Path.{refl, ◌∙◌}
use native.Mathlib.Omega.{arith}
use Rattle.store_cases.proofs.run.Goals as goal

pub loop-at-init : goal.loop-at-init
loop-at-init c = (refl, refl, refl, refl, c.empty_store-z.ensures _)

pub step-z-requires : goal.step-z-requires
step-z-requires c =
    let l = c.loop-at in (
      record {
        records = omega (arith, l.invariant.0, c.requires.1.records);
        labels = omega (arith, l.invariant.1, c.requires.1.labels);
        gaps = omega (arith, l.invariant.2, c.requires.1.gaps);
      },
      omega (arith, l.invariant.3, c.requires.2, c.empty_store-z.auto.tokens),
      l.invariant.4,
    )

pub loop-at-preserved : goal.loop-at-preserved
loop-at-preserved c =
    let l = c.loop-at in
    let k = c.step-z in
    (k.auto.records ∙ l.invariant.0, k.auto.labels ∙ l.invariant.1, k.auto.gaps ∙ l.invariant.2, k.auto.tokens ∙ l.invariant.3, k.ensures)
