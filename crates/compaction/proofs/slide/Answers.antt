-- The marked ones among the records passed are the first n.
use mathlib.Core.Path.{◌≡◌}
use Rattle.records.specs.Layout.{store}
use Rattle.compaction.proofs.Slides.{slid_none, next_low}
use native.Mathlib.Omega.{arith}
use Rattle.compaction.proofs.slide.Goals as goal

pub loop-k-init : goal.loop-k-init
loop-k-init c = (omega arith, slid_none _)

pub slide_one-n-requires : goal.slide_one-n-requires
slide_one-n-requires c =
    let l = c.loop-k in
    let sh = c.requires.0 in
    let low = next_low _ (store l.records l.labels l.gaps) c.args.used l.k l.n l.invariant.1 sh c.loop-k-test.true in record {
      n_le_k = (l.invariant.0, omega arith, low.0, low.1);
      k_in_bounds = (omega (arith, sh.room.records), omega (arith, sh.room.labels), omega (arith, sh.room.gaps));
    }

pub loop-k-preserved : goal.loop-k-preserved
loop-k-preserved c = let o = c.slide_one-n.ensures in (o.few, o.next _ c.args.used c.loop-k-test.true c.requires.0 c.loop-k.invariant.1)

pub returns : goal.returns
returns c = let e : c.loop-k.k ≡ c.args.used = omega arith in rw e at c.loop-k.invariant.1
