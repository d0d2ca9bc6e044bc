-- The states passed have their joins marked.
use mathlib.Core.Path.{◌≡◌, refl, ◌∙◌}
use Rattle.lists.specs.Tests.{next_fits}
use Rattle.below.proofs.Marking.{heads_none, heads_next}
use native.Mathlib.Omega.{arith}
use Rattle.below.proofs.want_heads.Goals as goal

pub loop-i-init : goal.loop-i-init
loop-i-init c = (omega arith, refl, heads_none _)

pub offset_bounds-heads-i : goal.offset_bounds-heads-i
offset_bounds-heads-i c = record { fits = let g = c.type_inv.heads in let z = c.requires.0.long in omega arith }

pub bounds-heads-i : goal.bounds-heads-i
bounds-heads-i c = let z = c.requires.0.long in omega arith

pub link_at-requires : goal.link_at-requires
link_at-requires c = (c.requires.0.side, c.requires.0.inside _ c.loop-i-test.true)

pub want_end-requires : goal.want_end-requires
want_end-requires c = (c.requires.0.chains, (let z = c.requires.0.low _ c.loop-i-test.true in let k = c.link_at.ensures in omega arith), let z = c.loop-i.invariant.1 in let y = c.requires.1 in omega arith)

pub overflow_step-i : goal.overflow_step-i
overflow_step-i c = record { fits = next_fits _ _ _ c.loop-i-test.true c.ranges.n.fits }

pub loop-i-smaller : goal.loop-i-smaller
loop-i-smaller c = omega arith

pub loop-i-preserved : goal.loop-i-preserved
loop-i-preserved c = (omega arith, c.want_end.auto.lists ∙ c.loop-i.invariant.1, heads_next _ _ _ c.link_at.ensures c.loop-i.invariant.2 c.want_end.ensures)

pub returns : goal.returns
returns c = let e : c.loop-i.i ≡ c.args.n = omega arith in rw e at c.loop-i.invariant.2
