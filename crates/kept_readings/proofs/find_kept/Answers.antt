-- No place so far has its words.
use Rattle.std.proofs.Common.{◌≡◌, ℕ, false, sym, ap, ◌∙◌, arith}
use Rattle.lists.specs.Tests.{next_fits, below_more}
use Rattle.kept_readings.specs.Kept.{kept_read_in, same_kept, is_found, not_found}
use Rattle.kept_readings.proofs.find_kept.Goals as goal

pub loop-i-init : goal.loop-i-init
loop-i-init c = (omega arith, λ j l. absurd (omega arith))

pub kept_at-requires : goal.kept_at-requires
kept_at-requires c = let r = c.requires in let t = c.loop-i-test.true in record { hashes = let z = r.hashes in omega arith; links = let z = r.links in omega arith; sums = let z = r.sums in omega arith }

pub same_kept-requires : goal.same_kept-requires
same_kept-requires c = tt

pub returns-then-same_kept : goal.returns-then-same_kept
returns-then-same_kept c = is_found _ c.loop-i-test.true c.loop-i.invariant.1 (ap (same_kept c.args.k) (sym c.kept_at.ensures) ∙ sym c.same_kept.ensures ∙ c.if-same_kept.true)

pub overflow_step-i : goal.overflow_step-i
overflow_step-i c = record { fits = next_fits _ _ _ c.loop-i-test.true c.ranges.n.fits }

pub loop-i-smaller : goal.loop-i-smaller
loop-i-smaller c = let t = c.loop-i-test.true in omega arith

pub loop-i-preserved : goal.loop-i-preserved
loop-i-preserved c = (let t = c.loop-i-test.true in omega arith, below_more (λ (j : ℕ). same_kept c.args.k (kept_read_in c.args.hashes.now c.args.links.now c.args.sums.now j) ≡ false) _ c.loop-i.invariant.1 (ap (same_kept c.args.k) (sym c.kept_at.ensures) ∙ sym c.same_kept.ensures ∙ c.if-same_kept.false))

pub returns : goal.returns
returns c = not_found (λ j l. c.loop-i.invariant.1 j (let z = c.loop-i-test.false in omega arith))
