-- The states below the next active one are listed.
use borrow.Author.Rules.{rules}
use native.Mathlib.Omega.{arith}
use Rattle.ranking.specs.Listing.{listing_begun, listing_asks, listing_on, listing_done}
use Rattle.ranking.proofs.rank_all.Goals as goal

pub next_active-s-requires : goal.next_active-s-requires
next_active-s-requires c = let p = c.requires in (p.side, omega arith, p.tokens)

pub loop-s-init : goal.loop-s-init
loop-s-init c = listing_begun c.next_active-s.ensures

pub candidate_at-requires : goal.candidate_at-requires
candidate_at-requires c = let p = c.requires in let a = p.tokens in let b = p.sums in let d = p.finals in (p.side, omega arith, omega arith, omega arith)

pub put_ranked-n-requires : goal.put_ranked-n-requires
put_ranked-n-requires c = listing_asks c.loop-s.invariant c.candidate_at.ensures c.loop-s-test.true c.requires

pub overflow_add-s : goal.overflow_add-s
overflow_add-s c = let u = c.loop-s-test.true in search rules

pub next_active-s-requires-in-loop-s : goal.next_active-s-requires-in-loop-s
next_active-s-requires-in-loop-s c = let p = c.requires in let u = c.loop-s-test.true in (p.side, omega arith, p.tokens)

pub loop-s-smaller : goal.loop-s-smaller
loop-s-smaller c = let u = c.loop-s-test.true in let v = c.next_active-s-in-loop-s.ensures.from in omega arith

pub loop-s-preserved : goal.loop-s-preserved
loop-s-preserved c = listing_on c.loop-s.invariant c.candidate_at.ensures c.loop-s-test.true (record { keys_length = c.put_ranked-n.auto.keys; items-length = c.put_ranked-n.auto.order }) c.put_ranked-n.ensures c.next_active-s-in-loop-s.ensures

pub returns : goal.returns
returns c = listing_done c.loop-s.invariant c.loop-s-test.false
