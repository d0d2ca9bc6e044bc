-- The states below the next active one are listed.
use Prim.Native.Nat.{◌-◌}
use Rattle.ranking.specs.Listing.{Listing}
use Rattle.ranking.proofs.rank_all.Given as goal

abbrev pub invariant-loop-s : goal.invariant-loop-s
invariant-loop-s l =
    Listing l.tokens l.sums l.finals l.side l.states l.counts l.initial.keys l.keys l.initial.order l.order l.n l.s

abbrev pub decreases-loop-s : goal.decreases-loop-s
decreases-loop-s l =
    l.states - l.s
