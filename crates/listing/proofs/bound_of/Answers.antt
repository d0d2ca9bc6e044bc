-- By the test whether there are that many.
use mathlib.Core.Path.{refl}
use native.Mathlib.Omega.{arith}
use lib.Ieee.{of_bits}
use borrow.Author.Tests.{lt-ltb, le-ltb}
use Rattle.listing.proofs.bound_of.Goals as goal

pub returns-then-m-listed : goal.returns-then-m-listed
unfolding of_bits
returns-then-m-listed c = rw (lt-ltb _ _ c.if-m-listed.true) refl

pub own_rank-requires : goal.own_rank-requires
own_rank-requires c = (c.requires.side, let l = c.if-m-listed.false in let z = c.requires.begins in c.requires.each _ (omega arith))

pub returns : goal.returns
returns c = rw (le-ltb _ _ c.if-m-listed.false) c.own_rank.ensures
