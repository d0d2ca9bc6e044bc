-- By whether there is a join.
use mathlib.Core.Path.{refl}
use native.Mathlib.Omega.{arith}
use Rattle.routes.specs.Entries.{no_join, a_join}
use borrow.Author.Rules.{rules}
use Rattle.routes.proofs.put_join.Goals as goal

pub returns-then-join-eq0 : goal.returns-then-join-eq0
returns-then-join-eq0 c = no_join c.if-join-eq0.true refl refl

pub offset_bounds-route-n : goal.offset_bounds-route-n
offset_bounds-route-n c = let l = c.requires (omega (arith, c.if-join-eq0.false)) in search rules

pub bounds-route-n : goal.bounds-route-n
bounds-route-n c = c.requires (omega (arith, c.if-join-eq0.false))

pub overflow_add-result : goal.overflow_add-result
overflow_add-result c = let l = c.requires (omega (arith, c.if-join-eq0.false)) in search rules

pub returns : goal.returns
returns c = a_join (omega (arith, c.if-join-eq0.false)) refl refl
