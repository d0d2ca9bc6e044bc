-- By whether there is a best state.
use mathlib.Core.Path.{sym, ap}
use mathlib.Core.Bool.{Bool, true, false}
use lib.Ieee.{Float, neg, of_bits}
use borrow.Author.Tests.{le-leb, lt-leb}
use Rattle.model.specs.Basics.{0f}
use Rattle.emitting.proofs.offset_of.Goals as goal

pub returns-then-states-cut : goal.returns-then-states-cut
unfolding of_bits
returns-then-states-cut c = sym (ap (λ (z : Bool). elim z as (λ z. Float) [ true ↦ 0f | false ↦ neg c.args.cut.least ]) (le-leb c.args.states c.args.cut.best c.if-states-cut.true))

pub returns-else-states-cut : goal.returns-else-states-cut
returns-else-states-cut c = sym (ap (λ (z : Bool). elim z as (λ z. Float) [ true ↦ 0f | false ↦ neg c.args.cut.least ]) (lt-leb c.args.states c.args.cut.best c.if-states-cut.false))
