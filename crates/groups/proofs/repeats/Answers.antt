-- From the next place before it on, none reads the same so far.
use mathlib.Core.Path.{subst}
use native.Mathlib.Omega.{arith}
use mathlib.Core.Bool.{Bool}
use Rattle.histories.specs.Reading.{SameIs}
use Rattle.groups.specs.Laws.{other_key, no_other, same_found, alone_next}
use Rattle.groups.proofs.repeats.Goals as goal

pub returns-then-keys-i : goal.returns-then-keys-i
returns-then-keys-i c = other_key _ _ _ _ _ _ _ _ _ _ c.loop-i.invariant c.loop-i-test.true c.if-keys-i.true

pub returns-then-same_at : goal.returns-then-same_at
returns-then-same_at c = same_found _ _ _ _ _ _ _ _ _ _ c.loop-i.invariant c.loop-i-test.true _ _ c.link_at-link.ensures c.link_at-other.ensures c.if-keys-i.false (subst (λ (r : Bool). SameIs c.args.records.now c.args.labels.now c.args.used c.link_at-link.result c.link_at-other.result c.args.to_join r) c.if-same_at.true c.same_at.ensures)

pub loop-i-preserved : goal.loop-i-preserved
loop-i-preserved c = alone_next _ _ _ _ _ _ _ _ _ _ c.loop-i.invariant c.loop-i-test.true _ _ c.link_at-link.ensures c.link_at-other.ensures (subst (λ (r : Bool). SameIs c.args.records.now c.args.labels.now c.args.used c.link_at-link.result c.link_at-other.result c.args.to_join r) c.if-same_at.false c.same_at.ensures)

pub returns : goal.returns
returns c = no_other _ _ _ _ _ _ _ _ _ _ c.loop-i.invariant (let l = c.loop-i-test.false in omega arith)
