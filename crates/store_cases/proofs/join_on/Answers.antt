-- A join on records that there are.
use Rattle.records.specs.Layout.{store}
use Rattle.store_cases.proofs.Keeps.{put_none, put_join}
use native.Mathlib.Omega.{arith}
use Rattle.store_cases.proofs.join_on.Goals as goal

pub returns-then-used-cap : goal.returns-then-used-cap
returns-then-used-cap c = put_none _ _ _ (omega arith)

pub returns-then-used-prev : goal.returns-then-used-prev
returns-then-used-prev c = put_none _ _ _ (omega arith)

pub returns-then-used-kept : goal.returns-then-used-kept
returns-then-used-kept c = put_none _ _ _ (omega arith)

pub returns : goal.returns
returns c =
    let a = c.args in
    let p = c.put_join in
    put_join (store a.records.now a.labels.now a.gaps.now) (store p.new.records p.new.labels p.new.gaps) a.used a.prev a.used _ _ _
    (omega (arith, c.requires.0, c.if-used-cap.false)) c.if-used-prev.false c.if-used-kept.false p.ensures
