-- Each turn puts a link on, on a record that there is.
use mathlib.Core.Path.{refl, ◌∙◌}
use Prim.Native.Nat.{◌<◌}
use lib.IntN.{pos}
use mathlib.Core.List.{[]}
use Rattle.store_cases.proofs.Keeps.{put_none, put_then, put_link}
use native.Mathlib.Omega.{arith}
use Rattle.store_cases.proofs.link_on.Goals as goal

pub returns-then-used-prev : goal.returns-then-used-prev
returns-then-used-prev c = record { put = λ gs. put_none _ _ _ (omega arith) }

pub loop-init : goal.loop-init
loop-init c = (c.if-used-prev.false, omega arith, refl, refl, λ gs. put_none _ _ _ (omega arith))

pub loop-preserved : goal.loop-preserved
loop-preserved c =
    let p = c.put_link-n in
    let l = c.loop in
    let a = c.args in
    let lt : l.n < a.cap = omega (arith, l.invariant.1, c.if-n-cap.false) in
    let step = put_link l.records p.new.records l.labels p.new.labels l.n l.last l.n l.n p.result a.cap (pos 7) lt l.invariant.0 refl p.ensures in (
      omega arith,
      (step []).few,
      p.auto.records ∙ l.invariant.2,
      p.auto.labels ∙ l.invariant.3,
      λ gs. put_then _ _ _ _ _ _ _ (l.invariant.4 gs) (step gs),
    )

pub returns-after-loop : goal.returns-after-loop
returns-after-loop c = record { put = c.loop.invariant.4 }

pub returns-then-n-cap : goal.returns-then-n-cap
returns-then-n-cap c = record { put = c.loop.invariant.4 }
