-- The arcs below i have been looked at; the rest is what the definition does with the others.
use mathlib.Core.Path.{◌≡◌, sym, ap, ap₂, ◌∙◌}
use lib.Ieee.{Float}
use Prim.Native.Nat.{ℕ, suc, ◌+◌, ◌-◌}
use native.Mathlib.Omega.{arith}
use lib.ListN.{length}
use Rattle.std.proofs.lemmas.Result.{err_from_is_err_and}
use Rattle.emitting.specs.Look.{look_from, look_on, look_stops}
use Rattle.emitting.proofs.first_look.Goals as goal

pub loop-i-init : goal.loop-i-init
loop-i-init c = let whole : length c.args.ilabels.now ≡ length c.args.ilabels.now - 0 = omega arith in
    (omega arith, ap₂ (λ (n : ℕ) (x : Float). look_from c.args.ilabels.now c.args.weights.now c.args.tid2pdf.now c.args.loglikes.now c.args.offset c.args.adaptive c.args.cost n 0 x) whole (sym c.infinity-next.ensures))

pub look_at-requires : goal.look_at-requires
look_at-requires c = (c.requires, c.loop-i-test.true)

pub returns-in_err-next : goal.returns-in_err-next
returns-in_err-next c = let p = err_from_is_err_and c.from_residual.result c.from_residual.ensures.1 in rw (p.1, p.2) (look_stops c.args.ilabels.now c.args.weights.now c.args.tid2pdf.now c.args.loglikes.now c.args.offset c.args.adaptive c.args.cost (length c.args.ilabels.now - c.loop-i.i) c.loop-i.i c.loop-i.next _ c.look_at.ensures c.loop-i.invariant.1 (let h = c.loop-i-test.true in omega arith) _ c.in_err-next.was)

pub loop-i-smaller : goal.loop-i-smaller
loop-i-smaller c = let h = c.loop-i-test.true in omega arith

pub loop-i-preserved : goal.loop-i-preserved
loop-i-preserved c = let h = c.loop-i-test.true in
    let fewer : length c.args.ilabels.now - c.loop-i.i - 1 ≡ length c.args.ilabels.now - (c.loop-i.i + 1) = omega arith in
    let next : suc c.loop-i.i ≡ c.loop-i.i + 1 = omega arith in (
      omega arith,
      look_on c.args.ilabels.now c.args.weights.now c.args.tid2pdf.now c.args.loglikes.now c.args.offset c.args.adaptive c.args.cost (length c.args.ilabels.now - c.loop-i.i) c.loop-i.i c.loop-i.next _ c.look_at.ensures c.loop-i.invariant.1 (omega arith) _ c.in_ok-next.was ∙
          ap₂ (λ (n i : ℕ). look_from c.args.ilabels.now c.args.weights.now c.args.tid2pdf.now c.args.loglikes.now c.args.offset c.args.adaptive c.args.cost n i c.in_ok-next.next) fewer next,
    )

pub returns : goal.returns
returns c = let none : length c.args.ilabels.now - c.loop-i.i ≡ 0 = let h = c.loop-i-test.false in omega arith in
    sym (c.loop-i.invariant.1 ∙ ap (λ (n : ℕ). look_from c.args.ilabels.now c.args.weights.now c.args.tid2pdf.now c.args.loglikes.now c.args.offset c.args.adaptive c.args.cost n c.loop-i.i c.loop-i.next) none)
