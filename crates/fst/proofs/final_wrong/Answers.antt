-- `fst::final_wrong` meets its contract: its tests are the definition's.
use mathlib.Core.Path.{◌≡◌, sym, ◌∙◌, subst}
use mathlib.Core.Bool.{true, false}
use lib.Ieee.{Float, of_bits, lt}
use Rattle.model.specs.Graph.{final_wrong}
use Rattle.fst.proofs.final_wrong.Goals as goal

pub returns-then-is_tame : goal.returns-then-is_tame
unfolding final_wrong
returns-then-is_tame c = simp (sym c.is_tame.ensures ∙ c.if-is_tame.true)

pub returns-then-weight-infinity : goal.returns-then-weight-infinity
unfolding final_wrong
returns-then-weight-infinity c =
    let w = c.args.weight in
    simp (
      sym c.is_tame.ensures ∙ c.if-is_tame.false,
      subst (λ (x : Float). lt w x ≡ true) c.infinity.ensures c.if-weight-infinity.true,
    )

pub returns : goal.returns
unfolding final_wrong of_bits
returns c =
    let w = c.args.weight in
    simp (
      sym c.is_tame.ensures ∙ c.if-is_tame.false,
      subst (λ (x : Float). lt w x ≡ false) c.infinity.ensures c.if-weight-infinity.false,
    )
