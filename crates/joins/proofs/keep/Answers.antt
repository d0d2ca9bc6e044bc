-- Each way out is a constructor of its contract.
use Rattle.std.specs.Prelude.{Option}
use Prim.Native.Nat.{ℕ, ◌<◌, ◌^◌}
use mathlib.Core.Path.{◌≡◌, refl, sym, ◌∙◌}
use mathlib.Core.Bool.{Bool}
use lib.IntN.{ℤ}
use lib.Ieee.{Float}
use lib.Signed.{mag}
use mir.Syntax.{w32}
use mir.Val.{of_z, to_z}
use Rattle.model.specs.Ints.{back}
use Rattle.records.specs.Layout.{Store}
use Rattle.tokens.specs.declared.Token.{Token}
use Rattle.joins.specs.Keep.{KeptIs, drops_loser, finds_full, joins_loser}
use native.Mathlib.Omega.{arith}
use Rattle.joins.proofs.keep.Goals as goal

-- the answer that a test found, for the word that was handed on
answered : {s : Store} {n : ℕ} {margin : Option Float} {gap : Float} {won lost : Token} (over : ℤ) {b v : Bool} → mag over < 2 ^ 31 → b ≡ v
    → KeptIs s n margin gap won lost (to_z w32 (of_z w32 over)) b → KeptIs s n margin gap won lost over v
answered over f e k = record { is = λ h ok. sym e ∙ k.is h ok ∙ rw (back over f) }

pub returns-then-not-is_kept : goal.returns-then-not-is_kept
returns-then-not-is_kept c =
    drops_loser (answered c.args.over c.ranges.over.sfits c.if-not-is_kept.true c.is_kept.ensures) refl

pub returns-then-used-cap : goal.returns-then-used-cap
returns-then-used-cap c =
    finds_full (answered c.args.over c.ranges.over.sfits c.if-not-is_kept.false c.is_kept.ensures) c.if-used-cap.true refl

pub returns : goal.returns
returns c =
    joins_loser (answered c.args.over c.ranges.over.sfits c.if-not-is_kept.false c.is_kept.ensures) (omega (arith, c.if-used-cap.false, c.requires.fits))
    (rw (back c.args.over c.ranges.over.sfits) at c.put_join.ensures)
