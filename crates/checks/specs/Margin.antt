-- A margin, a beam and a beam delta that are fair. Assumes nothing.
use Rattle.std.specs.Prelude.{◌≡◌, refl, Bool, true, false, ◌&&◌, cond, T, Float}
use Rattle.std.proofs.Common.{sym, ap, ◌∙◌}
use Rattle.std.proofs.Math.Option.{Option, none, some}
use Rattle.std.specs.Float.Ieee.{neg, lt}
use Rattle.lists.specs.Tests.{holds, is_true}
use Rattle.real32.specs.Order.{lt_le_trans}
use Rattle.real32.specs.Small.{huge, tame}
use Rattle.model.specs.Basics.{◌≺◌, ◌≼◌, 0f}
use Rattle.model.specs.Passes.{fair}

-- the margin that is asked for, or none
abbrev pub asked : (keeps : Bool) → Float → Option Float
asked keeps x = cond keeps (some x) none

-- the code's two tests are the definition's
and_true : (b : Bool) → (b && true) ≡ b
and_true true = refl
and_true false = refl

below_zero : T (lt (neg huge) 0f)
unfolding lt neg
below_zero = tt

pub fair_is : (x : Float) → (0f ≼ x) ≡ true → tame x ≡ fair x
unfolding tame fair
fair_is x e =
    ap (λ (b : Bool). x ≺ huge && b) (is_true (lt_le_trans (neg huge) 0f x below_zero (holds e))) ∙ and_true (x ≺ huge) ∙ sym (ap (λ (b : Bool). b && x ≺ huge) e)

pub unfair_is : (x : Float) → (0f ≼ x) ≡ false → false ≡ fair x
unfolding fair
unfair_is x e = sym (ap (λ (b : Bool). b && x ≺ huge) e)
