-- A float is finite where it lies between the infinities. Assumes nothing.
use Rattle.std.specs.Prelude.{◌≡◌, refl, true, false, Float}
use Rattle.std.proofs.Common.{sym}
use Rattle.std.specs.Float.{nan, inf, fin}
use Rattle.std.specs.Float.Ieee.{lt}
use Rattle.std.specs.Float.Ieee.Scale.{finite}
use Rattle.lists.specs.Tests.{never}

pub finite_between : (w : Float) → lt w (inf false) ≡ true → lt (inf true) w ≡ finite w
unfolding lt
finite_between nan e = never e
finite_between (inf true) e = refl
finite_between (inf false) e = never e
finite_between (fin s m k) e = refl

pub not_below_infinity : (w : Float) → lt w (inf false) ≡ false → finite w ≡ false
unfolding lt
not_below_infinity nan e = refl
not_below_infinity (inf s) e = refl
not_below_infinity (fin s m k) e = never (sym e)
