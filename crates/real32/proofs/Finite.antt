-- What is finite, by std's test and by comparisons with the infinities. Assumes nothing.
use Rattle.std.specs.Prelude.{◌≡◌, refl, true, false, Float}
use Rattle.std.specs.Float.{nan, inf, fin, binary32, float_is_finite}
use lib.Ieee.{lt, of_bits}
use lib.Ieee.Scale.{finite}
use Rattle.real32.specs.Finite.{finite_between, not_below_infinity}

-- std's test is the definition's
pub std_finite : (x : Float) → float_is_finite x ≡ finite x
unfolding float_is_finite
std_finite nan = refl
std_finite (inf s) = refl
std_finite (fin s m e) = refl

-- the infinities, as their bits
plus : of_bits binary32 0x7f80_0000 ≡ inf false
unfolding of_bits
plus = refl

minus : of_bits binary32 0xff80_0000 ≡ inf true
unfolding of_bits
minus = refl

pub above_minus : (x : Float) → lt x (of_bits binary32 0x7f80_0000) ≡ true → lt (of_bits binary32 0xff80_0000) x ≡ finite x
above_minus x e = rw minus (finite_between x (rw plus at e))

pub not_below_plus : (x : Float) → lt x (of_bits binary32 0x7f80_0000) ≡ false → finite x ≡ false
not_below_plus x e = not_below_infinity x (rw plus at e)
