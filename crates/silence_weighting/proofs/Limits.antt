-- What a call knows once the tests of its numbers have passed. Assumes nothing.
use mathlib.Core.Path.{◌≡◌, refl}
use Prim.Native.Nat.{ℕ, ◌+◌, ◌-◌, ◌^◌, ◌≤◌, ◌<◌}
use native.Mathlib.Nat.{div-eq_of_lt}
use native.Mathlib.Omega.{arith}
use mathlib.Core.Bool.{Bool, true, false, ◌&&◌}
use mathlib.Core.List.{List}
use lib.Dec.{leb, ltb}
use lib.Ieee.{Float}
use borrow.Author.Tests.{ltb-false, leb-true, not-false, le-ltb}
use Rattle.lists.specs.Tests.{or_neither, and_both}
use Rattle.std.specs.Prelude.{⊤, Ok}
use Rattle.refusals.specs.declared.Reason.{Reason}
use Rattle.real32.specs.Small.{tame}
use Rattle.model.specs.Silence.{weighting_wrong, too_many, ceil_div}
use Rattle.silence_weighting.specs.declared.SilenceWeighting.{SilenceWeighting}
use Rattle.silence_weighting.specs.State.{places}
use Rattle.silence_weighting.specs.Parts.{unless, Sound, window_of}

-- a check that let the call go on
pub passed : (b : Bool) (r : Reason) (x : ⊤) → Ok x ≡ unless b r → b ≡ false
passed true r x e = cc
passed false r x e = refl

pub fair : (weight : Float) (subsampling : ℕ) → weighting_wrong weight subsampling ≡ false → (1 ≤ subsampling) × (subsampling ≤ 16)
unfolding weighting_wrong
fair w fs e =
    let h = (and_both (leb 1 fs && leb fs 16) (tame w) (not-false (leb 1 fs && leb fs 16 && tame w) e)).0 in
    let (x, y) = and_both (leb 1 fs) (leb fs 16) h in
    (leb-true 1 fs x, leb-true fs 16 y)

pub few_frames : (store n : ℕ) → too_many store n ≡ false → (n ≤ 65_536) × (n ≤ store)
unfolding too_many
few_frames store n e = let (x, y) = or_neither (ltb 65_536 n) (ltb store n) e in (ltb-false 65_536 n x, ltb-false store n y)

pub sound_window : (s : SilenceWeighting) (n from : ℕ) (ss : List ℕ) (ws : List Float) → weighting_wrong s.weight s.subsampling ≡ false
    → too_many (places ss ws) s.frames ≡ false → too_many (places ss ws) n ≡ false → from ≤ 2 ^ 32 → Sound (window_of s n from ss ws) ss ws
unfolding window_of
sound_window s n from ss ws a b c h =
    let (x, y) = few_frames (places ss ws) s.frames b in
    let (x', y') = few_frames (places ss ws) n c in
    record { status = omega arith; weights = omega arith; grows = omega arith; begins = omega arith; few = omega arith; times = (fair s.weight s.subsampling a).1; input = h }

-- nothing is needed where nothing is ready
pub none_needed : (store ready from fs : ℕ) → 1 ≤ fs → ready ≤ from → too_many store (ceil_div (ready - from) fs) ≡ false
unfolding too_many
none_needed store ready from fs h l =
    let z : ready - from + (fs - 1) < fs = omega arith in
    rw (div-eq_of_lt z, le-ltb 65_536 0 (omega arith), le-ltb store 0 (omega arith))
