-- A value's place among those of its format, a number below 2 ^ 32 for binary32 and 2 ^ 64 for binary64: it grows strictly with the value, and is the same at -0 and +0.
-- Assumes nothing.
use Rattle.std.specs.Prelude.{◌≡◌, ◌⊎◌, ℕ, zero, suc, ◌+◌, ◌-◌, ◌*◌, ◌/◌, ◌^◌, ◌≤◌, ◌<◌, Bool, true, false, not, cond, ℤ, T, ltb}
use Rattle.std.proofs.Math.Path.{refl}
use Rattle.std.proofs.Common.{sym, ap, ◌∙◌, subst, inl, inr, arith, le_of_eq, lt_of_le_of_lt, eq-or-lt_of_le, mul_right_comm, mul-le-mul_right, mul-pos, mul-div_cancel, le-div_iff_mul-le, mod-eq_of_lt, pow-suc, zero-add, suc-mul, ltb→lt, nltb→le, lit<, pow_pos, pow-add}
use Rattle.std.proofs.Math.Nat as Nat
use Rattle.std.proofs.Math.Pow.{shr_mono}
use lib.Ieee.{Float, nan, inf, fin, Format, binary32, binary64, prec, low, hid, ones, top, up, down, size, lt, is_nan, fits, to_bits, of_bits, nan_bits}
use Rattle.std.specs.Float.Ieee.Digits.{size-lt, size-le, size_reaches}
use Rattle.std.specs.Float.Ieee.Fits.{down_pos, kept-lt, two, inf-fits}
use Rattle.std.specs.Float.Ieee.Nearest.{div_mono}
use Rattle.std.specs.Float.Ieee.Bits.{of_bits-to_bits, to_bits-lt, nan_bits_is, nan_bits_above}
use Rattle.real32.specs.Order.{lt→cross, lt_irrefl}
use Rattle.real32.specs.Exact.{pat, to_bits_is, units_of}
use Rattle.real32.specs.Rank.{mag, unit, rank}

-- ---- `mag` is monotone
size_mono : (a b : ℕ) → a ≤ b → size a ≤ size b
size_mono a b h = size-le a (size b) (lt_of_le_of_lt h (size-lt b))

lead : (p : ℕ) → 2 ≤ p → 2 ^ p ≡ 2 ^ (p - 1) + 2 ^ (p - 1)
lead zero h = absurd (omega arith)
lead (suc p) h =
    let e : suc p - 1 ≡ p = omega arith in
    let g : 2 ^ suc p ≡ 2 ^ p * 2 = pow-suc 2 p in
    rw e (omega arith)

leading : (p b : ℕ) → 2 ≤ p → 0 < size b - p → 2 ^ (p - 1) ≤ b / 2 ^ (size b - p)
leading p b t h =
    let k = size b - p in
    (le-div_iff_mul-le (pow_pos k)).1 (Nat.le_trans (le_of_eq (sym (pow-add 2 (p - 1) k))) (size_reaches b (p - 1 + k) (omega arith)))

pub mag_mono : (f : Format) (a b : ℕ) → a ≤ b → mag f a ≤ mag f b
mag_mono f a b h =
    let p = prec f in
    let j = size a - p in
    let k = size b - p in
    let l : j ≤ k = omega (arith, size_mono a b h) in
    elim (eq-or-lt_of_le l) [
      | inl e ↦ subst (λ (x : ℕ). mag f a ≤ x * hid f + b / 2 ^ x) e (omega (arith, shr_mono j h))
      | inr g ↦
          let H = hid f in
          let u : suc j * H ≤ k * H = mul-le-mul_right H g in
          omega (arith, suc-mul j H, kept-lt p a, lead p (two f), leading p b (two f) (omega arith))
    ]

-- ---- its bounds
mag_one : (f : Format) → mag f 1 ≡ 1
unfolding size
mag_one binary32 = refl
mag_one binary64 = refl

mag_pos : (f : Format) (n : ℕ) → 0 < n → 0 < mag f n
mag_pos f n h = omega (arith, mag_mono f 1 n h, mag_one f)

unit_pos : (f : Format) (s : Bool) (m : ℕ) (e : ℤ) → T (fits f (fin s m e)) → 0 < m → 0 < unit f m e
unit_pos f s m e p h =
    let u = units_of f s m e p in
    rw (u.value, mul-div_cancel (m * 2 ^ u.shift) (down_pos e)) (mul-pos h (pow_pos u.shift))

any_sign : (f : Format) (s t : Bool) (m : ℕ) (e : ℤ) → T (fits f (fin s m e)) → T (fits f (fin t m e))
unfolding fits
any_sign f s t zero e p = p
any_sign f s t (suc m) e p = p

no_inf : (s t : Bool) (m : ℕ) (e : ℤ) → fin s m e ≡ inf t → ⊥
no_inf s t m e h = subst (λ (x : Float). T (lib.Ieee.Scale.finite x)) h tt

bits_inf : (f : Format) → to_bits f (inf false) ≡ ones f * hid f
unfolding to_bits
bits_inf f = zero-add (ones f * hid f)

bits_false : (f : Format) (m : ℕ) (e : ℤ) → to_bits f (fin false m e) ≡ mag f (unit f m e)
bits_false f m e = to_bits_is f false m e ∙ omega arith

mag_under : (f : Format) (s : Bool) (m : ℕ) (e : ℤ) → T (fits f (fin s m e)) → mag f (unit f m e) < top f
mag_under f s m e p = omega (arith, to_bits-lt f (fin true m e) (any_sign f s true m e p), to_bits_is f true m e)

pub mag_lt : (f : Format) (s : Bool) (m : ℕ) (e : ℤ) → T (fits f (fin s m e)) → mag f (unit f m e) < ones f * hid f
mag_lt f s m e p =
    let x = fin false m e in
    let q = any_sign f s false m e p in
    let b = to_bits f x in
    let i : nan_bits f b ≡ false = nan_bits_is f b ∙ ap is_nan (of_bits-to_bits f x q) ∙ not_nan m e in
    let c : b ≡ mag f (unit f m e) = bits_false f m e in
    let w : b < top f = omega (arith, mag_under f s m e p) in
    let v : T (not (ltb (ones f * hid f) b)) = subst (λ (z : ℕ). T (not (ltb (ones f * hid f) z))) (mod-eq_of_lt w) (subst (λ (z : Bool). T (not z)) (sym i ∙ nan_bits_above f b) tt) in
    elim (eq-or-lt_of_le (nltb→le (ones f * hid f) b v)) [
      | inl g ↦ absurd (no_inf false false m e (sym (of_bits-to_bits f x q) ∙ ap (of_bits f) (g ∙ sym (bits_inf f)) ∙ of_bits-to_bits f (inf false) (inf-fits f false)))
      | inr g ↦ omega arith
    ]
  where
    not_nan : (m : ℕ) (e : ℤ) → is_nan (fin false m e) ≡ false
    not_nan m e = unfold is_nan in refl

-- ---- one place, one value
pat_is : (f : Format) (s : Bool) (n : ℕ) → pat f s n ≡ cond s (top f) 0 + mag f n
pat_is f s n = Nat.add_assoc (cond s (top f) 0) ((size n - prec f) * hid f) (n / 2 ^ (size n - prec f))

inj : (f : Format) (s : Bool) (m : ℕ) (e : ℤ) (n : ℕ) (d : ℤ) → T (fits f (fin s m e)) → T (fits f (fin s n d)) → mag f (unit f m e) ≡ mag f (unit f n d) → fin s m e ≡ fin s n d
inj f s m e n d p q h =
    sym (of_bits-to_bits f (fin s m e) p)
    ∙ ap (of_bits f)
    (to_bits_is f s m e ∙ pat_is f s (unit f m e) ∙ ap (λ (z : ℕ). cond s (top f) 0 + z) h ∙ sym (pat_is f s (unit f n d)) ∙ sym (to_bits_is f s n d))
    ∙ of_bits-to_bits f (fin s n d) q

unit_le : (f : Format) (m : ℕ) (e : ℤ) (n : ℕ) (d : ℤ) → m * up e * down d ≤ n * up d * down e → unit f m e ≤ unit f n d
unit_le f m e n d h =
    let L = 2 ^ low f in
    div_mono (m * up e * L) (down e) (n * up d * L) (down d) (down_pos e) (down_pos d)
    (rw (mul_right_comm (m * up e) L (down d), mul_right_comm (n * up d) L (down e)) (mul-le-mul_right L h))

mag_strict : (f : Format) (s : Bool) (m : ℕ) (e : ℤ) (n : ℕ) (d : ℤ) → T (fits f (fin s m e)) → T (fits f (fin s n d)) → (fin s m e ≡ fin s n d → ⊥)
    → m * up e * down d ≤ n * up d * down e → mag f (unit f m e) < mag f (unit f n d)
mag_strict f s m e n d p q w h =
    elim (eq-or-lt_of_le (mag_mono f (unit f m e) (unit f n d) (unit_le f m e n d h))) [
      | inl g ↦ absurd (w (inj f s m e n d p q g))
      | inr g ↦ g
    ]

lt_apart : (x y : Float) → T (lt x y) → x ≡ y → ⊥
lt_apart x y h e = lt_irrefl x (rw (← e) at h)

consts : (f : Format) → (ones f * hid f < top f) × (0 < ones f * hid f)
consts binary32 = (lit< tt, lit< tt)
consts binary64 = (lit< tt, lit< tt)

one_of : (a b : ℕ) → 0 < a + b → (0 < a) ⊎ (0 < b)
one_of zero b h = inr (omega arith)
one_of (suc a) b h = inl (omega arith)

first : (n u v : ℕ) → 0 < n * u * v → 0 < n
first zero u v h = absurd (omega (arith, Nat.zero-mul u, ap (λ (z : ℕ). z * v) (Nat.zero-mul u)))
first (suc n) u v h = omega arith

-- ---- the laws
pub rank_lt : (f : Format) (x y : Float) → T (fits f x) → T (fits f y) → T (lt x y) → rank f x < rank f y
unfolding lt rank
rank_lt f nan y p q h = absurd h
rank_lt f (inf s) nan p q h = absurd h
rank_lt f (inf true) (inf true) p q h = absurd h
rank_lt f (inf true) (inf false) p q h = omega (arith, consts f)
rank_lt f (inf false) (inf t) p q h = absurd h
rank_lt f (inf true) (fin true n d) p q h = omega (arith, consts f, mag_lt f true n d q)
rank_lt f (inf true) (fin false n d) p q h = omega (arith, consts f)
rank_lt f (inf false) (fin t n d) p q h = absurd h
rank_lt f (fin s m e) nan p q h = absurd h
rank_lt f (fin s m e) (inf true) p q h = absurd h
rank_lt f (fin true m e) (inf false) p q h = omega (arith, consts f)
rank_lt f (fin false m e) (inf false) p q h = omega (arith, mag_lt f false m e p)
rank_lt f (fin true m e) (fin true n d) p q h =
    omega (
      arith,
      mag_under f true m e p,
      mag_strict f true n d m e q p (λ (g : fin true n d ≡ fin true m e). lt_apart (fin true m e) (fin true n d) h (sym g)) (omega (arith, lt→cross (fin true m e) (fin true n d) tt tt h)),
    )
rank_lt f (fin false m e) (fin false n d) p q h =
    omega (arith, mag_strict f false m e n d p q (lt_apart (fin false m e) (fin false n d) h) (omega (arith, lt→cross (fin false m e) (fin false n d) tt tt h)))
rank_lt f (fin false m e) (fin true n d) p q h = absurd h
rank_lt f (fin true m e) (fin false n d) p q h =
    elim (one_of (m * up e * down d) (n * up d * down e) (ltb→lt 0 (m * up e * down d + n * up d * down e) h)) [
      | inl a ↦ omega (arith, mag_under f true m e p, mag_pos f (unit f m e) (unit_pos f true m e p (first m (up e) (down d) a)))
      | inr a ↦ omega (arith, mag_pos f (unit f n d) (unit_pos f false n d q (first n (up d) (down e) a)))
    ]

pub rank_bound : (f : Format) (x : Float) → T (fits f x) → rank f x < 2 * top f
unfolding rank
rank_bound f nan p = omega (arith, consts f)
rank_bound f (inf true) p = omega (arith, consts f)
rank_bound f (inf false) p = omega (arith, consts f)
rank_bound f (fin true m e) p = omega (arith, consts f)
rank_bound f (fin false m e) p = omega (arith, mag_under f false m e p)

pub rank_32 : (x : Float) → T (fits binary32 x) → rank binary32 x < 2 ^ 32
rank_32 x p = rank_bound binary32 x p
