-- What fits is not rounded: two values that fit and are level are one, but for the zeros; x + 0 is x; a sum is -0 only where both summands are; a difference is 0 only where its two sides are level.
-- Assumes nothing.
use Rattle.std.specs.Prelude.{◌≡◌, refl, ◌⊎◌, ℕ, zero, suc, ◌+◌, ◌-◌, ◌*◌, ◌/◌, ◌%◌, ◌^◌, ◌≤◌, ◌<◌, ℤ, pos, negsuc, T, leb, ltb, eqb}
use Rattle.std.proofs.Common.{sym, ap, ◌∙◌, subst, inl, inr, arith, mul_comm, mul_assoc, mul_right_comm, mul-le-mul_right, add-mul, mul-pos, zero-mul, mul-one, lt_of_mul-lt-mul_right, mul-lt-mul_of_pos_right, not-le_of_lt, ltb→lt, nltb→le, leb→le, eqb→eq, T_not, pow_pos, pow-add}
use Rattle.std.proofs.Math.Nat as Nat
use mathlib.Core.Bool.{Bool, true, false, not, ◌&&◌, cond}
use Rattle.std.proofs.Math.Dec.{not_T}
use Rattle.std.proofs.Math.Pow.{pow-lt}
use lib.Ieee.{Float, nan, inf, fin, Format, binary32, binary64, prec, emax, low, hid, top, up, down, size, round, sum, add, lt, le, eq, neg, fits, to_bits, of_bits}
use Rattle.std.specs.Float.Ieee.Digits.{back}
use lib.Ieee.Fits.{up_pos, down_pos, and_l, and_r, round-fits}
use Rattle.std.specs.Float.Ieee.Nearest.{div_same}
use Rattle.std.specs.Float.Ieee.Exact.{HasValue, round_exact}
use Rattle.std.specs.Float.Ieee.Order.{round_mono}
use Rattle.std.specs.Float.Ieee.Bits.{of_bits-to_bits}
use Rattle.std.specs.Float.Ieee.Scale.{finite, round_same}
use Rattle.lists.specs.Tests.{lt_or_le}
use Rattle.real32.specs.Order.{real, pp, nn, P, N, D, D-pos, eq→cross, le_trans, lt_le_trans, neg_lt, neg_neg}
use Rattle.real32.specs.Sum.{none, neg_rounded, zp, zn, Rounded, add_rounded, add_comm, add_mono_r, round_zero, sum_self}

-- ---- one value, one datum
-- the pattern, by the sign and the magnitude in units
abbrev pub pat : Format → Bool → ℕ → ℕ
pat f s n = cond s (top f) 0 + (size n - prec f) * hid f + n / 2 ^ (size n - prec f)

pub to_bits_is : (f : Format) (s : Bool) (m : ℕ) (e : ℤ) → to_bits f (fin s m e) ≡ pat f s (m * up e * 2 ^ low f / down e)
unfolding to_bits
to_bits_is f s m e = refl

units_same : (f : Format) (m : ℕ) (e : ℤ) (n : ℕ) (d : ℤ) → m * up e * down d ≡ n * up d * down e → m * up e * 2 ^ low f / down e ≡ n * up d * 2 ^ low f / down d
units_same f m e n d h =
    div_same (m * up e * 2 ^ low f) (down e) (n * up d * 2 ^ low f) (down d) (down_pos e) (down_pos d)
    (mul_right_comm (m * up e) (2 ^ low f) (down d) ∙ ap (λ (z : ℕ). z * 2 ^ low f) h ∙ mul_right_comm (n * up d) (down e) (2 ^ low f))

pub fin_unique : (f : Format) (s : Bool) (m : ℕ) (e : ℤ) (n : ℕ) (d : ℤ) → T (fits f (fin s m e)) → T (fits f (fin s n d)) → m * up e * down d ≡ n * up d * down e → fin s m e ≡ fin s n d
fin_unique f s m e n d p q h =
    sym (of_bits-to_bits f (fin s m e) p)
    ∙ ap (of_bits f) (to_bits_is f s m e ∙ ap (pat f s) (units_same f m e n d h) ∙ sym (to_bits_is f s n d))
    ∙ of_bits-to_bits f (fin s n d) q

-- -- zeros
abbrev pub is_zero : Float → Bool
is_zero nan = false
is_zero (inf s) = false
is_zero (fin s m e) = eqb m 0

not_zero : (m : ℕ) (e d : ℤ) → T (not (eqb m 0)) → m * up e * down d ≡ 0 → ⊥
not_zero m e d h k = T_not (eqb m 0) h (lib.Ieee.Fits.eq→eqb (none m (up e) (up_pos e) (none (m * up e) (down d) (down_pos d) k)))

pub eq_unique : (f : Format) (x y : Float) → T (fits f x) → T (fits f y) → T (not (is_zero x)) → T (eq x y) → x ≡ y
unfolding eq
eq_unique f nan y p q z h = absurd h
eq_unique f (inf s) nan p q z h = absurd h
eq_unique f (inf true) (inf true) p q z h = refl
eq_unique f (inf true) (inf false) p q z h = absurd h
eq_unique f (inf false) (inf true) p q z h = absurd h
eq_unique f (inf false) (inf false) p q z h = refl
eq_unique f (inf s) (fin t n d) p q z h = absurd h
eq_unique f (fin s m e) nan p q z h = absurd h
eq_unique f (fin s m e) (inf t) p q z h = absurd h
eq_unique f (fin true m e) (fin true n d) p q z h = fin_unique f true m e n d p q (omega (arith, eq→cross (fin true m e) (fin true n d) tt tt h))
eq_unique f (fin false m e) (fin false n d) p q z h = fin_unique f false m e n d p q (omega (arith, eq→cross (fin false m e) (fin false n d) tt tt h))
eq_unique f (fin true m e) (fin false n d) p q z h = absurd (not_zero m e d z (omega (arith, eq→cross (fin true m e) (fin false n d) tt tt h)))
eq_unique f (fin false m e) (fin true n d) p q z h = absurd (not_zero m e d z (omega (arith, eq→cross (fin false m e) (fin true n d) tt tt h)))

-- ---- a value that fits, in units of the format's smallest value
pub record Units (f : Format) (m : ℕ) (e : ℤ) : Type 0 where
  pub shift : ℕ
  pub few : m < 2 ^ prec f
  pub fine : m * 2 ^ shift < 2 ^ (low f + suc (emax f))
  pub value : m * up e * 2 ^ low f ≡ m * 2 ^ shift * down e

pow_le : (a b : ℕ) → 2 ^ a ≤ 2 ^ b → a ≤ b
pow_le a b h = go (ltb b a) (ltb→lt b a) (nltb→le b a)
  where
    go : (g : Bool) → (T g → b < a) → (T (not g) → a ≤ b) → a ≤ b
    go true k l = absurd (not-le_of_lt (pow-lt (k tt)) h)
    go false k l = l tt

shifted : (f : Format) (m : ℕ) (e : ℤ) → down e ≤ 2 ^ low f → (j : ℕ) × (m * up e * 2 ^ low f ≡ m * 2 ^ j * down e)
shifted f m (pos a) h = (a + low f, mul_assoc m (2 ^ a) (2 ^ low f) ∙ ap (λ (z : ℕ). m * z) (sym (pow-add 2 a (low f))) ∙ sym (mul-one (m * 2 ^ (a + low f))))
shifted f m (negsuc a) h = (
  low f - suc a,
  ap (λ (z : ℕ). z * 2 ^ low f) (mul-one m)
      ∙ ap (λ (z : ℕ). m * 2 ^ z) (sym (back (low f) (suc a) (pow_le (suc a) (low f) h)))
      ∙ ap (λ (z : ℕ). m * z) (pow-add 2 (low f - suc a) (suc a))
      ∙ sym (mul_assoc m (2 ^ (low f - suc a)) (2 ^ suc a)),
)

pub units_of : (f : Format) (s : Bool) (m : ℕ) (e : ℤ) → T (fits f (fin s m e)) → Units f m e
unfolding fits
units_of f s zero e t =
    record {
      shift = 0;
      few = pow_pos (prec f);
      fine = omega (arith, pow_pos (low f + suc (emax f)));
      value = ap (λ (z : ℕ). z * 2 ^ low f) (zero-mul (up e)) ∙ zero-mul (2 ^ low f) ∙ sym (zero-mul (down e));
    }
units_of f s (suc m) e t =
    let a : Bool = eqb (suc m % 2) 1 in
    let b : Bool = ltb (suc m) (2 ^ prec f) in
    let c : Bool = leb (down e) (2 ^ low f) in
    let d : Bool = ltb (suc m * up e) (2 ^ suc (emax f) * down e) in
    let sh = shifted f (suc m) e (leb→le (down e) (2 ^ low f) (and_r (a && b) c (and_l (a && b && c) d t))) in
    let j = sh.0 in
    let top : suc m * up e < 2 ^ suc (emax f) * down e = ltb→lt (suc m * up e) (2 ^ suc (emax f) * down e) (and_r (a && b && c) d t) in
    record {
      shift = j;
      few = ltb→lt (suc m) (2 ^ prec f) (and_r a b (and_l (a && b) c (and_l (a && b && c) d t)));
      fine =
          lt_of_mul-lt-mul_right (down e)
          (subst (λ (z : ℕ). z < 2 ^ (low f + suc (emax f)) * down e) sh.1
          (subst (λ (z : ℕ). suc m * up e * 2 ^ low f < z)
          (mul_right_comm (2 ^ suc (emax f)) (down e) (2 ^ low f) ∙ ap (λ (z : ℕ). z * down e) (mul_comm (2 ^ suc (emax f)) (2 ^ low f) ∙ sym (pow-add 2 (low f) (suc (emax f)))))
          (mul-lt-mul_of_pos_right top (pow_pos (low f)))));
      value = sh.1;
    }

-- ---- what fits rounds to itself
agree : (f : Format) (x : Float) (s : Bool) (m : ℕ) (e : ℤ) → T (fits f x) → T (fits f (fin s m e)) → HasValue x s (m * up e) (down e) → x ≡ fin s m e
agree f nan s m e p q h = absurd h
agree f (inf t) s m e p q h = absurd h
agree f (fin t n d) s m e p q h =
    ap (λ (b : Bool). fin b n d) h.0 ∙ fin_unique f s n d m e (subst (λ (b : Bool). T (fits f (fin b n d))) h.0 p) q h.1

pub round_fit : (f : Format) (s : Bool) (m : ℕ) (e : ℤ) (a c : ℕ) → T (fits f (fin s m e)) → 0 < c → a * down e ≡ m * up e * c → round f s a c ≡ fin s m e
round_fit f s m e a c p C h =
    let u = units_of f s m e p in
    round_same f s a c (m * up e) (down e) C (down_pos e) h
    ∙ agree f (round f s (m * up e) (down e)) s m e (round-fits f s (m * up e) (down e)) p
    (round_exact f s (m * up e) (down e) m u.shift (down_pos e) u.few u.fine u.value)

-- ---- x + -0 is x, and x + +0 is x but for x = -0
sum_zn : (f : Format) (s : Bool) (m : ℕ) (e : ℤ) (a z c : ℕ) → T (fits f (fin s m e)) → 0 < c → a * down e ≡ m * up e * c → z ≡ 0 → sum f s a true z c ≡ fin s m e
unfolding sum
sum_zn f true m e a z c p C h k = round_fit f true m e (a + z) c p C (ap (λ (w : ℕ). w * down e) (omega arith) ∙ h)
sum_zn f false m e a z c p C h k = go (ltb a z) (ltb→lt a z)
  where
    go : (g : Bool) → (T g → a < z) → cond g (round f true (z - a) c) (round f false (a - z) c) ≡ fin false m e
    go true l = absurd (omega (arith, l tt))
    go false l = round_fit f false m e (a - z) c p C (ap (λ (w : ℕ). w * down e) (omega arith) ∙ h)

pub add_zn : (f : Format) (x : Float) → T (fits f x) → add f x zn ≡ x
unfolding add
add_zn f nan p = refl
add_zn f (inf s) p = refl
add_zn f (fin s m e) p = sum_zn f s m e (m * up e * 1) (0 * 1 * down e) (down e * 1) p (mul-pos (down_pos e) (pow_pos 0)) (simp (mul-one)) (omega arith)

sum_zp : (f : Format) (s : Bool) (m : ℕ) (e : ℤ) (a z c : ℕ) → T (fits f (fin s m e)) → (s ≡ true → 0 < a) → 0 < c → a * down e ≡ m * up e * c → z ≡ 0 → sum f s a false z c ≡ fin s m e
unfolding sum
sum_zp f false m e a z c p g C h k = round_fit f false m e (a + z) c p C (ap (λ (w : ℕ). w * down e) (omega arith) ∙ h)
sum_zp f true m e a z c p g C h k = go (ltb a z) (ltb z a) (ltb→lt a z) (nltb→le z a)
  where
    go : (b l : Bool) → (T b → a < z) → (T (not l) → a ≤ z) → cond b (round f false (z - a) c) (round f l (a - z) c) ≡ fin true m e
    go true l u v = absurd (omega (arith, u tt))
    go false true u v = round_fit f true m e (a - z) c p C (ap (λ (w : ℕ). w * down e) (omega arith) ∙ h)
    go false false u v = absurd (omega (arith, v tt, g refl))

-- -0
abbrev pub is_neg_zero : Float → Bool
is_neg_zero nan = false
is_neg_zero (inf s) = false
is_neg_zero (fin s m e) = s && eqb m 0

above_zero : (s : Bool) (m : ℕ) → T (not (s && eqb m 0)) → s ≡ true → 0 < m
above_zero true zero h k = absurd h
above_zero true (suc m) h k = Nat.zero-lt-suc m
above_zero false m h k = absurd (mathlib.Core.Bool.false≢true k)

pub add_zp : (f : Format) (x : Float) → T (fits f x) → T (not (is_neg_zero x)) → add f x zp ≡ x
unfolding add
add_zp f nan p z = refl
add_zp f (inf s) p z = refl
add_zp f (fin s m e) p z =
    sum_zp f s m e (m * up e * 1) (0 * 1 * down e) (down e * 1) p
    (λ (k : s ≡ true). mul-pos (mul-pos (above_zero s m z k) (up_pos e)) (pow_pos 0)) (mul-pos (down_pos e) (pow_pos 0)) (simp (mul-one)) (omega arith)

-- ---- to add what is not negative takes nothing away; to add what is not positive, nothing to it
pub zn_zp : T (le zn zp)
unfolding le
zn_zp = tt

pub zp_zn : T (le zp zn)
unfolding le
zp_zn = tt

pub real_l : (f : Format) (x w : Float) → T (real (add f x w)) → T (real x)
unfolding add
real_l f nan w q = q
real_l f (inf s) w q = tt
real_l f (fin s m e) w q = tt

pub le_add : (f : Format) (x w : Float) → T (fits f x) → T (real (add f x w)) → T (le zp w) → T (le x (add f x w))
le_add f x w p q h =
    subst (λ (z : Float). T (le z (add f x w))) (add_zn f x p)
    (add_mono_r f x zn w (rw (add_zn f x p) (real_l f x w q)) q (le_trans zn zp w zn_zp h))

-- ---- below: gradual underflow. A difference of two values that fit is a whole number of units
pub record Grid (f : Format) (x : Float) : Type 0 where
  pub above : ℕ
  pub under : ℕ
  pub P-is : P x * 2 ^ low f ≡ above * D x
  pub N-is : N x * 2 ^ low f ≡ under * D x

pub grid_of : (f : Format) (x : Float) → T (finite x) → T (fits f x) → Grid f x
grid_of f nan t p = absurd t
grid_of f (inf s) t p = absurd t
grid_of f (fin true m e) t p =
    let u = units_of f true m e p in
    record { above = 0; under = m * 2 ^ u.shift; P-is = omega arith; N-is = u.value }
grid_of f (fin false m e) t p =
    let u = units_of f false m e p in
    record { above = m * 2 ^ u.shift; under = 0; P-is = u.value; N-is = omega arith }

gap : (p n L A B c : ℕ) → 0 < L → p * L ≡ A * c → n * L ≡ B * c → n < p → c ≤ (p - n) * L
gap p n L A B c Lp h k l =
    let a : n * L < p * L = mul-lt-mul_of_pos_right l Lp in
    let b : B < A = lt_of_mul-lt-mul_right c (omega arith) in
    let d : suc B * c ≤ A * c = mul-le-mul_right c b in
    let e : suc B * c ≡ B * c + c = Nat.suc-mul B c in
    let g : (p - n) * L ≡ p * L - n * L = mul_comm (p - n) L ∙ Nat.mul-sub L p n ∙ ap (λ (z : ℕ). z - L * n) (mul_comm L p) ∙ ap (λ (z : ℕ). p * L - z) (mul_comm L n) in
    omega arith

unfoldable pub tiny : Format → Float
tiny f = round f false 1 (2 ^ low f)

tiny_pos : (f : Format) → T (lt zp (tiny f))
unfolding tiny round lt
tiny_pos binary32 = tt
tiny_pos binary64 = tt

tiny_le : (f : Format) (a c : ℕ) → 0 < c → c ≤ a * 2 ^ low f → T (le (tiny f) (round f false a c))
unfolding tiny
tiny_le f a c C h = round_mono f 1 (2 ^ low f) a c (pow_pos (low f)) C (omega arith)

-- a rounded difference p - n above 0, of whole numbers of units, is above 0
rounded_pos : (f : Format) (x : Float) (p n c A B : ℕ) → Rounded f x p n c → 0 < c → p * 2 ^ low f ≡ A * c → n * 2 ^ low f ≡ B * c → n < p → T (lt zp x)
rounded_pos f x p n c A B r C h k l = go r.sign r.size r.is r.value
  where
    go : (s : Bool) (a : ℕ) → x ≡ round f s a c → pp s a + n ≡ p + nn s a → T (lt zp x)
    go true a i v = absurd (omega arith)
    go false a i v =
        let e : a ≡ p - n = omega arith in
        rw i (lt_le_trans zp (tiny f) (round f false a c) (tiny_pos f) (tiny_le f a c C (subst (λ (z : ℕ). c ≤ z * 2 ^ low f) (sym e) (gap p n (2 ^ low f) A B c (pow_pos (low f)) h k l))))

joined : (p d q e L a b : ℕ) → p * L ≡ a * d → q * L ≡ b * e → (p * e + q * d) * L ≡ (a + b) * (d * e)
joined p d q e L a b h k =
    let x : p * e * L ≡ a * (d * e) = mul_right_comm p e L ∙ ap (λ (z : ℕ). z * e) h ∙ mul_assoc a d e in
    let y : q * d * L ≡ b * (d * e) = mul_right_comm q d L ∙ ap (λ (z : ℕ). z * d) k ∙ mul_assoc b e d ∙ ap (λ (z : ℕ). b * z) (mul_comm e d) in
    simp add-mul (omega arith)

-- x + y is above 0 where x is above -y
pub add_pos : (f : Format) (x y : Float) → T (finite x) → T (finite y) → T (fits f x) → T (fits f y) → N x * D y + N y * D x < P x * D y + P y * D x → T (lt zp (add f x y))
add_pos f x y u v p q h =
    let g = grid_of f x u p in
    let k = grid_of f y v q in
    rounded_pos f (add f x y) (P x * D y + P y * D x) (N x * D y + N y * D x) (D x * D y) (g.above + k.above) (g.under + k.under)
    (add_rounded f x y u v) (mul-pos (D-pos x) (D-pos y))
    (joined (P x) (D x) (P y) (D y) (2 ^ low f) g.above k.above g.P-is k.P-is)
    (joined (N x) (D x) (N y) (D y) (2 ^ low f) g.under k.under g.N-is k.N-is) h

-- the same below 0
rounded_neg : (f : Format) (x : Float) (p n c A B : ℕ) → Rounded f x p n c → 0 < c → p * 2 ^ low f ≡ A * c → n * 2 ^ low f ≡ B * c → p < n → T (lt x zp)
rounded_neg f x p n c A B r C h k l =
    let t : T (lt zp (neg x)) = rounded_pos f (neg x) n p c B A (neg_rounded f x p n c r) C k h l in
    lt_le_trans x (neg zp) zp (subst (λ (z : Float). T (lt z (neg zp))) (neg_neg x) (neg_lt zp (neg x) t)) (unfold le neg in tt)

pub add_neg : (f : Format) (x y : Float) → T (finite x) → T (finite y) → T (fits f x) → T (fits f y) → P x * D y + P y * D x < N x * D y + N y * D x → T (lt (add f x y) zp)
add_neg f x y u v p q h =
    let g = grid_of f x u p in
    let k = grid_of f y v q in
    rounded_neg f (add f x y) (P x * D y + P y * D x) (N x * D y + N y * D x) (D x * D y) (g.above + k.above) (g.under + k.under)
    (add_rounded f x y u v) (mul-pos (D-pos x) (D-pos y))
    (joined (P x) (D x) (P y) (D y) (2 ^ low f) g.above k.above g.P-is k.P-is)
    (joined (N x) (D x) (N y) (D y) (2 ^ low f) g.under k.under g.N-is k.N-is) h

-- ---- a sum is -0 only where both summands are
pub finite_l : (f : Format) (x y : Float) → T (finite (add f x y)) → T (finite x)
unfolding add
finite_l f nan y h = h
finite_l f (inf s) nan h = h
finite_l f (inf true) (inf true) h = h
finite_l f (inf true) (inf false) h = h
finite_l f (inf false) (inf true) h = h
finite_l f (inf false) (inf false) h = h
finite_l f (inf s) (fin t n d) h = h
finite_l f (fin s m e) y h = tt

pub finite_r : (f : Format) (x y : Float) → T (finite (add f x y)) → T (finite y)
finite_r f x y h = finite_l f y x (rw (add_comm f x y) at h)

zp_not_zn : zp ≡ zn → ⊥
zp_not_zn h = subst (λ (x : Float). T (not (is_neg_zero x))) h tt

pub zero_is : (f : Format) (s : Bool) (m : ℕ) (e : ℤ) → T (fits f (fin s m e)) → m ≡ 0 → fin s m e ≡ fin s 0 (pos 0)
zero_is f s m e p h = fin_unique f s m e 0 (pos 0) p (unfold fits in tt) (rw h (omega arith))

nz : (f : Format) (s : Bool) (m : ℕ) (e : ℤ) (t : Bool) (n : ℕ) (d : ℤ) → T (fits f (fin s m e)) → T (fits f (fin t n d))
    → pp s (m * up e) * down d + pp t (n * up d) * down e ≡ nn s (m * up e) * down d + nn t (n * up d) * down e
    → sum f s (m * up e * down d) t (n * up d * down e) (down e * down d) ≡ zn → (fin s m e ≡ zn) × (fin t n d ≡ zn)
nz f true m e true n d p q h k = (
  zero_is f true m e p (none m (up e) (up_pos e) (none (m * up e) (down d) (down_pos d) (omega arith))),
  zero_is f true n d q (none n (up d) (up_pos d) (none (n * up d) (down e) (down_pos e) (omega arith))),
)
nz f false m e false n d p q h k =
    absurd (zp_not_zn (sym (round_zero f false (m * up e * down d + n * up d * down e) (down e * down d) (mul-pos (down_pos e) (down_pos d)) (omega arith)) ∙ unfold sum in k))
nz f true m e false n d p q h k =
    let g : m * up e * down d ≡ n * up d * down e = omega arith in
    absurd (zp_not_zn (sym (sum_self f true (m * up e * down d) (down e * down d) (mul-pos (down_pos e) (down_pos d))) ∙ ap (λ (z : ℕ). sum f true (m * up e * down d) false z (down e * down d)) g ∙ k))
nz f false m e true n d p q h k =
    let g : m * up e * down d ≡ n * up d * down e = omega arith in
    absurd (zp_not_zn (sym (sum_self f false (m * up e * down d) (down e * down d) (mul-pos (down_pos e) (down_pos d))) ∙ ap (λ (z : ℕ). sum f false (m * up e * down d) true z (down e * down d)) g ∙ k))

finite_nz : (f : Format) (x y : Float) → T (finite x) → T (finite y) → T (fits f x) → T (fits f y) → P x * D y + P y * D x ≡ N x * D y + N y * D x → add f x y ≡ zn → (x ≡ zn) × (y ≡ zn)
unfolding add
finite_nz f nan y u v p q h k = absurd u
finite_nz f (inf s) y u v p q h k = absurd u
finite_nz f (fin s m e) nan u v p q h k = absurd v
finite_nz f (fin s m e) (inf t) u v p q h k = absurd v
finite_nz f (fin s m e) (fin t n d) u v p q h k = nz f s m e t n d p q h k

pub add_nz : (f : Format) (x y : Float) → T (fits f x) → T (fits f y) → add f x y ≡ zn → (x ≡ zn) × (y ≡ zn)
add_nz f x y p q h =
    let i : T (finite (add f x y)) = rw h tt in
    let u : T (finite x) = finite_l f x y i in
    let v : T (finite y) = finite_r f x y i in
    let A = P x * D y + P y * D x in
    let B = N x * D y + N y * D x in
    go u v (lt_or_le A B) (lt_or_le B A)
  where
    go : T (finite x) → T (finite y) → (P x * D y + P y * D x < N x * D y + N y * D x) ⊎ (N x * D y + N y * D x ≤ P x * D y + P y * D x) → (N x * D y + N y * D x < P x * D y + P y * D x) ⊎ (P x * D y + P y * D x ≤ N x * D y + N y * D x) → (x ≡ zn) × (y ≡ zn)
    go u v (inl a) b = absurd (unfold lt in (rw h at (add_neg f x y u v p q a)))
    go u v (inr a) (inl b) = absurd (unfold lt in (rw h at (add_pos f x y u v p q b)))
    go u v (inr a) (inr b) = finite_nz f x y u v p q (omega arith) h

fin_nz : (f : Format) (x : Float) → T (fits f x) → T (is_neg_zero x) → x ≡ zn
fin_nz f nan p h = absurd h
fin_nz f (inf s) p h = absurd h
fin_nz f (fin true m e) p h = zero_is f true m e p (eqb→eq m 0 h)
fin_nz f (fin false m e) p h = absurd h

-- so a cost that starts at +0 is never -0
pub not_nz : (f : Format) (x y : Float) → T (fits f x) → T (fits f y) → T (not (is_neg_zero x)) → T (not (is_neg_zero (add f x y)))
not_nz f x y p q h = not_T (is_neg_zero (add f x y)) (λ (k : T (is_neg_zero (add f x y))). absurd (rw (add_nz f x y p q (fin_nz f (add f x y) (lib.Ieee.Fits.add-fits f x y) k)).0 at h))

-- two costs that are level and no -0 are one datum
pub level_same : (f : Format) (x y : Float) → T (fits f x) → T (fits f y) → T (not (is_neg_zero x)) → T (not (is_neg_zero y)) → T (eq x y) → x ≡ y
unfolding eq
level_same f nan y p q u v h = absurd h
level_same f (inf s) y p q u v h = eq_unique f (inf s) y p q tt h
level_same f (fin s zero e) nan p q u v h = absurd h
level_same f (fin s zero e) (inf t) p q u v h = absurd h
level_same f (fin true zero e) (fin t n d) p q u v h = absurd u
level_same f (fin false zero e) (fin true n d) p q u v h = absurd (not_zero n d e (above n v) (omega (arith, eq→cross (fin false zero e) (fin true n d) tt tt h)))
  where
    above : (n : ℕ) → T (not (eqb n 0)) → T (not (eqb n 0))
    above n t = t
level_same f (fin false zero e) (fin false n d) p q u v h = fin_unique f false zero e n d p q (omega (arith, eq→cross (fin false zero e) (fin false n d) tt tt h))
level_same f (fin s (suc m) e) y p q u v h = eq_unique f (fin s (suc m) e) y p q (not_T (eqb (suc m) 0) (λ t. absurd (suc_ne_zero (eqb→eq (suc m) 0 t)))) h
  where
    suc_ne_zero : suc m ≡ 0 → ⊥
    suc_ne_zero e = omega arith
