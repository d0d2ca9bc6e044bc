-- Signed sums keep the order: `add` and `sub` are monotone, rounding, signed zeros and overflow included. Assumes nothing.
use Rattle.std.specs.Prelude.{◌≡◌, refl, ℕ, zero, suc, ◌+◌, ◌-◌, ◌*◌, ◌/◌, ◌^◌, ◌≤◌, ◌<◌, Bool, true, false, not, cond, pos, T, ltb, Float}
use Rattle.std.proofs.Common.{sym, ap, ◌∙◌, subst, arith, mul_comm, mul_assoc, mul_left_comm, mul-le-mul_right, add-mul, mul-pos, zero-mul, ltb→lt, lt→ltb, nltb→le, pow_pos}
use Rattle.std.proofs.Math.Nat as Nat
use Rattle.std.specs.Float.{nan, inf, fin, Format}
use Rattle.std.specs.Float.Ieee.{prec, emax, low, up, down, size, odd, units, round, sum, add, sub, mul, unlike, le, neg}
use Rattle.std.specs.Float.Ieee.Fits.{down_pos, round_is}
use Rattle.std.specs.Float.Ieee.Nearest.{closest, closest_same}
use Rattle.std.specs.Float.Ieee.Order.{round_mono}
use Rattle.std.specs.Float.Ieee.Scale.{finite}
use Rattle.real32.specs.Order.{real, pp, nn, P, N, D, D-pos, le→cross, le_refl, le_bot, le_top, le_trans, le_real_l, le_real_r, neg_le, neg_finite}

-- ---- `round` and the sign
cond_neg : (b : Bool) (x y x' y' : Float) → neg x ≡ x' → neg y ≡ y' → neg (cond b x y) ≡ cond b x' y'
cond_neg true x y x' y' h k = h
cond_neg false x y x' y' h k = k

odd_neg : (d : ℕ) (s : Bool) (q k l : ℕ) → neg (odd d s q k l) ≡ odd d (not s) q k l
unfolding neg odd
odd_neg d s zero k l = refl
odd_neg d s (suc q) k l = refl

inf_neg : (s : Bool) → neg (inf s) ≡ inf (not s)
unfolding neg
inf_neg s = refl

units_neg : (f : Format) (s : Bool) (q k : ℕ) → neg (units f s q k) ≡ units f (not s) q k
unfolding units
units_neg f s q k = cond_neg (ltb (q * 2 ^ k) (2 ^ (low f + suc (emax f)))) (odd (suc (prec f)) s q k (low f)) (inf s) (odd (suc (prec f)) (not s) q k (low f)) (inf (not s)) (odd_neg (suc (prec f)) s q k (low f)) (inf_neg s)

pub round_neg : (f : Format) (s : Bool) (a c : ℕ) → neg (round f s a c) ≡ round f (not s) a c
round_neg f s a c =
    let n = a * 2 ^ low f in
    let k = size (n / c) - prec f in
    ap neg (round_is f s a c) ∙ units_neg f s (closest n (c * 2 ^ k)) k ∙ sym (round_is f (not s) a c)

cond_real : (b : Bool) (x y : Float) → T (real x) → T (real y) → T (real (cond b x y))
cond_real true x y h k = h
cond_real false x y h k = k

odd_real : (d : ℕ) (s : Bool) (q k l : ℕ) → T (real (odd d s q k l))
unfolding odd
odd_real d s zero k l = tt
odd_real d s (suc q) k l = tt

units_real : (f : Format) (s : Bool) (q k : ℕ) → T (real (units f s q k))
unfolding units
units_real f s q k = cond_real (ltb (q * 2 ^ k) (2 ^ (low f + suc (emax f)))) (odd (suc (prec f)) s q k (low f)) (inf s) (odd_real (suc (prec f)) s q k (low f)) tt

pub round_real : (f : Format) (s : Bool) (a c : ℕ) → T (real (round f s a c))
round_real f s a c =
    let n = a * 2 ^ low f in
    let k = size (n / c) - prec f in
    subst (λ (x : Float). T (real x)) (sym (round_is f s a c)) (units_real f s (closest n (c * 2 ^ k)) k)

-- ---- zeros
abbrev pub zp : Float
zp = fin false 0 (pos 0)

abbrev pub zn : Float
zn = fin true 0 (pos 0)

units_zero : (f : Format) (s : Bool) (q k : ℕ) → q ≡ 0 → units f s q k ≡ fin s 0 (pos 0)
unfolding units odd
units_zero f s q k e = ap (λ (z : ℕ). units f s z k) e ∙ go (ltb (0 * 2 ^ k) (2 ^ (low f + suc (emax f)))) (lt→ltb (0 * 2 ^ k) (2 ^ (low f + suc (emax f))) (omega (arith, pow_pos (low f + suc (emax f)))))
  where
    go : (b : Bool) → T b → cond b (odd (suc (prec f)) s 0 k (low f)) (inf s) ≡ fin s 0 (pos 0)
    go true t = refl
    go false t = absurd t

pub round_zero : (f : Format) (s : Bool) (a c : ℕ) → 0 < c → a ≡ 0 → round f s a c ≡ fin s 0 (pos 0)
round_zero f s a c C e =
    let n = a * 2 ^ low f in
    let k = size (n / c) - prec f in
    let z : n ≡ 0 = ap (λ (x : ℕ). x * 2 ^ low f) e ∙ zero-mul (2 ^ low f) in
    round_is f s a c ∙ units_zero f s (closest n (c * 2 ^ k)) k (closest_same n (c * 2 ^ k) 0 1 (mul-pos C (pow_pos k)) (pow_pos 0) (omega arith))

zeros_le : (s t : Bool) → T (le (fin s 0 (pos 0)) (fin t 0 (pos 0)))
unfolding le
zeros_le true true = tt
zeros_le true false = tt
zeros_le false true = tt
zeros_le false false = tt

-- a product is 0 only where a factor is
pub none : (a d : ℕ) → 0 < d → a * d ≡ 0 → a ≡ 0
none zero d D h = refl
none (suc a) d D h = absurd (Nat.lt_irrefl 0 (subst (λ (x : ℕ). 0 < x) h (mul-pos (Nat.zero-lt-suc a) D)))

-- ---- `round` is monotone, whatever the signs

round_zeros : (f : Format) (s : Bool) (a c : ℕ) (t : Bool) (b d : ℕ) → 0 < c → 0 < d → a ≡ 0 → b ≡ 0 → T (le (round f s a c) (round f t b d))
round_zeros f s a c t b d C D g h = rw (round_zero f s a c C g, round_zero f t b d D h) (zeros_le s t)

both_neg : (f : Format) (a c b d : ℕ) → 0 < c → 0 < d → b * c ≤ a * d → T (le (round f true a c) (round f true b d))
both_neg f a c b d C D h = rw (round_neg f false a c, round_neg f false b d) at (neg_le (round f false b d) (round f false a c) (round_mono f b d a c D C h))

pub round_le : (f : Format) (s : Bool) (a c : ℕ) (t : Bool) (b d : ℕ) → 0 < c → 0 < d → pp s a * d + nn t b * c ≤ pp t b * c + nn s a * d → T (le (round f s a c) (round f t b d))
round_le f false a c false b d C D h = round_mono f a c b d C D (omega arith)
round_le f false a c true b d C D h = round_zeros f false a c true b d C D (none a d D (omega arith)) (none b c C (omega arith))
round_le f true a c false b d C D h =
    le_trans (round f true a c) (round f true 0 c) (round f false b d) (both_neg f a c 0 c C C (omega arith))
    (le_trans (round f true 0 c) (round f false 0 c) (round f false b d) (round_zeros f true 0 c false 0 c C C refl refl) (round_mono f 0 c b d C D (omega arith)))
round_le f true a c true b d C D h = both_neg f a c b d C D (omega arith)

-- ---- x is (p - n) / c rounded
pub record Rounded (f : Format) (x : Float) (p n c : ℕ) : Type 0 where
  pub sign : Bool
  pub size : ℕ
  pub is : x ≡ round f sign size c
  pub value : pp sign size + n ≡ p + nn sign size

spread : (u n p w d : ℕ) → u + n ≡ p + w → u * d + n * d ≡ p * d + w * d
spread u n p w d h = sym (add-mul u n d) ∙ ap (λ (x : ℕ). x * d) h ∙ add-mul p w d

pub rounded_le : (f : Format) (x y : Float) (p n c q m d : ℕ) → Rounded f x p n c → Rounded f y q m d → 0 < c → 0 < d → p * d + m * c ≤ q * c + n * d → T (le x y)
rounded_le f x y p n c q m d r k C D h =
    let s = r.sign in
    let a = r.size in
    let t = k.sign in
    let b = k.size in
    let v : pp s a * d + n * d ≡ p * d + nn s a * d = spread (pp s a) n p (nn s a) d r.value in
    let w : pp t b * c + m * c ≡ q * c + nn t b * c = spread (pp t b) m q (nn t b) c k.value in
    rw (r.is, k.is) (round_le f s a c t b d C D (omega arith))

sum_rounded : (f : Format) (s : Bool) (a d : ℕ) (t : Bool) (b e c : ℕ) → Rounded f (sum f s (a * d) t (b * e) c) (pp s a * d + pp t b * e) (nn s a * d + nn t b * e) c
unfolding sum
sum_rounded f true a d true b e c = record { sign = true; size = a * d + b * e; is = refl; value = omega arith }
sum_rounded f false a d false b e c = record { sign = false; size = a * d + b * e; is = refl; value = omega arith }
sum_rounded f false a d true b e c = go (ltb (a * d) (b * e)) (ltb→lt (a * d) (b * e)) (nltb→le (a * d) (b * e))
  where
    go : (g : Bool) → (T g → a * d < b * e) → (T (not g) → b * e ≤ a * d) → Rounded f (cond g (round f true (b * e - a * d) c) (round f false (a * d - b * e) c)) (a * d + 0 * e) (0 * d + b * e) c
    go true h k = record { sign = true; size = b * e - a * d; is = refl; value = omega (arith, h tt) }
    go false h k = record { sign = false; size = a * d - b * e; is = refl; value = omega (arith, k tt) }
sum_rounded f true a d false b e c = go (ltb (a * d) (b * e)) (ltb (b * e) (a * d)) (ltb→lt (a * d) (b * e)) (nltb→le (a * d) (b * e)) (ltb→lt (b * e) (a * d)) (nltb→le (b * e) (a * d))
  where
    go : (g l : Bool) → (T g → a * d < b * e) → (T (not g) → b * e ≤ a * d) → (T l → b * e < a * d) → (T (not l) → a * d ≤ b * e)
        → Rounded f (cond g (round f false (b * e - a * d) c) (round f l (a * d - b * e) c)) (0 * d + b * e) (a * d + 0 * e) c
    go true l h k h' k' = record { sign = false; size = b * e - a * d; is = refl; value = omega (arith, h tt) }
    go false true h k h' k' = record { sign = true; size = a * d - b * e; is = refl; value = omega (arith, k tt) }
    go false false h k h' k' = record { sign = false; size = a * d - b * e; is = refl; value = omega (arith, k tt, k' tt) }

pub add_rounded : (f : Format) (x y : Float) → T (finite x) → T (finite y) → Rounded f (add f x y) (P x * D y + P y * D x) (N x * D y + N y * D x) (D x * D y)
unfolding add
add_rounded f nan y p q = absurd p
add_rounded f (inf s) y p q = absurd p
add_rounded f (fin s m e) nan p q = absurd q
add_rounded f (fin s m e) (inf t) p q = absurd q
add_rounded f (fin s m e) (fin t n d) p q = sum_rounded f s (m * up e) (down d) t (n * up d) (down e) (down e * down d)

pub rounded_real : (f : Format) (x : Float) (p n c : ℕ) → Rounded f x p n c → T (real x)
rounded_real f x p n c r = rw r.is (round_real f r.sign r.size c)

-- ---- when a sum is no NaN
pub add_real : (f : Format) (x y : Float) → T (finite x) → T (real y) → T (real (add f x y))
unfolding add
add_real f nan y p q = absurd p
add_real f (inf s) y p q = absurd p
add_real f (fin s m e) nan p q = absurd q
add_real f (fin s m e) (inf t) p q = tt
add_real f (fin s m e) (fin t n d) p q =
    let x = fin s m e in
    let y = fin t n d in
    rounded_real f (add f x y) (P x * D y + P y * D x) (N x * D y + N y * D x) (D x * D y) (add_rounded f x y tt tt)

-- ---- monotone
cross : (p n d p' n' d' p'' n'' d'' : ℕ) → p * d' + n' * d ≤ p' * d + n * d'
    → (p * d'' + p'' * d) * (d' * d'') + (n' * d'' + n'' * d') * (d * d'') ≤ (p' * d'' + p'' * d') * (d * d'') + (n * d'' + n'' * d) * (d' * d'')
cross p n d p' n' d' p'' n'' d'' h =
    let k = simp (add-mul, mul_assoc, mul_comm) at (mul-le-mul_right (d'' * d'') h) in
    simp (add-mul, mul_assoc, mul_comm, mul_left_comm) (omega (arith, k))

pub add_mono : (f : Format) (x y z : Float) → T (real (add f x z)) → T (real (add f y z)) → T (le x y) → T (le (add f x z) (add f y z))
unfolding add le
add_mono f nan y z p q h = absurd h
add_mono f (inf true) y nan p q h = absurd p
add_mono f (inf true) y (inf true) p q h = le_bot (add f y (inf true)) q
add_mono f (inf true) y (inf false) p q h = absurd p
add_mono f (inf true) y (fin u o c) p q h = le_bot (add f y (fin u o c)) q
add_mono f (inf false) nan z p q h = absurd h
add_mono f (inf false) (inf true) z p q h = absurd h
add_mono f (inf false) (inf false) z p q h = le_refl (add f (inf false) z) p
add_mono f (inf false) (fin t n d) z p q h = absurd h
add_mono f (fin s m e) nan z p q h = absurd h
add_mono f (fin s m e) (inf true) z p q h = absurd h
add_mono f (fin s m e) (inf false) nan p q h = absurd q
add_mono f (fin s m e) (inf false) (inf true) p q h = absurd q
add_mono f (fin s m e) (inf false) (inf false) p q h = tt
add_mono f (fin s m e) (inf false) (fin u o c) p q h = le_top (add f (fin s m e) (fin u o c)) p
add_mono f (fin s m e) (fin t n d) nan p q h = absurd p
add_mono f (fin s m e) (fin t n d) (inf u) p q h = le_refl (inf u) tt
add_mono f (fin s m e) (fin t n d) (fin u o c) p q h =
    let x = fin s m e in
    let y = fin t n d in
    let z = fin u o c in
    rounded_le f (add f x z) (add f y z) (P x * D z + P z * D x) (N x * D z + N z * D x) (D x * D z) (P y * D z + P z * D y) (N y * D z + N z * D y) (D y * D z)
    (add_rounded f x z tt tt) (add_rounded f y z tt tt) (mul-pos (D-pos x) (D-pos z)) (mul-pos (D-pos y) (D-pos z))
    (cross (P x) (N x) (D x) (P y) (N y) (D y) (P z) (N z) (D z) (le→cross x y tt tt h))

-- ---- a sum commutes, NaNs, infinities and zeros included
cond_comm : (f : Format) (a b c : ℕ) (g l : Bool) → (T g → a < b) → (T (not g) → b ≤ a) → (T l → b < a) → (T (not l) → a ≤ b)
    → cond g (round f true (b - a) c) (round f false (a - b) c) ≡ cond l (round f false (a - b) c) (round f g (b - a) c)
cond_comm f a b c true true h k h' k' = absurd (omega (arith, h tt, h' tt))
cond_comm f a b c true false h k h' k' = refl
cond_comm f a b c false true h k h' k' = refl
cond_comm f a b c false false h k h' k' =
    let e : a - b ≡ b - a = omega (arith, k tt, k' tt) in
    ap (λ (z : ℕ). round f false z c) e

sum_comm : (f : Format) (s : Bool) (a : ℕ) (t : Bool) (b c : ℕ) → sum f s a t b c ≡ sum f t b s a c
unfolding sum
sum_comm f true a true b c = ap (λ (z : ℕ). round f true z c) (Nat.add_comm a b)
sum_comm f false a false b c = ap (λ (z : ℕ). round f false z c) (Nat.add_comm a b)
sum_comm f false a true b c = cond_comm f a b c (ltb a b) (ltb b a) (ltb→lt a b) (nltb→le a b) (ltb→lt b a) (nltb→le b a)
sum_comm f true a false b c = sym (cond_comm f b a c (ltb b a) (ltb a b) (ltb→lt b a) (nltb→le b a) (ltb→lt a b) (nltb→le a b))

pub add_comm : (f : Format) (x y : Float) → add f x y ≡ add f y x
unfolding add
add_comm f nan nan = refl
add_comm f nan (inf t) = refl
add_comm f nan (fin t n d) = refl
add_comm f (inf s) nan = refl
add_comm f (inf true) (inf true) = refl
add_comm f (inf true) (inf false) = refl
add_comm f (inf false) (inf true) = refl
add_comm f (inf false) (inf false) = refl
add_comm f (inf s) (fin t n d) = refl
add_comm f (fin s m e) nan = refl
add_comm f (fin s m e) (inf t) = refl
add_comm f (fin s m e) (fin t n d) =
    sum_comm f s (m * up e * down d) t (n * up d * down e) (down e * down d) ∙ ap (λ (z : ℕ). sum f t (n * up d * down e) s (m * up e * down d) z) (mul_comm (down e) (down d))

pub add_mono_r : (f : Format) (z x y : Float) → T (real (add f z x)) → T (real (add f z y)) → T (le x y) → T (le (add f z x) (add f z y))
add_mono_r f z x y p q h =
    rw (add_comm f z x, add_comm f z y) (add_mono f x y z (rw (add_comm f z x) at p) (rw (add_comm f z y) at q) h)

pub add_real_r : (f : Format) (x y : Float) → T (real x) → T (finite y) → T (real (add f x y))
add_real_r f x y p q = rw (add_comm f x y) (add_real f y x q p)

-- with a finite addend nothing has to be said of the sums
pub add_le : (f : Format) (x y z : Float) → T (finite z) → T (le x y) → T (le (add f x z) (add f y z))
add_le f x y z q h = add_mono f x y z (add_real_r f x z (le_real_l x y h) q) (add_real_r f y z (le_real_r x y h) q) h

pub add_le_r : (f : Format) (z x y : Float) → T (finite z) → T (le x y) → T (le (add f z x) (add f z y))
add_le_r f z x y q h = add_mono_r f z x y (add_real f z x q (le_real_l x y h)) (add_real f z y q (le_real_r x y h)) h

-- ---- a difference: x - y is x + (-y)
pub sub_is : (f : Format) (x y : Float) → sub f x y ≡ add f x (neg y)
unfolding sub
sub_is f x y = refl

pub sub_le : (f : Format) (x y z : Float) → T (finite z) → T (le x y) → T (le (sub f x z) (sub f y z))
sub_le f x y z q h = rw (sub_is f x z, sub_is f y z) (add_le f x y (neg z) (neg_finite z q) h)

pub sub_ge : (f : Format) (z x y : Float) → T (finite z) → T (le x y) → T (le (sub f z y) (sub f z x))
sub_ge f z x y q h = rw (sub_is f z x, sub_is f z y) (add_le_r f z (neg y) (neg x) q (neg_le x y h))

-- x - x is +0
pub sum_self : (f : Format) (s : Bool) (a c : ℕ) → 0 < c → sum f s a (not s) a c ≡ zp
unfolding sum
sum_self f true a c C = go (ltb a a) (ltb→lt a a)
  where
    go : (g : Bool) → (T g → a < a) → cond g (round f false (a - a) c) (round f g (a - a) c) ≡ zp
    go true h = absurd (Nat.lt_irrefl a (h tt))
    go false h = round_zero f false (a - a) c C (omega arith)
sum_self f false a c C = go (ltb a a) (ltb→lt a a)
  where
    go : (g : Bool) → (T g → a < a) → cond g (round f true (a - a) c) (round f false (a - a) c) ≡ zp
    go true h = absurd (Nat.lt_irrefl a (h tt))
    go false h = round_zero f false (a - a) c C (omega arith)

pub sub_self : (f : Format) (x : Float) → T (finite x) → sub f x x ≡ zp
unfolding sub
sub_self f nan p = absurd p
sub_self f (inf s) p = absurd p
sub_self f (fin s m e) p = sum_self f s (m * up e * down e) (down e * down e) (mul-pos (down_pos e) (down_pos e))

-- ---- infinities
pub inf_add : (f : Format) (s : Bool) (w : Float) → T (finite w) → add f (inf s) w ≡ inf s
unfolding add
inf_add f s nan h = absurd h
inf_add f s (inf t) h = absurd h
inf_add f s (fin t n d) h = refl

pub add_inf : (f : Format) (w : Float) (s : Bool) → T (finite w) → add f w (inf s) ≡ inf s
add_inf f w s h = add_comm f w (inf s) ∙ inf_add f s w h

-- ---- the negated value is the negated fraction rounded
flip : (s : Bool) (a n p : ℕ) → pp s a + n ≡ p + nn s a → pp (not s) a + p ≡ n + nn (not s) a
flip true a n p h = omega arith
flip false a n p h = omega arith

pub neg_rounded : (f : Format) (x : Float) (p n c : ℕ) → Rounded f x p n c → Rounded f (neg x) n p c
neg_rounded f x p n c r = record { sign = not r.sign; size = r.size; is = ap neg r.is ∙ round_neg f r.sign r.size c; value = flip r.sign r.size n p r.value }

-- ---- a product
round_product : (f : Format) (s : Bool) (a : ℕ) (t : Bool) (b c : ℕ) → Rounded f (round f (unlike s t) (a * b) c) (pp s a * pp t b + nn s a * nn t b) (pp s a * nn t b + nn s a * pp t b) c
round_product f true a true b c = record { sign = false; size = a * b; is = refl; value = omega arith }
round_product f true a false b c = record { sign = true; size = a * b; is = refl; value = omega arith }
round_product f false a true b c = record { sign = true; size = a * b; is = refl; value = omega arith }
round_product f false a false b c = record { sign = false; size = a * b; is = refl; value = omega arith }

pub mul_rounded : (f : Format) (x y : Float) → T (finite x) → T (finite y) → Rounded f (mul f x y) (P x * P y + N x * N y) (P x * N y + N x * P y) (D x * D y)
unfolding mul
mul_rounded f nan y p q = absurd p
mul_rounded f (inf s) y p q = absurd p
mul_rounded f (fin s m e) nan p q = absurd q
mul_rounded f (fin s m e) (inf t) p q = absurd q
mul_rounded f (fin s m e) (fin t n d) p q = round_product f s (m * up e) t (n * up d) (down e * down d)
