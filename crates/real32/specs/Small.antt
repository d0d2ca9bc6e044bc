-- Magnitudes: `at_most b x` says that x is finite and between -b and b. A sum's bound is the sum of the bounds, where the format holds that number.
-- `tame` is document 01's test of an input: finite, and of magnitude below 2 ^ 100. Assumes nothing.
use Rattle.std.specs.Prelude.{◌≡◌, refl, ℕ, suc, ◌+◌, ◌*◌, ◌^◌, ◌≤◌, ◌<◌, pos, Float}
use Rattle.std.proofs.Common.{sym, ap, ◌∙◌, subst, arith, mul_comm, mul_assoc, mul_right_comm, mul-le-mul_right, mul-le-mul_left, mul-pos, mul-one, one-mul, add-mul, mul-lt-mul_of_pos_right, pow-suc, pow_pos, pow-add}
use Rattle.std.proofs.Math.Nat as Nat
use mathlib.Core.Bool.{Bool, true, false, ◌&&◌}
use lib.Dec.{T, leb, leb→le, le→leb}
use Rattle.std.proofs.Math.Pow.{pow-lt}
use Rattle.std.specs.Float.{nan, inf, fin, Format, binary32, binary64}
use Rattle.std.specs.Float.Ieee.{prec, emax, low, up, down, round, add, sub, mul, lt, le, neg}
use Rattle.std.specs.Float.Ieee.Fits.{down_pos, and_i, and_l, and_r}
use Rattle.std.specs.Float.Ieee.Exact.{HasValue, round_exact}
use Rattle.std.specs.Float.Ieee.Scale.{finite}
use Rattle.real32.specs.Order.{real, finite_real, pp, nn, P, N, D, D-pos, le→cross, lt→le}
use Rattle.real32.specs.Sum.{Rounded, rounded_le, add_rounded, mul_rounded, sub_is, round_neg}

-- finite, and at most b in size
abbrev pub at_most : ℕ → Float → Bool
at_most b nan = false
at_most b (inf s) = false
at_most b (fin s m e) = leb (m * up e) (b * down e)

pub at_most_finite : (b : ℕ) (x : Float) → T (at_most b x) → T (finite x)
at_most_finite b nan h = h
at_most_finite b (inf s) h = h
at_most_finite b (fin s m e) h = tt

pub at_most_mono : (b c : ℕ) (x : Float) → b ≤ c → T (at_most b x) → T (at_most c x)
at_most_mono b c nan l h = h
at_most_mono b c (inf s) l h = h
at_most_mono b c (fin s m e) l h = le→leb (m * up e) (c * down e) (Nat.le_trans (leb→le (m * up e) (b * down e) h) (mul-le-mul_right (down e) l))

pub at_most_neg : (b : ℕ) (x : Float) → T (at_most b x) → T (at_most b (neg x))
unfolding neg
at_most_neg b nan h = h
at_most_neg b (inf s) h = h
at_most_neg b (fin s m e) h = h

-- the magnitude is P + N over D
size_le : (b : ℕ) (x : Float) → T (at_most b x) → P x + N x ≤ b * D x
size_le b nan h = absurd h
size_le b (inf s) h = absurd h
size_le b (fin true m e) h = omega (arith, leb→le (m * up e) (b * down e) h)
size_le b (fin false m e) h = omega (arith, leb→le (m * up e) (b * down e) h)

-- ---- from two comparisons with a constant c that is b

sink : (a d b u v : ℕ) → 0 < v → u * 1 ≡ b * v → a * v ≤ u * d → a ≤ b * d
sink a d b u v W h k = Nat.le_of_mul-le-mul_right (Nat.le_trans k (Nat.le_of_eq (ap (λ (z : ℕ). z * d) (sym (mul-one u) ∙ h) ∙ mul_right_comm b v d))) W

pub test→atMost : (b : ℕ) (c x : Float) → HasValue c false b 1 → T (le (neg c) x && le x c) → T (at_most b x)
unfolding neg le
test→atMost b nan x v h = absurd v
test→atMost b (inf t) x v h = absurd v
test→atMost b (fin true n d) x v h = absurd (mathlib.Core.Bool.true≢false v.0)
test→atMost b (fin false n d) nan v h = absurd h
test→atMost b (fin false n d) (inf true) v h = absurd h
test→atMost b (fin false n d) (inf false) v h = absurd h
test→atMost b (fin false n d) (fin s m e) v h =
    le→leb (m * up e) (b * down e)
    (sink (m * up e) (down e) b (n * up d) (down d) (down_pos d) v.1
    (go s (le→cross (fin true n d) (fin s m e) tt tt (and_l (le (fin true n d) (fin s m e)) (le (fin s m e) (fin false n d)) h))
    (le→cross (fin s m e) (fin false n d) tt tt (and_r (le (fin true n d) (fin s m e)) (le (fin s m e) (fin false n d)) h))))
  where
    go : (s : Bool) → 0 * down e + nn s (m * up e) * down d ≤ pp s (m * up e) * down d + n * up d * down e
        → pp s (m * up e) * down d + 0 * down e ≤ n * up d * down e + nn s (m * up e) * down d → m * up e * down d ≤ n * up d * down e
    go true k l = omega arith
    go false k l = omega arith

-- ---- sums and products

-- the format holds the number b
abbrev pub Rep : Format → ℕ → Type 0
Rep f b = HasValue (round f false b 1) false b 1

-- what is (p - n) / d rounded is at most b in size where p / d and n / d are
rounded_at_most : (f : Format) (b : ℕ) (x : Float) (p n d : ℕ) → Rep f b → Rounded f x p n d → 0 < d → p ≤ b * d → n ≤ b * d → T (at_most b x)
rounded_at_most f b x p n d r z pos-d u v =
    let c = round f false b 1 in
    let C : Rounded f c b 0 1 = record { sign = false; size = b; is = refl; value = omega arith } in
    let C' : Rounded f (neg c) 0 b 1 = record { sign = true; size = b; is = round_neg f false b 1; value = omega arith } in
    test→atMost b c x r
    (and_i (le (neg c) x) (le x c) (rounded_le f (neg c) x 0 b 1 p n d C' z (pow_pos 0) pos-d (omega arith)) (rounded_le f x c p n d b 0 1 z C pos-d (pow_pos 0) (omega arith)))

reach : (a b p p' d d' : ℕ) → p ≤ a * d → p' ≤ b * d' → p * d' + p' * d ≤ (a + b) * (d * d')
reach a b p p' d d' h k =
    let x : p * d' ≤ a * (d * d') = Nat.le_trans (mul-le-mul_right d' h) (Nat.le_of_eq (mul_assoc a d d')) in
    let y : p' * d ≤ b * (d * d') = Nat.le_trans (mul-le-mul_right d k) (Nat.le_of_eq (mul_assoc b d' d ∙ ap (λ (z : ℕ). b * z) (mul_comm d' d))) in
    simp add-mul (omega arith)

pub at_most_add : (f : Format) (a b : ℕ) (x y : Float) → Rep f (a + b) → T (at_most a x) → T (at_most b y) → T (at_most (a + b) (add f x y))
at_most_add f a b x y r h k =
    rounded_at_most f (a + b) (add f x y) (P x * D y + P y * D x) (N x * D y + N y * D x) (D x * D y) r
    (add_rounded f x y (at_most_finite a x h) (at_most_finite b y k)) (mul-pos (D-pos x) (D-pos y))
    (reach a b (P x) (P y) (D x) (D y) (omega (arith, size_le a x h)) (omega (arith, size_le b y k)))
    (reach a b (N x) (N y) (D x) (D y) (omega (arith, size_le a x h)) (omega (arith, size_le b y k)))

pub at_most_sub : (f : Format) (a b : ℕ) (x y : Float) → Rep f (a + b) → T (at_most a x) → T (at_most b y) → T (at_most (a + b) (sub f x y))
at_most_sub f a b x y r h k = rw (sub_is f x y) (at_most_add f a b x (neg y) r h (at_most_neg b y k))

shrink : (b p n d p' n' d' : ℕ) → p + n ≤ 1 * d → p' ≤ b * d' → n' ≤ b * d' → p * p' + n * n' ≤ b * (d * d')
shrink b p n d p' n' d' h k l =
    let x : p * p' ≤ p * (b * d') = mul-le-mul_left p k in
    let y : n * n' ≤ n * (b * d') = mul-le-mul_left n l in
    let z : (p + n) * (b * d') ≤ d * (b * d') = mul-le-mul_right (b * d') (omega arith) in
    let e : (p + n) * (b * d') ≡ p * (b * d') + n * (b * d') = add-mul p n (b * d') in
    let g : d * (b * d') ≡ b * (d * d') = Nat.mul_left_comm d b d' in
    omega arith

-- to multiply by what is at most 1 in size makes nothing larger
pub at_most_mul : (f : Format) (b : ℕ) (z x : Float) → Rep f b → T (at_most 1 z) → T (at_most b x) → T (at_most b (mul f z x))
at_most_mul f b z x r h k =
    rounded_at_most f b (mul f z x) (P z * P x + N z * N x) (P z * N x + N z * P x) (D z * D x) r
    (mul_rounded f z x (at_most_finite 1 z h) (at_most_finite b x k)) (mul-pos (D-pos z) (D-pos x))
    (shrink b (P z) (N z) (D z) (P x) (N x) (D x) (size_le 1 z h) (omega (arith, size_le b x k)) (omega (arith, size_le b x k)))
    (shrink b (P z) (N z) (D z) (N x) (P x) (D x) (size_le 1 z h) (omega (arith, size_le b x k)) (omega (arith, size_le b x k)))

-- q * 2 ^ k, with no more digits than the format keeps, and in its range
pub rep : (f : Format) (q k : ℕ) → q < 2 ^ prec f → q * 2 ^ k < 2 ^ suc (emax f) → Rep f (q * 2 ^ k)
rep f q k s h =
    let e : q * 2 ^ k * 2 ^ low f ≡ q * 2 ^ (k + low f) = mul_assoc q (2 ^ k) (2 ^ low f) ∙ ap (λ (z : ℕ). q * z) (sym (pow-add 2 k (low f))) in
    round_exact f false (q * 2 ^ k) 1 q (k + low f) (pow_pos 0) s
    (subst (λ (z : ℕ). z < 2 ^ (low f + suc (emax f))) e
    (subst (λ (z : ℕ). q * 2 ^ k * 2 ^ low f < z) (mul_comm (2 ^ suc (emax f)) (2 ^ low f) ∙ sym (pow-add 2 (low f) (suc (emax f)))) (mul-lt-mul_of_pos_right h (pow_pos (low f)))))
    (e ∙ sym (mul-one (q * 2 ^ (k + low f))))

one_fits : (f : Format) → 1 < 2 ^ prec f
one_fits binary32 = lib.Dec.lit< tt
one_fits binary64 = lib.Dec.lit< tt

-- ---- at most 2 ^ k in size

abbrev pub small : ℕ → Float → Bool
small k x = at_most (2 ^ k) x

pub rep_pow : (f : Format) (k : ℕ) → k ≤ emax f → Rep f (2 ^ k)
rep_pow f k h = subst (λ (z : ℕ). Rep f z) (one-mul (2 ^ k)) (rep f 1 k (one_fits f) (subst (λ (z : ℕ). z < 2 ^ suc (emax f)) (sym (one-mul (2 ^ k))) (pow-lt (omega arith))))

double : (k : ℕ) → 2 ^ k + 2 ^ k ≡ 2 ^ suc k
double k = omega (arith, pow-suc 2 k)

pub small-add : (f : Format) (k : ℕ) (x y : Float) → k < emax f → T (small k x) → T (small k y) → T (small (suc k) (add f x y))
small-add f k x y l h g =
    subst (λ (z : ℕ). T (at_most z (add f x y))) (double k) (at_most_add f (2 ^ k) (2 ^ k) x y (subst (λ (z : ℕ). Rep f z) (sym (double k)) (rep_pow f (suc k) l)) h g)

pub small-sub : (f : Format) (k : ℕ) (x y : Float) → k < emax f → T (small k x) → T (small k y) → T (small (suc k) (sub f x y))
small-sub f k x y l h g = rw (sub_is f x y) (small-add f k x (neg y) l h (at_most_neg (2 ^ k) y g))

-- i steps of size 2 ^ k: the bound grows by one step, with no loss, as long as i is below 2 ^ prec
pub steps-add : (f : Format) (i k : ℕ) (x w : Float) → suc i < 2 ^ prec f → suc i * 2 ^ k < 2 ^ suc (emax f) → T (at_most (i * 2 ^ k) x) → T (small k w) → T (at_most (suc i * 2 ^ k) (add f x w))
steps-add f i k x w s t h g =
    let e : suc i * 2 ^ k ≡ i * 2 ^ k + 2 ^ k = Nat.suc-mul i (2 ^ k) in
    rw e (at_most_add f (i * 2 ^ k) (2 ^ k) x w (subst (λ (z : ℕ). Rep f z) e (rep f (suc i) k s t)) h g)

-- ---- document 01's test of an input

abbrev pub pow2 : ℕ → Float
pow2 k = fin false 1 (pos k)

-- 2 ^ 100
abbrev pub huge : Float
huge = pow2 100

-- finite, and of magnitude below 2 ^ 100
unfoldable pub tame : Float → Bool
tame x = lt x huge && lt (neg huge) x

pow2_value : (k : ℕ) → HasValue (pow2 k) false (2 ^ k) 1
pow2_value k = (refl, ap (λ (z : ℕ). z * 1) (one-mul (2 ^ k)))

pub tame_small : (x : Float) → T (tame x) → T (small 100 x)
unfolding tame
tame_small x h =
    test→atMost (2 ^ 100) huge x (pow2_value 100)
    (and_i (le (neg huge) x) (le x huge) (lt→le (neg huge) x (and_r (lt x huge) (lt (neg huge) x) h)) (lt→le x huge (and_l (lt x huge) (lt (neg huge) x) h)))

pub tame_finite : (x : Float) → T (tame x) → T (finite x)
tame_finite x h = at_most_finite (2 ^ 100) x (tame_small x h)

pub tame_real : (x : Float) → T (tame x) → T (real x)
tame_real x h = finite_real x (tame_finite x h)

-- a sum or a difference of two such inputs is at most 2 ^ 101 in size
pub tame-add : (x y : Float) → T (tame x) → T (tame y) → T (small 101 (add binary32 x y))
tame-add x y h k = small-add binary32 100 x y (lib.Dec.lit< tt) (tame_small x h) (tame_small y k)

pub tame-sub : (x y : Float) → T (tame x) → T (tame y) → T (small 101 (sub binary32 x y))
tame-sub x y h k = small-sub binary32 100 x y (lib.Dec.lit< tt) (tame_small x h) (tame_small y k)
