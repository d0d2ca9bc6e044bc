-- The order of floats that are not NaN, infinities included: `lt`, `le` and `eq` are a total preorder, in which -0 and +0 are level. `neg` turns it round.
-- A finite value is (P - N) / D, three natural numbers, so that its order is one of sums and products. Assumes nothing.
use Rattle.std.specs.Prelude.{◌≡◌, refl, ◌⊎◌, ℕ, ◌+◌, ◌*◌, ◌≤◌, ◌<◌, Bool, true, false, not, ◌&&◌, ◌||◌, T, eqb, Float}
use Rattle.std.proofs.Common.{sym, subst, inl, inr, arith, mul_right_comm, mul-le-mul_right, le_of_mul-le-mul_right, add-mul, ltb→lt, lt→ltb, eqb→eq, T_not}
use Rattle.std.proofs.Math.Dec.{not_T}
use Rattle.std.specs.Float.{nan, inf, fin}
use Rattle.std.specs.Float.Ieee.{up, down, lt, le, eq, neg, is_nan, below, level}
use Rattle.std.specs.Float.Ieee.Fits.{down_pos, and_i, and_l, and_r, eq→eqb}
use Rattle.std.specs.Float.Ieee.Scale.{finite}
use Rattle.lists.specs.Tests.{lt_or_le, same, or_l, or_r, or_split}

eqb_i : (a b : ℕ) → a ≡ b → T (eqb a b)
eqb_i a b h = eq→eqb h

-- ---- not a NaN
abbrev pub real : Float → Bool
real nan = false
real (inf s) = true
real (fin s m e) = true

pub real_is : (x : Float) → real x ≡ not (is_nan x)
unfolding is_nan
real_is nan = refl
real_is (inf s) = refl
real_is (fin s m e) = refl

pub finite_real : (x : Float) → T (finite x) → T (real x)
finite_real nan h = h
finite_real (inf s) h = tt
finite_real (fin s m e) h = tt

-- ---- the positive and the negative part of ±a
abbrev pub pp : Bool → ℕ → ℕ
pp false a = a
pp true a = 0

abbrev pub nn : Bool → ℕ → ℕ
nn false a = 0
nn true a = a

below→ : (s : Bool) (a d : ℕ) (t : Bool) (b e : ℕ) → T (below s (a * d) t (b * e)) → pp s a * d + nn t b * e < pp t b * e + nn s a * d
below→ false a d false b e h = omega (arith, ltb→lt (a * d) (b * e) h)
below→ false a d true b e h = absurd h
below→ true a d false b e h = omega (arith, ltb→lt 0 (a * d + b * e) h)
below→ true a d true b e h = omega (arith, ltb→lt (b * e) (a * d) h)

→below : (s : Bool) (a d : ℕ) (t : Bool) (b e : ℕ) → pp s a * d + nn t b * e < pp t b * e + nn s a * d → T (below s (a * d) t (b * e))
→below false a d false b e h = lt→ltb (a * d) (b * e) (omega arith)
→below false a d true b e h = omega arith
→below true a d false b e h = lt→ltb 0 (a * d + b * e) (omega arith)
→below true a d true b e h = lt→ltb (b * e) (a * d) (omega arith)

level→ : (s : Bool) (a d : ℕ) (t : Bool) (b e : ℕ) → T (level s (a * d) t (b * e)) → pp s a * d + nn t b * e ≡ pp t b * e + nn s a * d
level→ false a d false b e h = omega (arith, eqb→eq (a * d) (b * e) (and_l (eqb (a * d) (b * e)) true h))
level→ false a d true b e h = omega (arith, eqb→eq (a * d) (b * e) (and_l (eqb (a * d) (b * e)) (eqb (a * d) 0) h), eqb→eq (a * d) 0 (and_r (eqb (a * d) (b * e)) (eqb (a * d) 0) h))
level→ true a d false b e h = omega (arith, eqb→eq (a * d) (b * e) (and_l (eqb (a * d) (b * e)) (eqb (a * d) 0) h), eqb→eq (a * d) 0 (and_r (eqb (a * d) (b * e)) (eqb (a * d) 0) h))
level→ true a d true b e h = omega (arith, eqb→eq (a * d) (b * e) (and_l (eqb (a * d) (b * e)) true h))

→level : (s : Bool) (a d : ℕ) (t : Bool) (b e : ℕ) → pp s a * d + nn t b * e ≡ pp t b * e + nn s a * d → T (level s (a * d) t (b * e))
→level false a d false b e h = and_i (eqb (a * d) (b * e)) true (eqb_i (a * d) (b * e) (omega arith)) tt
→level false a d true b e h = and_i (eqb (a * d) (b * e)) (eqb (a * d) 0) (eqb_i (a * d) (b * e) (omega arith)) (eqb_i (a * d) 0 (omega arith))
→level true a d false b e h = and_i (eqb (a * d) (b * e)) (eqb (a * d) 0) (eqb_i (a * d) (b * e) (omega arith)) (eqb_i (a * d) 0 (omega arith))
→level true a d true b e h = and_i (eqb (a * d) (b * e)) true (eqb_i (a * d) (b * e) (omega arith)) tt

-- ---- a finite value is (P - N) / D
abbrev pub P : Float → ℕ
P nan = 0
P (inf s) = 0
P (fin s m e) = pp s (m * up e)

abbrev pub N : Float → ℕ
N nan = 0
N (inf s) = 0
N (fin s m e) = nn s (m * up e)

abbrev pub D : Float → ℕ
D nan = 1
D (inf s) = 1
D (fin s m e) = down e

pub D-pos : (x : Float) → 0 < D x
D-pos nan = omega arith
D-pos (inf s) = omega arith
D-pos (fin s m e) = down_pos e

pub lt→cross : (x y : Float) → T (finite x) → T (finite y) → T (lt x y) → P x * D y + N y * D x < P y * D x + N x * D y
unfolding lt
lt→cross nan y p q h = absurd p
lt→cross (inf s) y p q h = absurd p
lt→cross (fin s m e) nan p q h = absurd q
lt→cross (fin s m e) (inf t) p q h = absurd q
lt→cross (fin s m e) (fin t n d) p q h = below→ s (m * up e) (down d) t (n * up d) (down e) h

pub cross→lt : (x y : Float) → T (finite x) → T (finite y) → P x * D y + N y * D x < P y * D x + N x * D y → T (lt x y)
unfolding lt
cross→lt nan y p q h = absurd p
cross→lt (inf s) y p q h = absurd p
cross→lt (fin s m e) nan p q h = absurd q
cross→lt (fin s m e) (inf t) p q h = absurd q
cross→lt (fin s m e) (fin t n d) p q h = →below s (m * up e) (down d) t (n * up d) (down e) h

pub eq→cross : (x y : Float) → T (finite x) → T (finite y) → T (eq x y) → P x * D y + N y * D x ≡ P y * D x + N x * D y
unfolding eq
eq→cross nan y p q h = absurd p
eq→cross (inf s) y p q h = absurd p
eq→cross (fin s m e) nan p q h = absurd q
eq→cross (fin s m e) (inf t) p q h = absurd q
eq→cross (fin s m e) (fin t n d) p q h = level→ s (m * up e) (down d) t (n * up d) (down e) h

pub cross→eq : (x y : Float) → T (finite x) → T (finite y) → P x * D y + N y * D x ≡ P y * D x + N x * D y → T (eq x y)
unfolding eq
cross→eq nan y p q h = absurd p
cross→eq (inf s) y p q h = absurd p
cross→eq (fin s m e) nan p q h = absurd q
cross→eq (fin s m e) (inf t) p q h = absurd q
cross→eq (fin s m e) (fin t n d) p q h = →level s (m * up e) (down d) t (n * up d) (down e) h

le_is : (x y : Float) → le x y ≡ (lt x y || eq x y)
unfolding le
le_is x y = refl

pub lt→le : (x y : Float) → T (lt x y) → T (le x y)
lt→le x y h = subst (λ (b : Bool). T b) (sym (le_is x y)) (or_l (lt x y) (eq x y) h)

pub eq→le : (x y : Float) → T (eq x y) → T (le x y)
eq→le x y h = subst (λ (b : Bool). T b) (sym (le_is x y)) (or_r (lt x y) (eq x y) h)

pub le_split : (x y : Float) → T (le x y) → T (lt x y) ⊎ T (eq x y)
le_split x y h = or_split (lt x y) (eq x y) (subst (λ (b : Bool). T b) (le_is x y) h)

pub le→cross : (x y : Float) → T (finite x) → T (finite y) → T (le x y) → P x * D y + N y * D x ≤ P y * D x + N x * D y
le→cross x y p q h = elim (le_split x y h) [ inl a ↦ omega (arith, lt→cross x y p q a) | inr a ↦ omega (arith, eq→cross x y p q a) ]

pub cross→le : (x y : Float) → T (finite x) → T (finite y) → P x * D y + N y * D x ≤ P y * D x + N x * D y → T (le x y)
cross→le x y p q h =
    elim (lt_or_le (P x * D y + N y * D x) (P y * D x + N x * D y)) [
      | inl a ↦ lt→le x y (cross→lt x y p q a)
      | inr a ↦ eq→le x y (cross→eq x y p q (omega arith))
    ]

-- ---- three signed fractions
pub through : (p n d p' n' d' p'' n'' d'' : ℕ) → 0 < d' → p * d' + n' * d ≤ p' * d + n * d' → p' * d'' + n'' * d' ≤ p'' * d' + n' * d'' → p * d'' + n'' * d ≤ p'' * d + n * d''
through p n d p' n' d' p'' n'' d'' Q h k =
    let a : p * d' * d'' + n' * d * d'' ≤ p' * d * d'' + n * d' * d'' = simp (← add-mul) (mul-le-mul_right d'' h) in
    let b : p' * d'' * d + n'' * d' * d ≤ p'' * d' * d + n' * d'' * d = simp (← add-mul) (mul-le-mul_right d k) in
    let e1 : p' * d'' * d ≡ p' * d * d'' = mul_right_comm p' d'' d in
    let e2 : n' * d'' * d ≡ n' * d * d'' = mul_right_comm n' d'' d in
    let e3 : p * d'' * d' ≡ p * d' * d'' = mul_right_comm p d'' d' in
    let e4 : n'' * d * d' ≡ n'' * d' * d = mul_right_comm n'' d d' in
    let e5 : p'' * d * d' ≡ p'' * d' * d = mul_right_comm p'' d d' in
    let e6 : n * d'' * d' ≡ n * d' * d'' = mul_right_comm n d'' d' in
    let c : p * d'' * d' + n'' * d * d' ≤ p'' * d * d' + n * d'' * d' = omega arith in
    le_of_mul-le-mul_right (simp add-mul c) Q

-- ---- where a comparison holds, neither side is a NaN
pub le_real_l : (x y : Float) → T (le x y) → T (real x)
unfolding le
le_real_l nan y h = h
le_real_l (inf s) y h = tt
le_real_l (fin s m e) y h = tt

pub le_real_r : (x y : Float) → T (le x y) → T (real y)
unfolding le
le_real_r nan nan h = h
le_real_r (inf s) nan h = h
le_real_r (fin s m e) nan h = h
le_real_r x (inf t) h = tt
le_real_r x (fin t n d) h = tt

pub lt_real_l : (x y : Float) → T (lt x y) → T (real x)
lt_real_l x y h = le_real_l x y (lt→le x y h)

pub lt_real_r : (x y : Float) → T (lt x y) → T (real y)
lt_real_r x y h = le_real_r x y (lt→le x y h)

-- ---- `le` is a total preorder
pub le_refl : (x : Float) → T (real x) → T (le x x)
le_refl nan h = absurd h
le_refl (inf true) h = unfold le in tt
le_refl (inf false) h = unfold le in tt
le_refl (fin s m e) h = cross→le (fin s m e) (fin s m e) tt tt (omega arith)

-- -infinity is the least, and infinity the greatest
pub le_bot : (y : Float) → T (real y) → T (le (inf true) y)
unfolding le
le_bot nan h = h
le_bot (inf true) h = tt
le_bot (inf false) h = tt
le_bot (fin t n d) h = tt

pub le_top : (x : Float) → T (real x) → T (le x (inf false))
unfolding le
le_top nan h = h
le_top (inf true) h = tt
le_top (inf false) h = tt
le_top (fin t n d) h = tt

pub le_trans : (x y z : Float) → T (le x y) → T (le y z) → T (le x z)
unfolding le
le_trans nan y z h k = absurd h
le_trans (inf true) y z h k = le_bot z (le_real_r y z k)
le_trans (inf false) nan z h k = absurd h
le_trans (inf false) (inf true) z h k = absurd h
le_trans (inf false) (inf false) z h k = k
le_trans (inf false) (fin t n d) z h k = absurd h
le_trans (fin s m e) nan z h k = absurd h
le_trans (fin s m e) (inf true) z h k = absurd h
le_trans (fin s m e) (inf false) nan h k = absurd k
le_trans (fin s m e) (inf false) (inf true) h k = absurd k
le_trans (fin s m e) (inf false) (inf false) h k = tt
le_trans (fin s m e) (inf false) (fin u o c) h k = absurd k
le_trans (fin s m e) (fin t n d) nan h k = absurd k
le_trans (fin s m e) (fin t n d) (inf true) h k = absurd k
le_trans (fin s m e) (fin t n d) (inf false) h k = tt
le_trans (fin s m e) (fin t n d) (fin u o c) h k =
    let x = fin s m e in
    let y = fin t n d in
    let z = fin u o c in
    cross→le x z tt tt (through (P x) (N x) (D x) (P y) (N y) (D y) (P z) (N z) (D z) (D-pos y) (le→cross x y tt tt h) (le→cross y z tt tt k))

pub total : (x y : Float) → T (real x) → T (real y) → T (le x y) ⊎ T (lt y x)
total nan y p q = absurd p
total (inf true) y p q = inl (le_bot y q)
total (inf false) nan p q = absurd q
total (inf false) (inf true) p q = inr (unfold lt in tt)
total (inf false) (inf false) p q = inl (unfold le in tt)
total (inf false) (fin t n d) p q = inr (unfold lt in tt)
total (fin s m e) nan p q = absurd q
total (fin s m e) (inf true) p q = inr (unfold lt in tt)
total (fin s m e) (inf false) p q = inl (unfold le in tt)
total (fin s m e) (fin t n d) p q =
    let x = fin s m e in
    let y = fin t n d in
    elim (lt_or_le (P y * D x + N x * D y) (P x * D y + N y * D x)) [
      | inl a ↦ inr (cross→lt y x tt tt a)
      | inr a ↦ inl (cross→le x y tt tt a)
    ]

-- x < y and y <= x do not both hold
pub lt_not_le : (x y : Float) → T (lt x y) → T (le y x) → ⊥
unfolding le
lt_not_le nan y h k = h
lt_not_le (inf s) nan h k = h
lt_not_le (inf true) (inf true) h k = h
lt_not_le (inf true) (inf false) h k = k
lt_not_le (inf false) (inf t) h k = h
lt_not_le (inf true) (fin t n d) h k = k
lt_not_le (inf false) (fin t n d) h k = h
lt_not_le (fin s m e) nan h k = h
lt_not_le (fin s m e) (inf true) h k = h
lt_not_le (fin s m e) (inf false) h k = k
lt_not_le (fin s m e) (fin t n d) h k = omega (arith, lt→cross (fin s m e) (fin t n d) tt tt h, le→cross (fin t n d) (fin s m e) tt tt k)

-- ---- what follows from those
pub not_lt→le : (x y : Float) → T (real x) → T (real y) → T (not (lt x y)) → T (le y x)
not_lt→le x y p q h = elim (total y x q p) [ inl a ↦ a | inr a ↦ absurd (T_not (lt x y) h a) ]

pub not_le→lt : (x y : Float) → T (real x) → T (real y) → T (not (le x y)) → T (lt y x)
not_le→lt x y p q h = elim (total x y p q) [ inl a ↦ absurd (T_not (le x y) h a) | inr a ↦ a ]

pub le→not_lt : (x y : Float) → T (le y x) → T (not (lt x y))
le→not_lt x y h = not_T (lt x y) (λ (a : T (lt x y)). lt_not_le x y a h)

pub lt→not_le : (x y : Float) → T (lt y x) → T (not (le x y))
lt→not_le x y h = not_T (le x y) (λ (a : T (le x y)). lt_not_le y x h a)

-- as tests
pub lt_is : (x y : Float) → T (real x) → T (real y) → lt x y ≡ not (le y x)
lt_is x y p q = same (lt x y) (not (le y x)) (lt→not_le y x) (not_le→lt y x q p)

pub le_lt_trans : (x y z : Float) → T (le x y) → T (lt y z) → T (lt x z)
le_lt_trans x y z h k =
    elim (total z x (lt_real_r y z k) (le_real_l x y h)) [
      | inl a ↦ absurd (lt_not_le y z k (le_trans z x y a h))
      | inr a ↦ a
    ]

pub lt_le_trans : (x y z : Float) → T (lt x y) → T (le y z) → T (lt x z)
lt_le_trans x y z h k =
    elim (total z x (le_real_r y z k) (lt_real_l x y h)) [
      | inl a ↦ absurd (lt_not_le x y h (le_trans y z x k a))
      | inr a ↦ a
    ]

pub lt_trans : (x y z : Float) → T (lt x y) → T (lt y z) → T (lt x z)
lt_trans x y z h k = le_lt_trans x y z (lt→le x y h) k

pub lt_irrefl : (x : Float) → T (lt x x) → ⊥
lt_irrefl x h = lt_not_le x x h (lt→le x x h)

pub lt_asym : (x y : Float) → T (lt x y) → T (lt y x) → ⊥
lt_asym x y h k = lt_not_le x y h (lt→le y x k)

pub trichotomy : (x y : Float) → T (real x) → T (real y) → T (lt x y) ⊎ (T (eq x y) ⊎ T (lt y x))
trichotomy x y p q = elim (total x y p q) [ inl a ↦ go (le_split x y a) | inr a ↦ inr (inr a) ]
  where
    go : T (lt x y) ⊎ T (eq x y) → T (lt x y) ⊎ (T (eq x y) ⊎ T (lt y x))
    go (inl a) = inl a
    go (inr a) = inr (inl a)

-- ---- `eq` is `le` both ways
pub eq_sym : (x y : Float) → T (eq x y) → T (eq y x)
unfolding eq
eq_sym nan y h = absurd h
eq_sym (inf s) nan h = absurd h
eq_sym (inf true) (inf true) h = tt
eq_sym (inf true) (inf false) h = h
eq_sym (inf false) (inf true) h = h
eq_sym (inf false) (inf false) h = tt
eq_sym (inf s) (fin t n d) h = absurd h
eq_sym (fin s m e) nan h = absurd h
eq_sym (fin s m e) (inf t) h = absurd h
eq_sym (fin s m e) (fin t n d) h = cross→eq (fin t n d) (fin s m e) tt tt (omega (arith, eq→cross (fin s m e) (fin t n d) tt tt h))

pub eq→ge : (x y : Float) → T (eq x y) → T (le y x)
eq→ge x y h = eq→le y x (eq_sym x y h)

pub le_antisym : (x y : Float) → T (le x y) → T (le y x) → T (eq x y)
le_antisym x y h k = elim (le_split x y h) [ inl a ↦ absurd (lt_not_le x y a k) | inr a ↦ a ]

pub eq_refl : (x : Float) → T (real x) → T (eq x x)
eq_refl x h = le_antisym x x (le_refl x h) (le_refl x h)

pub eq_trans : (x y z : Float) → T (eq x y) → T (eq y z) → T (eq x z)
eq_trans x y z h k = le_antisym x z (le_trans x y z (eq→le x y h) (eq→le y z k)) (le_trans z y x (eq→ge y z k) (eq→ge x y h))

pub eq_is : (x y : Float) → eq x y ≡ (le x y && le y x)
eq_is x y =
    same (eq x y) (le x y && le y x) (λ (h : T (eq x y)). and_i (le x y) (le y x) (eq→le x y h) (eq→ge x y h))
    (λ (h : T (le x y && le y x)). le_antisym x y (and_l (le x y) (le y x) h) (and_r (le x y) (le y x) h))

pub eq→not_lt : (x y : Float) → T (eq x y) → T (not (lt x y))
eq→not_lt x y h = le→not_lt x y (eq→ge x y h)

-- level values compare alike, as tests, with no condition on the third value
pub le_cong : (x x' y y' : Float) → T (eq x x') → T (eq y y') → le x y ≡ le x' y'
le_cong x x' y y' h k =
    same (le x y) (le x' y') (λ (a : T (le x y)). le_trans x' x y' (eq→ge x x' h) (le_trans x y y' a (eq→le y y' k)))
    (λ (a : T (le x' y')). le_trans x x' y (eq→le x x' h) (le_trans x' y' y a (eq→ge y y' k)))

pub lt_cong : (x x' y y' : Float) → T (eq x x') → T (eq y y') → lt x y ≡ lt x' y'
lt_cong x x' y y' h k =
    same (lt x y) (lt x' y') (λ (a : T (lt x y)). le_lt_trans x' x y' (eq→ge x x' h) (lt_le_trans x y y' a (eq→le y y' k)))
    (λ (a : T (lt x' y')). le_lt_trans x x' y (eq→le x x' h) (lt_le_trans x' y' y a (eq→ge y y' k)))

-- ---- `neg` turns the order round
pub neg_neg : (x : Float) → neg (neg x) ≡ x
unfolding neg
neg_neg nan = refl
neg_neg (inf true) = refl
neg_neg (inf false) = refl
neg_neg (fin true m e) = refl
neg_neg (fin false m e) = refl

pub neg_real : (x : Float) → T (real x) → T (real (neg x))
unfolding neg
neg_real nan h = h
neg_real (inf s) h = tt
neg_real (fin s m e) h = tt

pub neg_finite : (x : Float) → T (finite x) → T (finite (neg x))
unfolding neg
neg_finite nan h = h
neg_finite (inf s) h = h
neg_finite (fin s m e) h = tt

turn : (s : Bool) (a : ℕ) → (pp (not s) a ≡ nn s a) × (nn (not s) a ≡ pp s a)
turn true a = (refl, refl)
turn false a = (refl, refl)

pub neg_le : (x y : Float) → T (le x y) → T (le (neg y) (neg x))
unfolding le neg
neg_le nan y h = absurd h
neg_le (inf true) nan h = absurd h
neg_le (inf false) nan h = absurd h
neg_le (inf true) (inf true) h = tt
neg_le (inf true) (inf false) h = tt
neg_le (inf false) (inf true) h = h
neg_le (inf false) (inf false) h = tt
neg_le (inf true) (fin t n d) h = tt
neg_le (inf false) (fin t n d) h = absurd h
neg_le (fin s m e) nan h = absurd h
neg_le (fin s m e) (inf true) h = absurd h
neg_le (fin s m e) (inf false) h = tt
neg_le (fin s m e) (fin t n d) h =
    let k : pp s (m * up e) * down d + nn t (n * up d) * down e ≤ pp t (n * up d) * down e + nn s (m * up e) * down d = le→cross (fin s m e) (fin t n d) tt tt h in
    cross→le (fin (not t) n d) (fin (not s) m e) tt tt (simp ((turn s (m * up e)).0, (turn s (m * up e)).1, (turn t (n * up d)).0, (turn t (n * up d)).1) (omega arith))

pub neg_lt : (x y : Float) → T (lt x y) → T (lt (neg y) (neg x))
neg_lt x y h =
    elim (total (neg x) (neg y) (neg_real x (lt_real_l x y h)) (neg_real y (lt_real_r x y h))) [
      | inl a ↦ absurd (lt_not_le x y h (subst (λ (z : Float). T (le z x)) (neg_neg y) (subst (λ (z : Float). T (le (neg (neg y)) z)) (neg_neg x) (neg_le (neg x) (neg y) a))))
      | inr a ↦ a
    ]

pub neg_eq : (x y : Float) → T (eq x y) → T (eq (neg x) (neg y))
neg_eq x y h = le_antisym (neg x) (neg y) (neg_le y x (eq→ge x y h)) (neg_le x y (eq→le x y h))

-- ---- infinities
pub lt_inf : (x : Float) → T (finite x) → T (lt x (inf false))
unfolding lt
lt_inf nan h = h
lt_inf (inf s) h = absurd h
lt_inf (fin s m e) h = tt

pub inf_lt : (x : Float) → T (finite x) → T (lt (inf true) x)
unfolding lt
inf_lt nan h = h
inf_lt (inf s) h = absurd h
inf_lt (fin s m e) h = tt

-- what lies between two finite values is finite
pub between : (a x b : Float) → T (finite a) → T (finite b) → T (le a x) → T (le x b) → T (finite x)
unfolding le
between a nan b p q h k = k
between a (inf true) b p q h k = absurd (lt_not_le (inf true) a (inf_lt a p) h)
between a (inf false) b p q h k = absurd (lt_not_le b (inf false) (lt_inf b q) k)
between a (fin s m e) b p q h k = tt
