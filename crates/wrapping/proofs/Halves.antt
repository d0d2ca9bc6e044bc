-- A product by halves, modulo H * H. Assumes nothing.
use Rattle.std.proofs.Common.{◌≡◌, ℕ, ◌+◌, ◌*◌, ◌/◌, ◌%◌, ◌^◌, sym, ap, ◌∙◌, mul_assoc, mul_comm, add-mul, div-add-mod', mul-add, mul_left_comm, arith}
use native.Mathlib.Nat.{add-mul-mod_self_right}

-- (p H + q) (r H + s), where p s + q r is u H + v
whole : (H p q r s u v : ℕ) → p * s + q * r ≡ u * H + v → (p * H + q) * (r * H + s) ≡ (q * s + v * H) + (p * r + u) * (H * H)
whole H p q r s u v e =
    let m : (p * s + q * r) * H ≡ (u * H + v) * H = ap (λ (z : ℕ). z * H) e in
    let n = simp (add-mul, mul_assoc, mul_comm, mul_left_comm) at m in
    simp (add-mul, mul-add, mul_assoc, mul_comm, mul_left_comm) (omega (arith, n))

-- of the four products of halves the highest wraps away, and of the middle two only the low half counts
pub product : (H a b : ℕ) → (a % H * (b % H) + (a / H * (b % H) + a % H * (b / H)) % H * H) % (H * H) ≡ a * b % (H * H)
product H a b =
    let m = a / H * (b % H) + a % H * (b / H) in
    sym
    (ap (λ (z : ℕ). z % (H * H))
    (ap (λ (z : ℕ). z * b) (sym (div-add-mod' a H)) ∙ ap (λ (z : ℕ). (a / H * H + a % H) * z) (sym (div-add-mod' b H))
    ∙ whole H (a / H) (a % H) (b / H) (b % H) (m / H) (m % H) (sym (div-add-mod' m H)))
    ∙ add-mul-mod_self_right (a % H * (b % H) + m % H * H) (a / H * (b / H) + m / H) (H * H))

-- each step of 64 bits may wrap
wrapped : (x y z : ℕ) → (x % 2 ^ 64 + (y % 2 ^ 64 + z % 2 ^ 64) % 2 ^ 64 * 2 ^ 32 % 2 ^ 64) % 2 ^ 64 ≡ (x + (y + z) % 2 ^ 32 * 2 ^ 32) % 2 ^ 64
wrapped x y z = omega arith

pub product_wrapped : (a b : ℕ)
    → (a % 2 ^ 32 * (b % 2 ^ 32) % 2 ^ 64 + (a / 2 ^ 32 * (b % 2 ^ 32) % 2 ^ 64 + a % 2 ^ 32 * (b / 2 ^ 32) % 2 ^ 64) % 2 ^ 64 * 2 ^ 32 % 2 ^ 64) % 2 ^ 64 ≡ a * b % 2 ^ 64
product_wrapped a b =
    wrapped (a % 2 ^ 32 * (b % 2 ^ 32)) (a / 2 ^ 32 * (b % 2 ^ 32)) (a % 2 ^ 32 * (b / 2 ^ 32)) ∙ product (2 ^ 32) a b
