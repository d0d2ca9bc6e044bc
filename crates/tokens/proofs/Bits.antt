-- Laws of the bits of a number. Assumes nothing.
use mathlib.Core.Path.{◌≡◌, refl, sym, ap, ap₂, ◌∙◌}
use Prim.Native.Nat.{ℕ, zero, suc, ◌+◌, ◌*◌, ◌/◌, ◌%◌, ◌^◌, ◌≤◌, ◌<◌, max}
use native.Mathlib.Nat.{pow-suc, max-zero, max-le, max-eq_right}
use native.Mathlib.Omega.{arith}
use native.Mathlib.Numerals.{one-add}
use lib.Arith.{digits_div, digits_mod}
use lib.Pow.{shr-shr, shl_lt, pow_mono}
use lib.Bits.{bit_or, or_step, or_mod, or_shr, or_zero_r, shifted_half, shifted_even}
use lib.Count.{count_trailing_zeros, under}
use Rattle.tokens.specs.Layout.{bit_at}

pub bit_of_zero : (j : ℕ) → bit_at 0 j ≡ 0
unfolding bit_at
bit_of_zero zero = refl
bit_of_zero (suc j) = bit_of_zero j

pub bit_low : (n j : ℕ) → bit_at n j < 2
unfolding bit_at
bit_low n zero = omega arith
bit_low n (suc j) = bit_low (n / 2) j

-- ---- a shift drops the lowest bits

halved : (n j : ℕ) → n / 2 ^ suc j ≡ n / 2 / 2 ^ j
halved n j = ap (λ (k : ℕ). n / 2 ^ k) (sym (one-add j)) ∙ sym (shr-shr n 1 j)

pub bit_shifted : (j n i : ℕ) → bit_at (n / 2 ^ j) i ≡ bit_at n (j + i)
unfolding bit_at
bit_shifted zero n i = let e : n / 1 ≡ n = omega arith in let z : i ≡ 0 + i = omega arith in ap₂ bit_at e z
bit_shifted (suc j) n i = ap (λ (x : ℕ). bit_at x i) (halved n j) ∙ bit_shifted j (n / 2) i ∙ (let e : suc (j + i) ≡ suc j + i = omega arith in ap (bit_at n) e)

pub bit_is : (n j : ℕ) → n / 2 ^ j % 2 ≡ bit_at n j
unfolding bit_at
bit_is n j = let e : j + 0 ≡ j = omega arith in bit_shifted j n 0 ∙ ap (bit_at n) e

-- a number below a power has no bits from there on
pub bit_above : (k n i : ℕ) → n < 2 ^ k → k ≤ i → bit_at n i ≡ 0
unfolding bit_at
bit_above zero n i l h = ap (λ (x : ℕ). bit_at x i) (omega arith) ∙ bit_of_zero i
bit_above (suc k) n zero l h = absurd (omega arith)
bit_above (suc k) n (suc i) l h = bit_above k (n / 2) i (omega (arith, pow-suc 2 k)) (omega arith)

-- ---- a bit is set

or_low : (x y : ℕ) → x < 2 → y < 2 → max x y < 2
or_low x y a b = omega (arith, max-le {a = x} {b = y} {k = 1} (omega arith) (omega arith))

or_bit : (a b j : ℕ) → bit_at (bit_or a b) j ≡ max (bit_at a j) (bit_at b j)
unfolding bit_at
or_bit a b zero = ap (λ (x : ℕ). x % 2) (or_step a b) ∙ digits_mod (bit_or (a / 2) (b / 2)) (or_low (a % 2) (b % 2) (omega arith) (omega arith))
or_bit a b (suc j) = ap (λ (x : ℕ). bit_at (x / 2) j) (or_step a b) ∙ ap (λ (x : ℕ). bit_at x j) (digits_div (bit_or (a / 2) (b / 2)) (or_low (a % 2) (b % 2) (omega arith) (omega arith))) ∙ or_bit (a / 2) (b / 2) j

power_bit : (k : ℕ) → bit_at (1 * 2 ^ k) k ≡ 1
unfolding bit_at
power_bit zero = refl
power_bit (suc k) = ap (λ (x : ℕ). bit_at x k) (shifted_half 1 k) ∙ power_bit k

power_off : (k j : ℕ) → (j ≡ k → ⊥) → bit_at (1 * 2 ^ k) j ≡ 0
unfolding bit_at
power_off zero zero d = absurd (d refl)
power_off zero (suc j) d = bit_of_zero j
power_off (suc k) zero d = shifted_even 1 k
power_off (suc k) (suc j) d = ap (λ (x : ℕ). bit_at x j) (shifted_half 1 k) ∙ power_off k j (λ e. d (ap suc e))

pub set_bit : (n k : ℕ) → bit_at (bit_or n (1 * 2 ^ k)) k ≡ 1
set_bit n k = or_bit n (1 * 2 ^ k) k ∙ ap (max (bit_at n k)) (power_bit k) ∙ max-eq_right (omega (arith, bit_low n k))

pub set_bit_off : (n k j : ℕ) → (j ≡ k → ⊥) → bit_at (bit_or n (1 * 2 ^ k)) j ≡ bit_at n j
set_bit_off n k j d = or_bit n (1 * 2 ^ k) j ∙ ap (max (bit_at n j)) (power_off k j d) ∙ max-zero (bit_at n j)

-- ---- a bit of the sixteen low ones, or of those above them

low_power : (k : ℕ) → k < 16 → 1 * 2 ^ k < 65536
low_power k l = omega (arith, shl_lt {a = 1} 1 k (omega arith), pow_mono {i = 1 + k} {j = 16} (omega arith))

module _ (n k : ℕ) (l : k < 16) where
  pub low-set : bit_or n (1 * 2 ^ k) % 65536 ≡ bit_or (n % 65536) (1 * 2 ^ k)
  low-set = or_mod n (1 * 2 ^ k) 16 ∙ ap (bit_or (n % 65536)) (omega (arith, low_power k l))

  pub low_set_high : bit_or n (1 * 2 ^ k) / 65536 ≡ n / 65536
  low_set_high = or_shr n (1 * 2 ^ k) 16 ∙ ap (bit_or (n / 65536)) (omega (arith, low_power k l)) ∙ or_zero_r (n / 65536)

pub high-set : (n k : ℕ) → bit_or n (65536 * 2 ^ k) / 65536 ≡ bit_or (n / 65536) (1 * 2 ^ k)
high-set n k = or_shr n (65536 * 2 ^ k) 16 ∙ ap (bit_or (n / 65536)) (omega arith)

pub high_set_low : (n k : ℕ) → bit_or n (65536 * 2 ^ k) % 65536 ≡ n % 65536
high_set_low n k = or_mod n (65536 * 2 ^ k) 16 ∙ ap (bit_or (n % 65536)) (omega arith) ∙ or_zero_r (n % 65536)

-- ---- the lowest bit that is set

pub trailing_none : (k n i : ℕ) → i < count_trailing_zeros k n → bit_at n i ≡ 0
unfolding bit_at count_trailing_zeros
trailing_none zero n i l = absurd (omega arith)
trailing_none (suc k) n i l = go (n % 2) refl i l (trailing_none k (n / 2))
  where
    go : (d : ℕ) → n % 2 ≡ d → (i : ℕ) → i < under d (count_trailing_zeros k (n / 2)) → ((i : ℕ) → i < count_trailing_zeros k (n / 2) → bit_at (n / 2) i ≡ 0) → bit_at n i ≡ 0
    go zero e zero l rest = e
    go zero e (suc i) l rest = rest i (omega arith)
    go (suc d) e i l rest = absurd (omega arith)

pub trailing_some : (k n : ℕ) → 0 < n → n < 2 ^ k → bit_at n (count_trailing_zeros k n) ≡ 1
unfolding bit_at count_trailing_zeros
trailing_some zero n a l = absurd (omega arith)
trailing_some (suc k) n a l = go (n % 2) refl (trailing_some k (n / 2))
  where
    go : (d : ℕ) → n % 2 ≡ d → (0 < n / 2 → n / 2 < 2 ^ k → bit_at (n / 2) (count_trailing_zeros k (n / 2)) ≡ 1) → bit_at n (under d (count_trailing_zeros k (n / 2))) ≡ 1
    go zero e rest = rest (omega arith) (omega (arith, pow-suc 2 k))
    go (suc d) e rest = omega arith
