-- A number that is written is read back, and a text without digits is passed over. Assumes nothing.
use Rattle.std.specs.Prelude.{◌≡◌, refl, ℕ, zero, suc, ◌+◌, ◌*◌, ◌-◌, ◌/◌, ◌%◌, ◌^◌, ◌<◌, ◌≤◌, Bool, true, false, not, List, [], ◌∷◌, ◌++◌, length, Option, Some, None}
use Rattle.std.proofs.Common.{sym, ap, ◌∙◌, zero-le, arith, lt-ltb, le-ltb, le-leb, length-append}
use Rattle.std.proofs.lemmas.Bool.{not-true}
use Rattle.lists.specs.Lists.{all}
use Rattle.lists.specs.Tests.{case, lt_or_le, and_both}
use Rattle.decimals.specs.declared.Numbers.{Numbers}
use Rattle.decimals.specs.Numbers.{is_digit, grown_by, outside, with_digit, next_of, numbers_from, numbers_in, none}
use Rattle.decimals.specs.Decimal.{digits, decimal, IsNumber}

-- ---- the digits of a number

pub digits-length : (k n : ℕ) → length (digits k n) ≤ k
unfolding digits
digits-length zero n = zero-le
digits-length (suc k) n =
    case (lt_or_le n 10) (λ h. rw (lt-ltb _ _ h) (omega arith))
    (λ h. rw (le-ltb _ _ h) (simp length-append (omega (arith, digits-length k (n / 10)))))

pub decimal-length : (n : ℕ) → length (decimal n) ≤ 10
unfolding decimal
decimal-length n = digits-length 10 n

-- one more than enough makes no difference
digits_more : (k n : ℕ) → n < 10 ^ suc k → digits (suc (suc k)) n ≡ digits (suc k) n
unfolding digits
digits_more zero n h = rw (lt-ltb _ _ h)
digits_more (suc k) n h =
    case (lt_or_le n 10) (λ l. rw (lt-ltb _ _ l))
    (λ l. rw (le-ltb _ _ l) (ap (λ (ds : List ℕ). ds ++ ((48 + n % 10) ∷ [])) (digits_more k (n / 10) (omega arith))))

pub decimal_one : (n : ℕ) → n < 10 → decimal n ≡ (48 + n) ∷ []
unfolding decimal digits
decimal_one n h = rw (lt-ltb _ _ h)

pub decimal_more : (n : ℕ) → 10 ≤ n → n < 2 ^ 32 → decimal n ≡ decimal (n / 10) ++ ((48 + n % 10) ∷ [])
unfolding decimal digits
decimal_more n h f = rw (le-ltb _ _ h) (ap (λ (ds : List ℕ). ds ++ ((48 + n % 10) ∷ [])) (sym (digits_more 8 (n / 10) (omega arith))))

pub length_one : (n : ℕ) → n < 10 → length (decimal n) ≡ 1
length_one n h = rw (decimal_one n h)

pub length_more : (n : ℕ) → 10 ≤ n → n < 2 ^ 32 → length (decimal n) ≡ length (decimal (n / 10)) + 1
length_more n h f = rw (decimal_more n h f, length-append)

-- ---- the digits, read

pub numbers-append : (xs ys : List ℕ) (s : Numbers) → numbers_from s (xs ++ ys) ≡ numbers_from (numbers_from s xs) ys
unfolding numbers_from
numbers-append [] ys s = refl
numbers-append (x ∷ xs) ys s = numbers-append xs ys (next_of s x)

next_digit : (s : Numbers) (d : ℕ) → d < 10 → next_of s (48 + d) ≡ with_digit s.inside s d
unfolding next_of
next_digit s d h =
    let low : 48 ≤ 48 + d = omega arith in
    let high : 48 + d ≤ 57 = omega arith in
    let e : 48 + d - 48 ≡ d = omega arith in
    rw (le-leb _ _ low, le-leb _ _ high, e)

grown_back : (n : ℕ) → n < 2 ^ 32 → grown_by (n / 10) (n % 10) ≡ n
unfolding grown_by
grown_back n f = let h : 10 * (n / 10) + n % 10 < 2 ^ 32 = omega arith in rw (lt-ltb _ _ h) (omega arith)

-- a run of digits is its number
digits_read : (k n : ℕ) (s : Numbers) → s.inside ≡ false → n < 10 ^ suc k → n < 2 ^ 32 → numbers_from s (digits (suc k) n) ≡ with_digit false s n
unfolding digits numbers_from
digits_read zero n s o h f = rw (lt-ltb _ _ h, next_digit s n h, o)
digits_read (suc k) n s o h f =
    case (lt_or_le n 10) (λ l. rw (lt-ltb _ _ l, next_digit s n l, o))
    (λ l.
    let m : n % 10 < 10 = omega arith in
    rw (le-ltb _ _ l, numbers-append, digits_read k (n / 10) s o (omega arith) (omega arith), next_digit (with_digit false s (n / 10)) (n % 10) m, grown_back n f))

pub decimal_read : (n : ℕ) (s : Numbers) → n < 2 ^ 32 → s.inside ≡ false → numbers_from s (decimal n) ≡ with_digit false s n
unfolding decimal
decimal_read n s f o = digits_read 9 n s o (omega arith) f

-- numbers that differ have different digits
pub decimals_differ : (m n : ℕ) → m < 2 ^ 32 → n < 2 ^ 32 → decimal m ≡ decimal n → m ≡ n
decimals_differ m n f g e = ap (λ (s : Numbers). s.third) (sym (decimal_read m none f refl) ∙ ap numbers_in e ∙ decimal_read n none g refl)

-- reading what was written gives the number again
pub read_written : (n : ℕ) (r : Option ℕ) → n < 2 ^ 32 → IsNumber (decimal n) r → r ≡ Some n
read_written n (Some m) f h = ap Some (decimals_differ m n h.0 f h.1)
read_written n None f h = absurd (h n f refl)

-- ---- a text without digits

abbrev pub plain : List ℕ → Bool
plain bs = all (λ b. not (is_digit b)) bs

next_plain : (b : ℕ) (s : Numbers) → not (is_digit b) ≡ true → next_of s b ≡ outside s
unfolding next_of
next_plain b s p = rw (not-true (is_digit b) p)

plain_read : (bs : List ℕ) (s : Numbers) → plain bs ≡ true → numbers_from (outside s) bs ≡ outside s
unfolding numbers_from
plain_read [] s p = refl
plain_read (b ∷ bs) s p =
    let (q, r) = and_both _ (plain bs) p in
    rw (next_plain b (outside s) q) (plain_read bs s r)

text_read : (bs : List ℕ) (s : Numbers) → plain bs ≡ true → 0 < length bs → numbers_from s bs ≡ outside s
unfolding numbers_from
text_read [] s p h = absurd (omega arith)
text_read (b ∷ bs) s p h =
    let (q, r) = and_both _ (plain bs) p in
    rw (next_plain b s q) (plain_read bs s r)

-- ---- a text behind others, and a number behind a text

pub text_after : (s : Numbers) (xs t : List ℕ) → plain t ≡ true → 0 < length t → numbers_from s (xs ++ t) ≡ outside (numbers_from s xs)
text_after s xs t p h = numbers-append xs t s ∙ text_read t (numbers_from s xs) p h

pub number_after : (s : Numbers) (xs t : List ℕ) (n : ℕ) → plain t ≡ true → 0 < length t → n < 2 ^ 32 → numbers_from s (xs ++ t ++ decimal n) ≡ with_digit false (outside (numbers_from s xs)) n
number_after s xs t n p h f = numbers-append (xs ++ t) (decimal n) s ∙ rw (text_after s xs t p h) (decimal_read n (outside (numbers_from s xs)) f refl)
