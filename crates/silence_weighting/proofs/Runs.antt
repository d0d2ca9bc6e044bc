-- Runs of numbers and of stores: what is left of one as a loop goes on, and what a list holds after one. Assumes nothing.
use mathlib.Core.Path.{◌≡◌, refl, ap, ◌∙◌}
use Prim.Native.Nat.{ℕ, zero, suc, ◌+◌, ◌-◌, ◌≤◌, ◌<◌}
use native.Mathlib.Nat.{add-zero, zero-add, sub-zero, zero-sub}
use native.Mathlib.Numerals.{add-one}
use native.Mathlib.Omega.{arith}
use mathlib.Core.List.{List, [], ◌∷◌, ◌++◌, map}
use lib.ListN.{length, take, drop, set, replicate}
use lib.Seq.{sets, drop-set-lt}
use Rattle.lists.specs.Lists.{range}

-- ---- what is left

pub range_next : (a n : ℕ) → a < n → range a (n - a) ≡ a ∷ range (suc a) (n - suc a)
range_next a n h = let e : n - a ≡ suc (n - suc a) = omega arith in rw e

pub range_done : (a n : ℕ) → n ≤ a → range a (n - a) ≡ []
range_done a n h = let e : n - a ≡ 0 = omega arith in rw e

module _ {A : Type 0} where
  -- a store of the value that is next
  pub fill_more : (xs : List A) (i to : ℕ) (v : A) → i < to → sets (set xs i v) (i + 1) (replicate (to - (i + 1)) v) ≡ sets xs i (replicate (to - i) v)
  fill_more xs i to v h = let e : to - i ≡ suc (to - (i + 1)) = omega arith in rw (e, add-one)

pub put_more : (xs : List ℕ) (at number times k : ℕ) → k < times
    → sets (set xs (at + k) (number + k)) (at + (k + 1)) (range (number + (k + 1)) (times - (k + 1))) ≡ sets xs (at + k) (range (number + k) (times - k))
put_more xs at number times k h =
    let e : times - k ≡ suc (times - (k + 1)) = omega arith in
    let a : at + (k + 1) ≡ suc (at + k) = omega arith in
    let n : number + (k + 1) ≡ suc (number + k) = omega arith in
    rw (e, a, n)

-- ---- what a run of numbers holds

module _ {A : Type 0} (f : ℕ → A) where
  -- one number more at the end
  pub range_last : (a n : ℕ) → map f (range a (suc n)) ≡ map f (range a n) ++ (f (a + n) ∷ [])
  range_last a zero = rw add-zero
  range_last a (suc n) = let e : a + suc n ≡ suc a + n = omega arith in rw e (ap (λ (r : List A). f a ∷ r) (range_last (suc a) n))

  pub range-append : (a m n : ℕ) → map f (range a m) ++ map f (range (a + m) n) ≡ map f (range a (m + n))
  range-append a zero n = rw (add-zero, zero-add)
  range-append a (suc m) n =
      let e : a + suc m ≡ suc a + m = omega arith in
      let g : suc m + n ≡ suc (m + n) = omega arith in
      rw (e, g) (ap (λ (r : List A). f a ∷ r) (range-append (suc a) m n))

  pub range-take : (a n b : ℕ) → b ≤ n → take b (map f (range a n)) ≡ map f (range a b)
  range-take a n zero h = refl
  range-take a zero (suc b) h = absurd (omega arith)
  range-take a (suc n) (suc b) h = ap (λ (r : List A). f a ∷ r) (range-take (suc a) n b (omega arith))

  pub range-drop : (a n b : ℕ) → drop b (map f (range a n)) ≡ map f (range (a + b) (n - b))
  range-drop a n zero = rw (add-zero, sub-zero)
  range-drop a zero (suc b) = rw zero-sub
  range-drop a (suc n) (suc b) = let e : a + suc b ≡ suc a + b = omega arith in let g : suc n - suc b ≡ n - b = omega arith in rw (e, g) (range-drop (suc a) n b)

  -- the same values over a run
  pub range_same : (g : ℕ → A) (a n : ℕ) → ((k : ℕ) → a ≤ k → k < a + n → f k ≡ g k) → map f (range a n) ≡ map g (range a n)
  range_same g a zero h = refl
  range_same g a (suc n) h =
      ap (λ (x : A). x ∷ map f (range (suc a) n)) (h a (omega arith) (omega arith))
      ∙ ap (λ (r : List A). g a ∷ r) (range_same g (suc a) n (λ k l u. h k (omega arith) (omega arith)))

-- ---- what a list holds after a run of stores

module _ {A : Type 0} where
  pub drop_sets : (n : ℕ) (l : List A) (i : ℕ) (vs : List A) → i + length vs ≤ n → drop n (sets l i vs) ≡ drop n l
  drop_sets n l i [] h = refl
  drop_sets n l i (v ∷ vs) h = drop_sets n (set l i v) (suc i) vs (omega arith) ∙ drop-set-lt n l i v (omega arith)
