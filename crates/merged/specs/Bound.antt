-- The first place of a sorted list that is not below x. Assumes nothing.
use Rattle.std.specs.Prelude.{◌≡◌, ℕ, ◌+◌, ◌≤◌, ◌<◌, true, false, ltb, List, length, get_or, take}
use Rattle.std.proofs.Common.{arith, length-take-le, get_or-take, ltb-true, ltb-false}
use Rattle.std.proofs.lemmas.List.Sorted.{IsNonDecreasingBy-from_default, IsPartitionedBy-ltb}
use Rattle.std.specs.List.Sorted.{IsPartitionedBy, IsPartitionPoint}

pub record Ascends (ks : List ℕ) (n : ℕ) : Type 0 where
  pub long : n ≤ length ks
  pub sorted : (i j : ℕ) → i ≤ j → j < n → get_or ks i 0 ≤ get_or ks j 0

-- it is between these
pub record Bounds (ks : List ℕ) (n x a b : ℕ) : Type 0 where
  pub order : a ≤ b
  pub low : b ≤ n
  pub below : (i : ℕ) → i < a → get_or ks i 0 < x
  pub above : (i : ℕ) → b ≤ i → i < n → x ≤ get_or ks i 0

pub record LowerBound (ks : List ℕ) (n x r : ℕ) : Type 0 where
  pub few : r ≤ n
  pub below : (i : ℕ) → i < r → get_or ks i 0 < x
  pub above : (i : ℕ) → r ≤ i → i < n → x ≤ get_or ks i 0

module _ {ks : List ℕ} {n x a b : ℕ} (s : Ascends ks n) (B : Bounds ks n x a b) (c : ℕ) (l : a ≤ c) (u : c < b) where
  pub half_above : get_or ks c 0 < x → Bounds ks n x (c + 1) b
  half_above e = record { order = omega arith; low = B.low; below = λ i k. let z = s.sorted i c (omega arith) (let y = B.low in omega arith) in omega arith; above = B.above }

  pub half_below : x ≤ get_or ks c 0 → Bounds ks n x a c
  half_below e = record { order = l; low = let y = B.low in omega arith; below = B.below; above = λ i k v. let z = s.sorted c i k v in omega arith }

module _ {ks : List ℕ} {n : ℕ} (A : Ascends ks n) where
  pub parted : (x : ℕ) → IsPartitionedBy (λ (y : ℕ). ltb y x) (take n ks)
  parted x = IsPartitionedBy-ltb (λ (y : ℕ). y) (take n ks) x
      (IsNonDecreasingBy-from_default (λ (y : ℕ). y) (take n ks) 0
      (λ i j u l. let z = length-take-le n ks A.long in let a = get_or-take n ks i 0 (omega arith) in let b = get_or-take n ks j 0 (omega arith) in let s = A.sorted i j u (omega arith) in omega arith))

  pub lower_bound : {x r : ℕ} → r ≤ length (take n ks) → IsPartitionPoint (λ (y : ℕ). ltb y x ≡ true) (λ (y : ℕ). ltb y x ≡ false) (take n ks) r → LowerBound ks n x r
  lower_bound {x} {r} l P =
      let z = length-take-le n ks A.long in
      record {
        few = omega arith;
        below = λ i u. let a = get_or-take n ks i 0 (omega arith) in let b = ltb-true _ x (P.0 i 0 (omega arith) u) in omega arith;
        above = λ i u v. let a = get_or-take n ks i 0 v in let b = ltb-false _ x (P.1 i 0 u (omega arith)) in omega arith;
      }
