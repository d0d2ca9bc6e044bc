-- std's `min` is the lesser of two. Assumes nothing.
use mathlib.Core.Path.{◌≡◌, ap, ◌∙◌}
use Prim.Native.Nat.{ℕ, min}
use native.Mathlib.Omega.{arith}
use borrow.Author.Tests.{lt-ltb, le-ltb}
use Rattle.std.proofs.Math.Nat.{min-eq_left, min-eq_right}
use Rattle.lists.specs.Tests.{case, lt_or_le}
use Rattle.places.specs.Places.{least}

min_is : (a b : ℕ) → min a b ≡ least a b
min_is a b = case (lt_or_le b a) (λ l. rw (lt-ltb b a l) (min-eq_right (omega arith))) (λ l. rw (le-ltb b a l) (min-eq_left l))

min_assoc : (a b c : ℕ) → min (min a b) c ≡ min a (min b c)
min_assoc a b c = omega arith

-- of a chain `a.min(b)` the beginning
pub first : (a b : ℕ) {r : ℕ} → r ≡ min a b → r ≡ least a b
first a b e = e ∙ min_is a b

-- of a chain `m.min(a).min(b)` the end
pub turn : (m a b : ℕ) {r n : ℕ} → r ≡ min n b → n ≡ min m a → r ≡ min m (least a b)
turn m a b e q = e ∙ ap (λ (k : ℕ). min k b) q ∙ min_assoc m a b ∙ ap (min m) (min_is a b)
