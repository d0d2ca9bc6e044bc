-- A map by key that keeps the least of each key as it meets them: it holds the minima, and in whatever order they come out, sorted they are one list. Assumes nothing.
use Rattle.std.specs.Prelude.{Bool}
use Rattle.std.proofs.Math.Bool.{true, false, cond}
use mathlib.Core.List.Memᴰ
use mathlib.Core.List.{List, [], ◌∷◌}

-- ---- the map: the Rust's match on `groups.get_mut(&words)`

module _ {A K : Type 0} (key : A → K) (alike : K → K → Bool) (stays : (old new : A) → Bool) where
  -- the old entry of the key stays, or the new one takes its place; a new key comes in
  unfoldable pub take_in : A → List A → List A
  take_in x [] = x ∷ []
  take_in x (y ∷ ys) = elim (alike (key x) (key y)) [ true ↦ cond (stays y x) y x ∷ ys | false ↦ y ∷ take_in x ys ]

  unfoldable pub take_all : List A → List A → List A
  take_all ys [] = ys
  take_all ys (x ∷ xs) = take_all (take_in x ys) xs
