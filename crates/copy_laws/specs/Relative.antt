-- `final_relative_cost` is +∞, or finite and no −0. Assumes nothing.
use Rattle.std.specs.Prelude.{◌≡◌, ◌⊎◌, ℕ, Float}
use Rattle.model.specs.Basics.{∞}
use Rattle.copy_laws.specs.Ranks.{Sure}

-- ---- the least costs

-- +∞, or finite and no −0
abbrev pub SureOrInfinite : (k : ℕ) → Float → Type 0
SureOrInfinite k x = (x ≡ ∞) ⊎ Sure k x

-- both +∞, or the first is a cost
abbrev pub Least : Float × Float → Type 0
Least b = ((b.0 ≡ ∞) × (b.1 ≡ ∞)) ⊎ (Sure 101 b.0 × SureOrInfinite 101 b.1)
