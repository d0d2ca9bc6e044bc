-- The order by rank and then by the larger seq: strict, and total where no two have one seq. So there is one best token, whichever way it is looked for. Assumes nothing.
use Rattle.std.specs.Prelude.{ℕ, Bool, ◌&&◌, ◌||◌, leb, ltb, Float}
use Rattle.std.specs.Float.Ieee.{eq}
use Rattle.model.specs.Basics.{◌≺◌}
use Rattle.model.specs.Reads.{Ranked}

-- ---- whatever has a rank and a seq

module _ {A : Type 0} (rank_of : A → Float) (seq_of : A → ℕ) where
  abbrev pub earlier : A → A → Bool
  earlier a b = rank_of a ≺ rank_of b || (eq (rank_of a) (rank_of b) && ltb (seq_of b) (seq_of a))

  -- the Rust's test, that an old entry stays
  abbrev pub stays : (old new : A) → Bool
  stays old new = rank_of old ≺ rank_of new || (eq (rank_of old) (rank_of new) && leb (seq_of new) (seq_of old))

-- ---- the ranked tokens

abbrev pub rank_of : Ranked → Float
rank_of r = r.rank

abbrev pub seq_of : Ranked → ℕ
seq_of r = r.token.seq
