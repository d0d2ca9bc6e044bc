-- What is listed below a path: one induction for every law of `below`. Its hash and length are those of the words along its route. Assumes nothing.
use Rattle.std.specs.Prelude.{◌≡◌, ℕ, ◌<◌, length, ℤ}
use mathlib.Core.List.Memᴰ
use mathlib.Core.List.{List, [], ◌∷◌, reverse}
use Rattle.model.specs.Path.{Path}
use Rattle.model.specs.Hash.{hash_words}
use Rattle.model.specs.Readings.{Below}
use Rattle.copy_laws.specs.Walks.{words_along}
use Rattle.copy_laws.specs.Routes.{along}

-- ---- hash and length

-- the words along a route, newest first
abbrev pub words_back_along : (route : List ℕ) → Path → List ℤ
words_back_along route p = reverse (words_along (along route p))

-- every number of a route is below f
abbrev pub Under : (f : ℕ) → List ℕ → Type 0
Under f [] = Unit {0}
Under f (n ∷ route) = (n < f) × Under f route

pub record Keyed (f : ℕ) (p : Path) (b : Below) : Type 0 where
  pub hash : b.hash ≡ hash_words (words_back_along b.route p)
  pub len : b.len ≡ length (words_back_along b.route p)
  pub under : Under f b.route
