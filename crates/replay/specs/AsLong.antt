-- Slices that calls leave as long as they were. Assumes nothing.
use Rattle.std.specs.Prelude.{◌≡◌, ℕ, List, ℤ, Float, length}

-- slices that are as long as others
pub record AsLong (tk tk' : List ℕ) (sm sm' : List Float) (rs rs' : List ℕ) (ls ls' : List ℤ) (gs gs' : List Float) (qs qs' : List ℕ) (sc sc' : List Float) : Type 0 where
  pub tokens : length tk' ≡ length tk
  pub sums : length sm' ≡ length sm
  pub records : length rs' ≡ length rs
  pub labels : length ls' ≡ length ls
  pub gaps : length gs' ≡ length gs
  pub queue : length qs' ≡ length qs
  pub scratch : length sc' ≡ length sc
