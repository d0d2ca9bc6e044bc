-- What a contract says of lent slices whose contents it does not fix. Assumes nothing.
use Rattle.std.specs.Prelude.{◌≡◌, List, length}

-- the contents are left to the program, the length is not
pub record LeftToProgram {A : Type 0} (before after : List A) : Type 0 where
  pub same_length : length after ≡ length before

-- slices that a read works in: left to the program, and untouched where it refuses early
pub record Used {W : Type 0} (Left : W → W → Type 0) (Early : Type 0) (w w' : W) : Type 0 where
  pub left : Left w w'
  pub untouched : Early → w' ≡ w
