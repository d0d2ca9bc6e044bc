-- What holds of the active tokens of a table, and that every arrival keeps it, whichever the pass. Assumes nothing.
use Rattle.std.specs.Prelude.{◌≡◌, ℕ, suc, ◌+◌, ◌*◌, ◌≤◌, List}
use Rattle.std.proofs.Math.Bool.{true}
use Rattle.std.proofs.Math.ListN.{length}
use Rattle.real32.specs.Small.{tame}
use Rattle.model.specs.Graph.{Graph, states}
use Rattle.model.specs.Path.{Token, Table}
use Rattle.copy_laws.specs.Walks.{Heard}
use Rattle.copy_laws.specs.Tables.{At, vacant}
use Rattle.copy_laws.specs.Tokens.{Sound}

-- A place for each state; each token sound and its graph sum below 2 ^ 100; no two of one seq, and none above the counter; and room for a seq at every state that is not active.
pub record Active (g : Graph) (fs : List Heard) (ts : Table) (seq fresh : ℕ) : Type 0 where
  pub long : length ts ≡ states g
  pub sound : (s : ℕ) (t : Token) → At ts s t → Sound g fs fresh s t
  pub light : (s : ℕ) (t : Token) → At ts s t → tame t.graph ≡ true
  pub old : (s : ℕ) (t : Token) → At ts s t → t.seq ≤ seq
  pub distinct : (s : ℕ) (t : Token) (r : ℕ) (u : Token) → At ts s t → At ts r u → t.seq ≡ u.seq → s ≡ r
  pub room : seq + vacant ts ≤ states g * suc (length fs)
