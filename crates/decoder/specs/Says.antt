-- What the answers of a list of calls say: of the calls before each what the theorems on the copy say. Assumes nothing.
use Rattle.std.specs.Prelude.{◌≡◌, true}
use Rattle.std.proofs.Math.Option.{none}
use Rattle.model.specs.Graph.{check_graph}
use Rattle.model.specs.Passes.{fair}
use Rattle.copy_laws.specs.Sums.{Floats32}
use Rattle.decoder.specs.Demand3.{Fitting}

-- what a fitting knows of its graph and settings: they are accepted, and the weights are f32 values
pub record Known (F : Fitting) : Type 0 where
  pub passed : check_graph F.graph ≡ none
  pub floats : Floats32 F.graph
  pub beam : fair F.config.beam ≡ true
