-- Where no cutoff drops anything, every path of the graph of as many frames ends in an active state, whose token costs no more. Assumes nothing.
use Rattle.std.specs.Prelude.{◌≡◌, ℕ, true}
use Rattle.std.proofs.Math.Option.{Option, none, some}
use mathlib.Core.List.{List, ◌∷◌, ◌++◌}
use Rattle.model.specs.Graph.{Graph, Arc, emits}
use Rattle.model.specs.Path.{Token, Table}
use Rattle.copy_laws.specs.Walks.{Heard, emitted, Walk, sum_of}
use Rattle.copy_laws.specs.Within.{Within}

-- every path of these frames ends in an active state, whose token costs no more
abbrev pub Covered : Graph → List Heard → Table → Type 0
Covered g fs ts = (route : List Arc) (s : ℕ) → Walk g fs route s → Within ts s (sum_of g fs route)

-- ---- the last emitting arc of a path

pub record LastEmitting (route : List Arc) (n : ℕ) : Type 0 where
  pub before : List Arc
  pub arc : Arc
  pub after : List Arc
  pub is : route ≡ before ++ (arc ∷ after)
  pub emit : emits arc ≡ true
  pub count : emitted before ≡ n
  pub rest : emitted after ≡ 0

-- ---- offsets and log-likelihoods are small

abbrev pub BestIs : (Token → Type 0) → Option (ℕ × Token) → Type 0
BestIs P none = Unit {0}
BestIs P (some b) = P b.1
