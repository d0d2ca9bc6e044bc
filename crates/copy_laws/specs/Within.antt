-- An arrival makes no state dearer, and one that is not cut leaves its target at most its total. Assumes nothing.
use Rattle.std.specs.Prelude.{ℕ, Float}
use Rattle.std.proofs.Math.Dec.{T}
use Rattle.real32.specs.Order.{real}
use Rattle.model.specs.Basics.{◌≼◌}
use Rattle.model.specs.Path.{Token, Table}
use Rattle.copy_laws.specs.Tables.{At}

-- state s is active, at a cost of at most x
abbrev pub Within : Table → (s : ℕ) → (x : Float) → Type 0
Within ts s x = (u : Token) × At ts s u × T (u.cost ≼ x)

-- a state that is active stays so, and gets no dearer
abbrev pub Lowers : (before after : Table) → Type 0
Lowers ts us = (s : ℕ) (t : Token) → At ts s t → Within us s t.cost

-- no cost is a NaN
abbrev pub Reals : Table → Type 0
Reals ts = (s : ℕ) (t : Token) → At ts s t → T (real t.cost)
