-- What an arrival of the nonemitting pass spends: a push is paid for by a cost that falls in rank, or by the one requeue of a join. Assumes nothing.
use Rattle.std.specs.Prelude.{ℕ, zero, suc, ◌+◌, ◌^◌, cond, List, [], ◌∷◌, length, T}
use Rattle.std.proofs.Math.Option.{Option, none, some}
use Rattle.std.specs.Float.Ieee.{binary32, fits}
use Rattle.real32.specs.Rank.{rank}
use Rattle.model.specs.Path.{Token, Table, memℕ}
use Rattle.model.specs.Arrive.{Work}
use Rattle.copy_laws.specs.Tables.{At}

-- ---- ranks of the places

-- a place with no token is dearer than any
abbrev pub value : Option Token → ℕ
value none = 2 ^ 32
value (some t) = rank binary32 t.cost

-- each twice: a fall pays for a push, and leaves one over
abbrev pub worth : Table → ℕ
worth [] = 0
worth (o ∷ ts) = value o + value o + worth ts

abbrev pub Fits : Table → Type 0
Fits ts = (s : ℕ) (t : Token) → At ts s t → T (fits binary32 t.cost)

-- ---- the states below n that no join has requeued

abbrev pub spare : ℕ → List ℕ → ℕ
spare zero re = 0
spare (suc n) re = cond (memℕ n re) 0 1 + spare n re

-- ---- what is left to spend

abbrev pub left : ℕ → Work → ℕ
left n w = worth w.table + length w.queue + (spare n w.requeued + spare n w.requeued)
