-- Places in the script, and how a run of calls goes on along it. Assumes nothing.
use Rattle.std.specs.Prelude.{◌≡◌, ℕ, suc, ◌+◌, ◌-◌, ◌≤◌, ◌<◌, List, Option, Some, None, Result, Ok, Err}
use Rattle.std.proofs.Common.{subst, sym, arith}
use Rattle.script.specs.declared.Record.{Record}
use Rattle.script.specs.declared.CutShort.{CutShort}
use Rattle.script.specs.Words.{word_count}
use Rattle.script.specs.Records.{record_at, whole_within}
use Rattle.replay_payloads.specs.Payloads.{Inside}
use Rattle.replay.specs.declared.Stop.{Stop}
use Rattle.replay.specs.declared.graphs.Turn.{Turn}

-- a record that starts at a place lies within so many words
abbrev pub RecordFrom : (n at : ℕ) → Result (Option Record) CutShort → Type 0
RecordFrom n at (Ok (Some r)) = (r.start ≡ at + 2) × (r.start + r.count ≤ n)
RecordFrom n at (Ok None) = Unit {0}
RecordFrom n at (Err e) = Unit {0}

pub record_from : (bs : List ℕ) (at : ℕ) (t : Result (Option Record) CutShort) → t ≡ record_at bs at → RecordFrom (word_count bs) at t
record_from bs at (Ok (Some r)) e = whole_within bs at r e
record_from bs at (Ok None) e = tt
record_from bs at (Err z) e = tt

-- a run of calls ends at a record of the script, behind a place
abbrev pub Behind : List ℕ → ℕ → Stop → Type 0
Behind bs from Stop.End = Unit {0}
Behind bs from (Stop.NewGraph r) = (from < r.start + r.count) × Inside bs r
Behind bs from (Stop.NewFit r) = (from < r.start + r.count) × Inside bs r

pub behind_from : (bs : List ℕ) (a b : ℕ) (s : Stop) → b ≤ a → Behind bs a s → Behind bs b s
behind_from bs a b Stop.End l h = tt
behind_from bs a b (Stop.NewGraph r) l h = (let z = h.0 in omega arith, h.1)
behind_from bs a b (Stop.NewFit r) l h = (let z = h.0 in omega arith, h.1)

-- how many words are left there, and 1 more
abbrev pub ahead : List ℕ → Stop → ℕ
ahead bs Stop.End = 0
ahead bs (Stop.NewGraph r) = suc (word_count bs - (r.start + r.count))
ahead bs (Stop.NewFit r) = suc (word_count bs - (r.start + r.count))

pub fewer_ahead : (bs : List ℕ) (r : Record) (s : Stop) → Inside bs r → Behind bs (r.start + r.count) s → ahead bs s < suc (word_count bs - (r.start + r.count))
fewer_ahead bs r Stop.End l h = omega arith
fewer_ahead bs r (Stop.NewGraph x) l h = let a = h.0 in let b = h.1 in omega arith
fewer_ahead bs r (Stop.NewFit x) l h = let a = h.0 in let b = h.1 in omega arith

-- a run ends at this record, if not at the end
abbrev pub StopsAt : Record → Stop → Type 0
StopsAt r Stop.End = Unit {0}
StopsAt r (Stop.NewGraph x) = x ≡ r
StopsAt r (Stop.NewFit x) = x ≡ r

abbrev pub TurnAt : Record → Turn → Type 0
TurnAt r (Turn.Stopped s) = StopsAt r s
TurnAt r Turn.Left = Unit {0}
TurnAt r Turn.Other = Unit {0}

-- a turn stops there or at the end, or not at all
abbrev pub TurnsTo : Stop → Turn → Type 0
TurnsTo s t = (r : Record) → StopsAt r s → TurnAt r t

pub stops_behind : (bs : List ℕ) (from : ℕ) (r : Record) (s : Stop) → StopsAt r s → from < r.start + r.count → Inside bs r → Behind bs from s
stops_behind bs from r Stop.End e l i = tt
stops_behind bs from r (Stop.NewGraph x) e l i = subst (λ (z : Record). (from < z.start + z.count) × Inside bs z) (sym e) (l, i)
stops_behind bs from r (Stop.NewFit x) e l i = subst (λ (z : Record). (from < z.start + z.count) × Inside bs z) (sym e) (l, i)
