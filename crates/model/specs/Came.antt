-- What an arriving arc leaves where it is accepted, as data of five cases: one law over the choice of pass. Every invariant of a pass goes by it. Assumes nothing.
use Rattle.std.specs.Prelude.{◌≡◌, ◌⊎◌, ℕ, ◌+◌}
use Rattle.std.proofs.Math.Bool.{true, false}
use Rattle.std.proofs.Math.Option.{Option, none, some}
use mathlib.Core.List.{List}
use Rattle.real32.specs.Small.{tame}
use Rattle.model.specs.Basics.{◌≼◌}
use Rattle.model.specs.Graph.{Arc}
use Rattle.model.specs.Path.{Token}
use Rattle.model.specs.Arrive.{Pass, emitting, nonemitting, total, lower, Here, Work, joined}

-- the emitting pass leaves the queue
abbrev pub Still : Pass → Work → Work → Type 0
Still (emitting ls off ad) w v = (v.queue ≡ w.queue) × (v.requeued ≡ w.requeued)
Still nonemitting w v = Unit {0}

-- the token, or the token with a loser joined to it
abbrev pub WithLoser : Here → ℕ → (won lost : Token) → Token → Type 0
WithLoser h k won lost u = (u ≡ won) ⊎ (u ≡ joined h k won lost)

-- a total that passed the cutoff
pub record Passing (h : Here) (p : Pass) (t : Token) (a : Arc) (w v : Work) : Type 0 where
  pub under : (w.cutoff ≼ total h.graph p t a) ≡ false
  pub small : tame (total h.graph p t a) ≡ true
  pub cutoff : v.cutoff ≡ lower p (total h.graph p t a) w.cutoff
  pub fresh : v.fresh ≡ w.fresh + 2
  pub still : Still p w v

-- ---- the push changes the queue alone

pub record Queued (Q : List ℕ → List ℕ → Type 0) (u v : Work) : Type 0 where
  pub table : v.table ≡ u.table
  pub seq : v.seq ≡ u.seq
  pub cutoff : v.cutoff ≡ u.cutoff
  pub fresh : v.fresh ≡ u.fresh
  pub queue : Q u.queue v.queue

abbrev pub QueuedIn : Pass → (List ℕ → List ℕ → Type 0) → Work → Work → Type 0
QueuedIn p Q u v = Queued Q u v × Still p u v

-- ---- what `settle` gives

abbrev pub KeptAs : Here → ℕ → (won lost : Token) → Option Token → Type 0
KeptAs h k won lost none = Unit {0}
KeptAs h k won lost (some j) = j ≡ joined h k won lost
