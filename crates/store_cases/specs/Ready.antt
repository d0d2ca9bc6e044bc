-- A store that stands for some histories, with tokens that hold its records: what every case starts from and leaves.
use Rattle.std.specs.Prelude.{ℕ, suc, ◌≤◌, ◌<◌, List, ℤ, Float}
use Rattle.tokens.specs.Layout.{held_at}
use Rattle.records.specs.History.{History}
use Rattle.records.specs.Layout.{Store, store, Room}
use Rattle.records.specs.Stands.{Stands}

-- the slices that `main` lends have places for 32,768 records
abbrev pub Lent : Store → Type 0
Lent s = Room s 32768

pub record Ready (s : Store) (tk : List ℕ) (used cap places : ℕ) : Type 0 where
  pub few : used ≤ cap
  pub cap_few : cap ≤ 32768
  pub places_few : places ≤ 16
  pub histories : ℕ → History
  pub stands : Stands s used histories
  pub held : (p : ℕ) → p < places → held_at tk p ≤ suc used

-- records put on: it was ready, so it is
pub record RecordsPut (s s' : Store) (n n' cap : ℕ) : Type 0 where
  pub few : n' ≤ cap
  pub ready : (tk : List ℕ) (places : ℕ) → Ready s tk n cap places → Ready s' tk n' cap places

-- links put on, which leave the gaps as they are
pub record LinksOn (rs rs' : List ℕ) (ls ls' : List ℤ) (n n' cap : ℕ) : Type 0 where
  pub put : (gs : List Float) → RecordsPut (store rs ls gs) (store rs' ls' gs) n n' cap

-- each place holds what it held, or `held`
pub record HeldPut (tk tk' : List ℕ) (held : ℕ) : Type 0 where
  pub within : (n p : ℕ) → held ≤ n → held_at tk p ≤ n → held_at tk' p ≤ n
