-- What the stores of the read stand for: a state of the copy after some list of calls, with its margin, and the histories of the records.
use Rattle.std.specs.Prelude.{◌≡◌, ℕ, ◌≤◌, ◌<◌, Bool, cond, List, ℤ, length, Float}
use Rattle.std.proofs.Math.Option.{none, some}
use Rattle.model.specs.Graph.{Graph}
use Rattle.model.specs.Passes.{State}
use Rattle.model.specs.Checked.{GoodGraph}
use Rattle.copy_laws.specs.Walks.{Heard}
use Rattle.copy_laws.specs.Sums.{Floats32}
use Rattle.copy_laws.specs.States.{Standing}
use Rattle.tokens.specs.Layout.{held_at, place_in}
use Rattle.records.specs.History.{History}
use Rattle.records.specs.Layout.{store}
use Rattle.records.specs.Stands.{Stands}
use Rattle.stores.specs.Shown.{Shown}

-- the stores: tokens, sums, final weights, records, labels, gaps; the number of states, the table that is read, the records in use; the margin
pub record Situation (tk : List ℕ) (sm fs : List Float) (rs : List ℕ) (ls : List ℤ) (gs : List Float) (n b used : ℕ) (keeps : Bool) (margin : Float) : Type 0 where
  pub g : Graph
  pub good : GoodGraph g
  pub floats : Floats32 g
  pub finals : g.finals ≡ fs
  pub long : n ≤ length fs
  pub heard : List Heard
  pub st : State
  pub standing : Standing g heard st
  pub margin_is : st.margin ≡ cond keeps (some margin) none
  pub h : ℕ → History
  pub stands : Stands (store rs ls gs) used h
  pub shown : Shown h used tk sm b n st.table

-- an active state
abbrev pub Held : List ℕ → (b n s : ℕ) → Type 0
Held tk b n s = (s < n) × (held_at tk (place_in b s) ≡ 0 → ⊥)
