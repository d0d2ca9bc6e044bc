-- Lists of calls: where the copy stands after each, what is remembered beside its state, and what holds there. Assumes nothing.
use Rattle.std.specs.Prelude.{◌≡◌, Bool, ◌||◌}
use Prim.Native.Nat.{ℕ, zero, suc}
use Rattle.std.proofs.Math.Bool.{true, false}
use mathlib.Core.List.{List, [], ◌∷◌, ◌++◌}
use Rattle.model.specs.Basics.{Outcome, ok, refused, nowhere}
use Rattle.model.specs.Graph.{Graph}
use Rattle.model.specs.Path.{unlimited}
use Rattle.model.specs.Cutoff.{Config}
use Rattle.model.specs.Passes.{State, fitted, dropped, start, frame, set_keep}
use Rattle.model.specs.Calls.{Call, start_call, frame_call, keep_call, read_call, said}
use Rattle.copy_laws.specs.Walks.{Heard}
use Rattle.copy_laws.specs.Drops.{drops_start, drops_frame}
use Rattle.copy_laws.specs.Kept.{hearing}
use Rattle.copy_laws.specs.States.{Standing}
use Rattle.copy_laws.specs.Least.{Covered}

-- ---- where the copy stands

-- Its state; the frames accepted since the latest start, in order, each with the copy's offset in it; whether that start was accepted; and whether a cutoff has dropped anything in it or since.
pub record Point : Type 0 where
  pub state : State
  pub heard : List Heard
  pub started : Bool
  pub cut : Bool

-- a start that is accepted, or refused
abbrev pub after_start : State → (drops : Bool) → Outcome State → Point
after_start left drops (ok s) = record { state = s; heard = []; started = true; cut = drops }
after_start left drops (refused n) = record { state = left; heard = []; started = false; cut = false }

-- a refused frame leaves everything as it was
abbrev pub after_frame : Point → Heard → (drops : Bool) → Outcome State → Point
after_frame pt f drops (ok s) = record { state = s; heard = pt.heard ++ (f ∷ []); started = pt.started; cut = pt.cut || drops }
after_frame pt f drops (refused n) = pt

abbrev pub moved : Point → State → Point
moved pt s = record { state = s; heard = pt.heard; started = pt.started; cut = pt.cut }

-- a call, and the number that the copy was told: 13 to 15, or 0
unfoldable pub go_to : Graph → Config → Point → Call → (told : ℕ) → Point
go_to g c pt start_call zero = after_start (dropped g pt.state) (drops_start g c unlimited pt.state) (start g c unlimited pt.state)
go_to g c pt start_call (suc n) = after_start (dropped g pt.state) false (refused (suc n))
go_to g c pt (frame_call ls) zero = after_frame pt (hearing ls pt.state.table) (drops_frame g c unlimited ls pt.state) (frame g c unlimited ls pt.state)
go_to g c pt (frame_call ls) (suc n) = pt
go_to g c pt (keep_call m) zero = moved pt (said pt.state nowhere (set_keep m pt.state)).state
go_to g c pt (keep_call m) (suc n) = pt
go_to g c pt (read_call r) n = pt

unfoldable pub after : Graph → Config → Point → List (Call × ℕ) → Point
after g c pt [] = pt
after g c pt (k ∷ ks) = after g c (go_to g c pt k.0 k.1) ks

abbrev pub fitted_point : Graph → Point
fitted_point g = record { state = fitted g; heard = []; started = false; cut = false }

-- after a fitting and these calls
abbrev pub reached : Graph → Config → List (Call × ℕ) → Point
reached g c ks = after g c (fitted_point g) ks

-- ---- what holds there

pub record Stands (g : Graph) (pt : Point) : Type 0 where
  pub standing : Standing g pt.heard pt.state
  pub covered : pt.started ≡ true → pt.cut ≡ false → Covered g pt.heard pt.state.table
