-- Lists of calls: where the copy stands after each, what is remembered beside its state, and what holds there. Assumes nothing.
use Rattle.std.specs.Prelude.{◌≡◌, Bool, Float}
use Rattle.std.proofs.Math.Path.{refl}
use Prim.Native.Nat.{ℕ, zero, suc}
use Rattle.std.proofs.Math.Bool.{true, false}
use Rattle.std.proofs.Math.Option.{Option, none}
use mathlib.Core.List.{List, [], ◌∷◌, ◌++◌}
use Rattle.lists.specs.Tests.{or_neither, never}
use Rattle.model.specs.Basics.{Outcome, ok, refused, Place, nowhere}
use Rattle.model.specs.Graph.{Graph, check_graph}
use Rattle.model.specs.Path.{unlimited}
use Rattle.model.specs.Cutoff.{Config}
use Rattle.model.specs.Passes.{no_tokens, State, dropped, start, frame, fair_margin, set_keep}
use Rattle.model.specs.Calls.{Call, start_call, frame_call, keep_call, read_call, said, call, told_call}
use Rattle.model.specs.Accepted.{Ok}
use Rattle.model.specs.Checked.{GoodGraph}
use Rattle.model.proofs.Checked.{checked}
use Rattle.copy_laws.specs.Walks.{Heard}
use Rattle.copy_laws.specs.Drops.{drops_start, drops_frame}
use Rattle.copy_laws.specs.Sums.{Floats32}
use Rattle.copy_laws.specs.Kept.{hearing}
use Rattle.copy_laws.specs.States.{Standing}
use Rattle.copy_laws.proofs.States.{standing_none, start_standing, frame_standing}
use Rattle.copy_laws.specs.Least.{Covered}
use Rattle.copy_laws.proofs.Uncut.{start_covers, frame_covers}
use Rattle.copy_laws.specs.Points.{Point, after_start, after_frame, moved, go_to, after, fitted_point, reached, Stands}

-- ---- these are the states that the copy answers from

start_state : (left : State) (drops : Bool) (o : Outcome State) (p : Place) → (after_start left drops o).state ≡ (said left p o).state
start_state left drops (ok s) p = refl
start_state left drops (refused n) p = refl

frame_state : (pt : Point) (f : Heard) (drops : Bool) (o : Outcome State) (p : Place) → (after_frame pt f drops o).state ≡ (said pt.state p o).state
frame_state pt f drops (ok s) p = refl
frame_state pt f drops (refused n) p = refl

pub go_to-state : (g : Graph) (c : Config) (pt : Point) (k : Call) (n : ℕ) → (go_to g c pt k n).state ≡ (told_call g c k n pt.state).state
unfolding go_to told_call call
go_to-state g c pt start_call zero = start_state (dropped g pt.state) (drops_start g c unlimited pt.state) (start g c unlimited pt.state) _
go_to-state g c pt start_call (suc n) = refl
go_to-state g c pt (frame_call ls) zero = frame_state pt (hearing ls pt.state.table) (drops_frame g c unlimited ls pt.state) (frame g c unlimited ls pt.state) _
go_to-state g c pt (frame_call ls) (suc n) = refl
go_to-state g c pt (keep_call m) zero = refl
go_to-state g c pt (keep_call m) (suc n) = refl
go_to-state g c pt (read_call r) zero = refl
go_to-state g c pt (read_call r) (suc n) = refl

ok_when : {A : Type 0} (P : A → Type 0) (B : Type 0) (m : Outcome A) → (B → Ok P m) → Ok (λ a. B → P a) m
ok_when P B (ok a) f = f
ok_when P B (refused n) f = tt

module _ (g : Graph) (good : GoodGraph g) (floats : Floats32 g) (c : Config) where
  stands_none : (m : Option Float) → fair_margin m ≡ true → (cut : Bool) → Stands g (record { state = record { margin = m; frames = 0; table = no_tokens g; seq = 0; fresh = 0 }; heard = []; started = false; cut = cut })
  stands_none m e cut = record { standing = standing_none g m e; covered = λ s. never s }

  start_stands : (st : State) (fair : fair_margin st.margin ≡ true) (drops : Bool) (o : Outcome State) → Ok (Standing g []) o → Ok (λ s. drops ≡ false → Covered g [] s.table) o → Stands g (after_start (dropped g st) drops o)
  unfolding dropped
  start_stands st fair drops (ok s) d k = record { standing = d; covered = λ e. k }
  start_stands st fair drops (refused n) d k = stands_none st.margin fair false

  frame_stands : (pt : Point) (f : Heard) (drops : Bool) (o : Outcome State) → Stands g pt → Ok (Standing g (pt.heard ++ (f ∷ []))) o → Ok (λ s. (pt.started ≡ true) × (pt.cut ≡ false) × (drops ≡ false) → Covered g (pt.heard ++ (f ∷ [])) s.table) o → Stands g (after_frame pt f drops o)
  frame_stands pt f drops (ok s) h d k = record { standing = d; covered = λ e u. let z = or_neither pt.cut drops u in k (e, z.0, z.1) }
  frame_stands pt f drops (refused n) h d k = h

  keep_stands : (pt : Point) (m : Option Float) → Stands g pt → Stands g (moved pt (said pt.state nowhere (set_keep m pt.state)).state)
  unfolding set_keep
  keep_stands pt m h = go (fair_margin m) refl
    where
      go : (b : Bool) → fair_margin m ≡ b
          → Stands g (moved pt (said pt.state nowhere (elim b as (λ x. Outcome State) [ true ↦ ok (record { margin = m; frames = pt.state.frames; table = pt.state.table; seq = pt.state.seq; fresh = pt.state.fresh }) | false ↦ refused 6 ])).state)
      go true e = record { standing = record { active = h.standing.active; frames = h.standing.frames; few = h.standing.few; margin = e }; covered = h.covered }
      go false e = h

  pub call_stands : (pt : Point) (k : Call) (n : ℕ) → Stands g pt → Stands g (go_to g c pt k n)
  unfolding go_to dropped
  call_stands pt start_call zero h =
      let st = pt.state in
      start_stands st h.standing.margin (drops_start g c unlimited st) (start g c unlimited st) (start_standing g good floats c unlimited st h.standing.margin)
      (ok_when (λ s. Covered g [] s.table) (drops_start g c unlimited st ≡ false) (start g c unlimited st) (start_covers g good floats c unlimited st))
  call_stands pt start_call (suc n) h = stands_none pt.state.margin h.standing.margin false
  call_stands pt (frame_call ls) zero h =
      let st = pt.state in
      let f = hearing ls st.table in
      let drops = drops_frame g c unlimited ls st in
      frame_stands pt f drops (frame g c unlimited ls st) h (frame_standing g good floats c unlimited st pt.heard ls h.standing)
      (ok_when (λ s. Covered g (pt.heard ++ (f ∷ [])) s.table) ((pt.started ≡ true) × (pt.cut ≡ false) × (drops ≡ false)) (frame g c unlimited ls st)
      (λ u. frame_covers g good floats c unlimited st pt.heard ls h.standing (h.covered u.0 u.1) u.2))
  call_stands pt (frame_call ls) (suc n) h = h
  call_stands pt (keep_call m) zero h = keep_stands pt m h
  call_stands pt (keep_call m) (suc n) h = h
  call_stands pt (read_call r) n h = h

  pub calls_stand : (pt : Point) (ks : List (Call × ℕ)) → Stands g pt → Stands g (after g c pt ks)
  unfolding after
  calls_stand pt [] h = h
  calls_stand pt (k ∷ ks) h = calls_stand (go_to g c pt k.0 k.1) ks (call_stands pt k.0 k.1 h)

  pub fitted_stands : Stands g (fitted_point g)
  fitted_stands = stands_none none refl false

-- On an accepted graph whose weights are f32 values, after a fitting and every list of calls, refused ones included.
pub reached_stands : (g : Graph) (c : Config) → check_graph g ≡ none → Floats32 g → (ks : List (Call × ℕ)) → Stands g (reached g c ks)
reached_stands g c e floats ks = calls_stand g (checked g e) floats c (fitted_point g) ks (fitted_stands g (checked g e) floats c)
