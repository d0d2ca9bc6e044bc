-- What the program holds between the decoder's calls. Assumes nothing.
use Rattle.std.specs.Prelude.{◌≡◌, refl, ℕ, ◌≤◌, List, Float, length, Result, Ok, Err}
use Rattle.std.proofs.Common.{subst, arith}
use mathlib.Core.List.Memᴰ.{head as here}
use mathlib.Core.List.Memᴰ.{tail as there}
use Rattle.model.specs.Graph.{Graph}
use Rattle.model.specs.Calls.{Call}
use Rattle.cutoff.specs.declared.Config.{Config}
use Rattle.stores.specs.Rep.{Lent}
use Rattle.arcs.specs.State.{Tables}
use Rattle.checks.specs.declared.Lengths.{Lengths}
use Rattle.decoder.specs.declared.Decoder.{Decoder}
use Rattle.decoder.specs.declared.Called.{Called}
use Rattle.decoder.specs.declared.Called.TheVariants.{Done, Refused}
use Rattle.decoder.specs.Promises.{Promised, FitIs, FrameLeft}
use Rattle.decoder.specs.Behaves.{value_of}
use Rattle.decoder.specs.Held.{Held as Holds, HeldFitted as HoldsFitted}
use Rattle.decoder.proofs.Held.{held_asked, call_held as call_holds, fit_held as fit_holds}
use Rattle.refusals.specs.declared.Refusal.{Refusal}

-- of the slices that the fitting has judged: a frame's scratch, and one for each state and one for each record of the program's own
pub record Held (T : Tables) (m : Lent) (finals : List Float) (eps : List ℕ) (places scratch : ℕ) (d : Decoder) : Type 0 where
  pub lengths : Lengths
  pub holds : Holds T m finals eps places lengths d
  pub as_long : lengths.scratch ≡ scratch
  pub own_are : lengths.own ≡ 4096
  pub routes_are : lengths.route ≡ 8192

-- there is a decoder where 1 to 6 do not refuse the fitting
abbrev pub HeldFitted : (T : Tables) (m : Lent) (finals : List Float) (eps : List ℕ) (places scratch : ℕ) → Result Called Refusal → Type 0
HeldFitted T m finals eps places scratch (Err f) = Unit {0}
HeldFitted T m finals eps places scratch (Ok (Done d)) = Held T m finals eps places scratch d
HeldFitted T m finals eps places scratch (Ok (Refused d f)) = Held T m finals eps places scratch d

module _ {T : Tables} {m : Lent} {finals : List Float} {eps : List ℕ} {places scratch : ℕ} {d : Decoder} (H : Held T m finals eps places scratch d) where
  -- it meets what a frame asks, and its decoder is no larger than the program's slices
  pub frame_asked : FrameLeft T m eps places scratch d
  frame_asked = subst (λ (n : ℕ). FrameLeft T m eps places n d) H.as_long (held_asked H.holds).frame

  pub few_states : d.graph.states ≤ 4096
  few_states = let z = H.holds.room.per_state H.lengths.own (there (there (there (there (there (there (here refl))))))) in let e = H.own_are in omega arith

  pub few_records : d.cap ≤ 8192
  few_records = let z = H.holds.room.per_record H.lengths.route (there (here refl)) in let e = H.routes_are in let k = H.holds.cap_is in omega arith

  -- a call hands it on
  pub call_held : {m' : Lent} (k : Call) (r : Called) → Promised T m m' eps places k d r → Held T m' finals eps places scratch (value_of r)
  call_held k r P = record { lengths = H.lengths; holds = call_holds k refl P H.holds; as_long = H.as_long; own_are = H.own_are; routes_are = H.routes_are }

-- and a fitting gives it
pub fit_held : {g : Graph} {T : Tables} {m m' : Lent} {l : Lengths} {qs qs' eps eps' : List ℕ} {c : Config} (f : Result Called Refusal) → l.own ≡ 4096 → l.route ≡ 8192 → FitIs g T m m' l qs qs' eps eps' c f → HeldFitted T m' g.finals eps' (length qs) l.scratch f
fit_held {g} {T} {m' = m'} {l} {qs} {eps' = eps'} f o r F = go f (fit_holds F)
  where
    go : (f : Result Called Refusal) → HoldsFitted T m' g.finals eps' (length qs) l f → HeldFitted T m' g.finals eps' (length qs) l.scratch f
    go (Err x) H = tt
    go (Ok (Done d)) H = record { lengths = l; holds = H; as_long = refl; own_are = o; routes_are = r }
    go (Ok (Refused d x)) H = record { lengths = l; holds = H; as_long = refl; own_are = o; routes_are = r }
