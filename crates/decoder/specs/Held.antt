-- What a caller holds from call to call meets what every call asks, and each call's contract hands it on. Assumes nothing.
use Rattle.std.specs.Prelude.{◌≡◌, ℕ, List, Float, Result, Ok, Err}
use Rattle.stores.specs.Rep.{Lent}
use Rattle.arcs.specs.State.{Tables}
use Rattle.checks.specs.declared.Lengths.{Lengths}
use Rattle.checks.specs.Fit.{record_places, Roomy}
use Rattle.decoder.specs.declared.Decoder.{Decoder}
use Rattle.decoder.specs.Represents.{Left}
use Rattle.decoder.specs.declared.Called.{Called}
use Rattle.decoder.specs.declared.Called.TheVariants.{Done, Refused}
use Rattle.refusals.specs.declared.Refusal.{Refusal}

-- decoder and stores as a call has left them, of a graph with these final weights, and slices of lengths that its fitting has judged
pub record Held (T : Tables) (m : Lent) (finals : List Float) (eps : List ℕ) (places : ℕ) (l : Lengths) (d : Decoder) : Type 0 where
  pub left : Left T m eps places d
  pub finals_are : left.g.finals ≡ finals
  pub cap_is : d.cap ≡ record_places l
  pub room : Roomy d.graph.states l

-- ---- a fitting gives it

-- there is a decoder where 1 to 6 do not refuse
abbrev pub HeldFitted : (T : Tables) (m : Lent) (finals : List Float) (eps : List ℕ) (places : ℕ) (l : Lengths) → Result Called Refusal → Type 0
HeldFitted T m finals eps places l (Err f) = Unit {0}
HeldFitted T m finals eps places l (Ok (Done d)) = Held T m finals eps places l d
HeldFitted T m finals eps places l (Ok (Refused d f)) = Held T m finals eps places l d
