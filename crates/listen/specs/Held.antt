-- What the program holds between its calls of the decoder. Assumes nothing.
use Rattle.std.specs.Prelude.{◌≡◌, refl, ℕ, List, Float, length, Result, Ok}
use Rattle.std.proofs.Common.{sym, subst, ◌∙◌}
use Rattle.model.specs.Graph.{Graph}
use Rattle.model.specs.Calls.{frame_call}
use Rattle.cutoff.specs.declared.Config.{Config}
use Rattle.stores.specs.Rep.{Lent}
use Rattle.arcs.specs.State.{Tables}
use Rattle.checks.specs.declared.Lengths.{Lengths}
use Rattle.decoder.specs.declared.Decoder.{Decoder}
use Rattle.decoder.specs.declared.Called.{Called}
use Rattle.decoder.specs.declared.Called.TheVariants.{Done}
use Rattle.decoder.specs.Promises.{FrameIs, FitIs, FrameLeft}
use Rattle.decoder.specs.Behaves.{value_of}
use Rattle.decoder.specs.Held.{Held, HeldFitted}
use Rattle.decoder.proofs.Held.{held_asked, call_held, fit_held}
use Rattle.refusals.specs.declared.Refusal.{Refusal}

-- of the slices that the fitting has judged, frames need a scratch that is as long
pub record Hearing (T : Tables) (m : Lent) (finals : List Float) (eps : List ℕ) (places scratch : ℕ) (d : Decoder) : Type 0 where
  pub lengths : Lengths
  pub held : Held T m finals eps places lengths d
  pub as_long : lengths.scratch ≡ scratch

-- after a fitting
pub fit_hears : {g : Graph} {T : Tables} {m m' : Lent} {l : Lengths} {qs qs' eps eps' : List ℕ} {c : Config} {f : Result Called Refusal} {d : Decoder} → FitIs g T m m' l qs qs' eps eps' c f → f ≡ Ok (Done d) → length qs' ≡ length qs → Hearing T m' g.finals eps' (length qs') l.scratch d
fit_hears {g} {T} {m' = m'} {l} {qs} {eps' = eps'} {d = d} F e p = record { lengths = l; held = subst (λ (n : ℕ). Held T m' g.finals eps' n l d) (sym p) (subst (HeldFitted T m' g.finals eps' (length qs) l) e (fit_held F)); as_long = refl }

module _ {T : Tables} {m : Lent} {finals : List Float} {eps : List ℕ} {d : Decoder} where
  -- it meets what a frame asks
  pub frame_asked : {places scratch : ℕ} → Hearing T m finals eps places scratch d → FrameLeft T m eps places scratch d
  frame_asked {places} H = subst (λ (n : ℕ). FrameLeft T m eps places n d) H.as_long (held_asked H.held).frame

  -- and a frame hands it on
  pub frame_hears : {m' : Lent} {qs qs' : List ℕ} {sc sc' ls : List Float} {r : Called} {next : Decoder} → FrameIs T m m' qs qs' sc sc' eps ls d r → r ≡ Done next → Hearing T m finals eps (length qs) (length sc) d → Hearing T m' finals eps (length qs') (length sc') next
  frame_hears {m'} {qs} {ls = ls} {next = next} F e H =
      let l = H.lengths in
      let K = call_held (frame_call ls) refl F.answer H.held in
      record {
        lengths = l;
        held = subst (λ (n : ℕ). Held T m' finals eps n l next) (sym F.lent.queue.same_length) (subst (λ (x : Called). Held T m' finals eps (length qs) l (value_of x)) e K);
        as_long = H.as_long ∙ sym F.scratch.same_length;
      }
