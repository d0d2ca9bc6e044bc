-- What `get_delta_weights` gives back and leaves is what its contract says, by what the plan was. Assumes nothing.
use mathlib.Core.Path.{◌≡◌, refl, sym, ap, ap₂, ◌∙◌, subst}
use Prim.Native.Nat.{ℕ, ◌-◌, ◌^◌, ◌≤◌, min}
use native.Mathlib.Omega.{arith}
use mathlib.Core.Bool.{Bool}
use mathlib.Core.List.{List, []}
use lib.IntN.{ℤ}
use lib.Dec.{leb, ltb}
use lib.ListN.{length, drop, replicate, length-map}
use lib.Seq.{sets}
use lib.Ieee.{Float}
use borrow.Author.Tests.{ltb-false, leb-true}
use Rattle.std.specs.Prelude.{Option, Some, None, Result, Ok, Err}
use Rattle.refusals.specs.declared.Reason.{Reason}
use Rattle.model.specs.Basics.{Outcome, ok}
use Rattle.model.specs.Silence.{weighting_wrong, too_many, Deltas, deltas_of, ceil_div, get_delta_weights}
use Rattle.silence_weighting.specs.declared.SilenceWeighting.{SilenceWeighting}
use Rattle.silence_weighting.specs.declared.Window.{Window}
use Rattle.silence_weighting.specs.declared.Write.{Write}
use Rattle.silence_weighting.specs.State.{places, state_of}
use Rattle.silence_weighting.specs.Answers.{brought, Memory, deltas_in, DeltasRight}
use Rattle.silence_weighting.specs.Parts.{weights_on, deltas_on, window_of, plan_of, Sound, Wrote}
use Rattle.silence_weighting.proofs.Runs.{drop_sets}
use Rattle.silence_weighting.proofs.Told.{drop_stored}
use Rattle.silence_weighting.proofs.Writing.{firsts, seconds}
use Rattle.silence_weighting.proofs.Limits.{fair, few_frames, sound_window, none_needed}
use Rattle.silence_weighting.proofs.Weighs.{deltas_told, deltas_are_lem, weights-length, read_back}
use Rattle.silence_weighting.proofs.Answered.{weighed_for, Planned, planned}

-- where a plan writes: the window lies within the memory, and its differences within the output
pub record Within (s : SilenceWeighting) (n : ℕ) (ss : List ℕ) (ws : List Float) (fs : List ℕ) (ds : List Float) (w : Window) : Type 0 where
  pub sound : Sound w ss ws
  pub store : n ≤ places ss ws
  pub list : s.frames ≤ places ss ws
  pub room : length (deltas_on w ss ws) ≤ min (length fs) (length ds)

module _ (s : SilenceWeighting) (ready from : ℕ) (ss : List ℕ) (ws : List Float) (fs : List ℕ) (ds : List Float) where
  abbrev n : ℕ
  n = ceil_div (ready - from) s.subsampling

  abbrev w : Window
  w = window_of s n from ss ws

  abbrev room : ℕ
  room = min (length fs) (length ds)

  abbrev memory : Memory
  memory = record { status = ss; weights = ws; frames = fs; deltas = ds }

  abbrev all : Write
  all = record { window = w; count = length (deltas_on w ss ws) }

  abbrev plan : Result (Option Write) Reason
  plan = plan_of s ready from room ss ws

  module _ (ps : List ℤ) where
    abbrev answer : Outcome Deltas
    answer = brought s (places ss ws) (get_delta_weights (places ss ws) room ready from (state_of ps s ss ws))

    abbrev nothing : Deltas
    nothing = record { state = state_of ps s ss ws; deltas = [] }

    abbrev full : Deltas
    full = deltas_of (state_of ps s ss ws) n from

    answer_is : answer ≡ weighed_for (weighting_wrong s.weight s.subsampling) (too_many (places ss ws) s.frames) (ltb (2 ^ 32) ready) (ltb (2 ^ 32) from) (leb ready from) (too_many (places ss ws) n) (ltb room (length (deltas_on w ss ws))) nothing full
    unfolding brought get_delta_weights state_of
    answer_is = ap (λ (b : Bool). weighed_for (weighting_wrong s.weight s.subsampling) (too_many (places ss ws) s.frames) (ltb (2 ^ 32) ready) (ltb (2 ^ 32) from) (leb ready from) (too_many (places ss ws) n) b nothing full)
        (ap (λ d. ltb room (length d)) (deltas_told s n from ss ws ps))

    plan_says : Planned nothing full all (Within s n ss ws fs ds w) plan answer
    unfolding plan_of
    plan_says =
        subst (λ (e : Outcome Deltas). Planned nothing full all (Within s n ss ws fs ds w) plan e) (sym answer_is)
        (planned (weighting_wrong s.weight s.subsampling) (too_many (places ss ws) s.frames) (ltb (2 ^ 32) ready) (ltb (2 ^ 32) from) (leb ready from) (too_many (places ss ws) n) (ltb room (length (deltas_on w ss ws))) nothing full w (length (deltas_on w ss ws)) (Within s n ss ws fs ds w)
        (λ a b. none_needed (places ss ws) ready from s.subsampling (fair s.weight s.subsampling a).0 (leb-true ready from b))
        (λ a b c d e. record {
          sound = sound_window s n from ss ws a b d (ltb-false (2 ^ 32) from c);
          store = (few_frames (places ss ws) n d).1;
          list = (few_frames (places ss ws) s.frames b).1;
          room = ltb-false room (length (deltas_on w ss ws)) e;
        }))

    says : (p : Result (Option Write) Reason) → plan ≡ p → Planned nothing full all (Within s n ss ws fs ds w) p answer
    says p e = subst (λ (q : Result (Option Write) Reason). Planned nothing full all (Within s n ss ws fs ds w) q answer) e plan_says

  pub refused_right : (r : Reason) → plan ≡ Err r → DeltasRight s ready from memory (Err r) memory
  refused_right r e = record { answer = λ ps. sym (says ps (Err r) e); kept = refl }

  pub nothing_right : plan ≡ Ok None → DeltasRight s ready from memory (Ok (record { next = s; count = 0 })) memory
  unfolding deltas_in
  nothing_right e = record { answer = λ ps. sym (says ps (Ok None) e); kept = ((refl, refl), (refl, refl)) }

  -- the window that is written
  pub write_fits : (v : Write) → plan ≡ Ok (Some v) → Within s n ss ws fs ds v.window
  write_fits v e = let x = says [] (Ok (Some v)) e in subst (λ (u : Write). Within s n ss ws fs ds u.window) (sym x.0) x.1.1

  module _ (f : Within s n ss ws fs ds w) (ss' : List ℕ) (ws' : List Float) (fs' : List ℕ) (ds' : List Float) (hs : ss' ≡ sets ss w.listed (replicate (w.total - w.listed) 0)) (h : Wrote w ss ws fs ds ws' fs' ds') where
    written_answer : (ps : List ℤ)
        → ◌≡◌ {A = Deltas} (record { state = state_of ps (record { weight = s.weight; subsampling = s.subsampling; frames = w.total }) ss' ws'; deltas = deltas_in (length (deltas_on w ss ws)) fs' ds' }) (full ps)
    unfolding window_of
    written_answer ps =
        ap₂ (λ (x : List ℕ × List Float) (y : List (ℕ × Float)). record { state = state_of ps (record { weight = s.weight; subsampling = s.subsampling; frames = w.total }) x.0 x.1; deltas = y })
        (ap₂ (λ (x : List ℕ) (y : List Float). (x, y)) hs h.weights)
        (ap₂ (deltas_in (length (deltas_on w ss ws))) h.frames h.deltas ∙ read_back (deltas_on w ss ws) fs ds (omega (arith, f.room)) (omega (arith, f.room)))
        ∙ sym (deltas_are_lem s n from ss ws ps (omega (arith, f.store)) (omega (arith, f.store)) (omega (arith, f.list)) (omega (arith, f.list)))

    written_right : plan ≡ Ok (Some all)
        → DeltasRight s ready from memory (Ok (record { next = record { weight = s.weight; subsampling = s.subsampling; frames = w.total }; count = length (deltas_on w ss ws) })) (record { status = ss'; weights = ws'; frames = fs'; deltas = ds' })
    unfolding window_of
    written_right e =
        let ds₀ = deltas_on w ss ws in
        record {
          answer = λ ps. ap ok (written_answer ps) ∙ sym (says ps (Ok (Some all)) e).1.0;
          kept = (
            (
              ap (drop w.total) hs ∙ drop_stored ss w.listed w.total 0 w.total (omega arith),
              ap (drop w.total) h.weights ∙ drop_sets w.total ws w.begin (weights_on w ss ws) (omega (arith, weights-length s n from ss ws)),
            ),
            (
              ap (drop (length ds₀)) h.frames ∙ drop_sets (length ds₀) fs 0 (firsts ds₀) (omega (arith, length-map ds₀ (λ (d : ℕ × Float). d.0))),
              ap (drop (length ds₀)) h.deltas ∙ drop_sets (length ds₀) ds 0 (seconds ds₀) (omega (arith, length-map ds₀ (λ (d : ℕ × Float). d.1))),
            ),
          );
        }

  pub write_right : (v : Write) (ss' : List ℕ) (ws' : List Float) (fs' : List ℕ) (ds' : List Float) → plan ≡ Ok (Some v)
      → ss' ≡ sets ss v.window.listed (replicate (v.window.total - v.window.listed) 0) → Wrote v.window ss ws fs ds ws' fs' ds'
      → DeltasRight s ready from memory (Ok (record { next = record { weight = s.weight; subsampling = s.subsampling; frames = v.window.total }; count = v.count })) (record { status = ss'; weights = ws'; frames = fs'; deltas = ds' })
  write_right v ss' ws' fs' ds' e =
      let x = says [] (Ok (Some v)) e in
      subst (λ (u : Write). ss' ≡ sets ss u.window.listed (replicate (u.window.total - u.window.listed) 0) → Wrote u.window ss ws fs ds ws' fs' ds'
      → DeltasRight s ready from memory (Ok (record { next = record { weight = s.weight; subsampling = s.subsampling; frames = u.window.total }; count = u.count })) (record { status = ss'; weights = ws'; frames = fs'; deltas = ds' })) (sym x.0)
      (λ hs h. written_right x.1.1 ss' ws' fs' ds' hs h (e ∙ ap (λ (u : Write). Ok (Some u)) x.0))
