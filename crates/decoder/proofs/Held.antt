-- What a caller holds from call to call meets what every call asks, and each call's contract hands it on. Assumes nothing.
use Rattle.std.specs.Prelude.{◌≡◌, refl, ℕ, List, [], ◌∷◌, length, Float, Result, Ok, Err}
use Rattle.std.proofs.Common.{sym, subst}
use mathlib.Core.List.Memᴰ.{head as here}
use mathlib.Core.List.Memᴰ.{tail as there}
use Rattle.lists.specs.Lists.{◌∈◌}
use Rattle.model.specs.Graph.{Graph, states}
use Rattle.model.specs.Path.{Limits}
use Rattle.model.specs.Cutoff.{Config as Settings}
use Rattle.model.specs.Calls.{Call, start_call, frame_call, keep_call, Answer, Said}
use Rattle.cutoff.specs.declared.Config.{Config}
use Rattle.stores.specs.Rep.{Lent}
use Rattle.arcs.specs.State.{Tables}
use Rattle.checks.specs.declared.Lengths.{Lengths}
use Rattle.checks.specs.Fit.{record_places, for_records, Wide, Roomy, fit_roomy}
use Rattle.checks.specs.Margin.{asked}
use Rattle.decoder.specs.declared.Decoder.{Decoder}
use Rattle.decoder.specs.declared.Called.{Called}
use Rattle.decoder.specs.declared.Called.TheVariants.{Done, Refused}
use Rattle.decoder.specs.Represents.{LimitsAre, limits_by, limits_by_lem, CalledBy, called_done, called_refused}
use Rattle.decoder.specs.Promises.{Promised, FitIs, fit_graph, fit_unfit, fit_called, LeftOf, Asked}
use Rattle.decoder.specs.Capacity.{cap_fixed}
use Rattle.decoder.specs.Keep.{keep_is}
use Rattle.decoder.specs.Behaves.{value_of, Behaves, start_behaves, frame_behaves, keep_behaves, best_behaves, alternatives_behaves, readings_behaves, relative_behaves, active_behaves, frames_behaves, Runs, none_yet, one_more}
use Rattle.decoder.specs.Demand3.{FittedAs, CallsAsked, Fitting}
use Rattle.decoder.specs.Held.{Held, HeldFitted}
use Rattle.refusals.specs.declared.Refusal.{Refusal}

module _ {T : Tables} {finals : List Float} {eps : List ℕ} {places : ℕ} {l : Lengths} where
  -- ---- it meets what the calls ask

  pub held_asked : {m : Lent} {d : Decoder} → Held T m finals eps places l d → Asked T m finals eps places l d
  held_asked {m} {d} H =
      let L = H.left in
      let R = H.room in
      let records : Wide d.cap (for_records l) = subst (λ (n : ℕ). Wide n (for_records l)) (sym H.cap_is) R.per_record in
      let of : LeftOf m.tokens m.sums m.records m.labels d = record { gaps = m.gaps; T = T; eps = eps; places = places; g = L.g; c = L.c; l = L.l; fs = L.fs; st = L.st; is = L.is } in
      record {
        start = L;
        frame = record { left = L; wide = R.per_state l.scratch (there (there (there (here refl)))) };
        active = record { sums = m.sums; records = m.records; labels = m.labels; left = of };
        relative = record { records = m.records; labels = m.labels; left = record { left = of; finals_are = H.finals_are } };
        best = record { left = of; finals_are = H.finals_are };
        alternatives = record {
          left = record { left = of; finals_are = H.finals_are };
          wide = λ k i. R.per_state k (there (there (there (there (first_three i)))));
          wide_records = λ k i. records k (there (there i));
        };
        readings = record {
          left = record { T = T; eps = eps; places = places; left = L; finals_are = H.finals_are };
          wide = λ k i. R.per_state k (there (there (there (there i))));
          wide_records = records;
          wide_kept = R.per_kept;
        };
      }
    where
      first_three : {k a b c x y : ℕ} → k ∈ (a ∷ b ∷ c ∷ []) → k ∈ (a ∷ b ∷ c ∷ x ∷ y ∷ [])
      first_three (here e) = here e
      first_three (there (here e)) = there (here e)
      first_three (there (there (here e))) = there (there (here e))
      first_three (there (there (there i))) = elim i [ ]

  -- ---- a call hands it on

  -- whatever the limits, they are those of as many places for records before and after
  called_held : {g : Graph} {c : Settings} {lim : Limits} {m : Lent} {s : Said} {r : Called} → LimitsAre lim (record_places l) places → g.finals ≡ finals → Roomy (states g) l → CalledBy g c lim T m eps places s r → Held T m finals eps places l (value_of r)
  called_held {g} {c} {lim} {s = s} L e w (called_done fs a R) =
      record { left = record { g = g; c = c; l = lim; fs = fs; st = s.state; is = R }; finals_are = e; cap_is = cap_fixed R.fixed.limits L; room = subst (λ (n : ℕ). Roomy n l) (sym R.fixed.states_are) w }
  called_held {g} {c} {lim} {s = s} L e w (called_refused fs a R) =
      record { left = record { g = g; c = c; l = lim; fs = fs; st = s.state; is = R }; finals_are = e; cap_is = cap_fixed R.fixed.limits L; room = subst (λ (n : ℕ). Roomy n l) (sym R.fixed.states_are) w }

  pub call_held : {m m' : Lent} {n : ℕ} (k : Call) {d : Decoder} {r : Called} → n ≡ places → Promised T m m' eps n k d r → Held T m finals eps places l d → Held T m' finals eps places l (value_of r)
  call_held {m} {m'} k {d} {r} e P H =
      let L = H.left in
      let Q : Promised T m m' eps places k d r = subst (λ (n : ℕ). Promised T m m' eps n k d r) e P in
      called_held (subst (λ (n : ℕ). LimitsAre L.l n places) H.cap_is L.is.fixed.limits) H.finals_are (subst (λ (n : ℕ). Roomy n l) L.is.fixed.states_are H.room) (Q L.g L.c L.l L.fs L.st L.is)

  behaves_held : {k : Limits × Call} {m m' : Lent} {d d' : Decoder} {a : Answer} → Held T m finals eps places l d → Behaves T finals eps places k m d a m' d' → Held T m' finals eps places l d'
  behaves_held H (start_behaves r e S) = call_held start_call e S.answer H
  behaves_held H (frame_behaves r {ls = ls} e F) = call_held (frame_call ls) e F.answer H
  behaves_held H (keep_behaves keeps x) = call_held (keep_call (asked keeps x)) refl (λ g c lim fs st R. keep_is R keeps x) H
  behaves_held H (best_behaves r use_final p p' B) = H
  behaves_held H (alternatives_behaves r use_final max o o' B) = H
  behaves_held H (readings_behaves r use_final listed max entries kept o o' B) = H
  behaves_held H (relative_behaves B) = H
  behaves_held H (active_behaves B) = H
  behaves_held H frames_behaves = H

  pub runs_held : {m : Lent} {d : Decoder} {ks : List (Limits × Call)} {ans : List Answer} {m' : Lent} {d' : Decoder} → Held T m finals eps places l d → Runs T finals eps places m d ks ans m' d' → Held T m' finals eps places l d'
  runs_held H none_yet = H
  runs_held H (one_more run B) = behaves_held (runs_held H run) B

pub fit_held : {g : Graph} {T : Tables} {m m' : Lent} {l : Lengths} {qs qs' eps eps' : List ℕ} {c : Config} {f : Result Called Refusal} → FitIs g T m m' l qs qs' eps eps' c f → HeldFitted T m' g.finals eps' (length qs) l f
fit_held (fit_graph w a b e d) = tt
fit_held (fit_unfit a b e d i) = tt
fit_held {g} {T} {m' = m'} {l} {qs} {eps' = eps'} {c} (fit_called {r} a b k W e) =
    by r (called_held {l = l} (limits_by_lem (record_places l) (length qs)) refl (fit_roomy g c l b) (k (limits_by (record_places l) (length qs)) (limits_by_lem (record_places l) (length qs))))
  where
    by : (r : Called) → Held T m' g.finals eps' (length qs) l (value_of r) → HeldFitted T m' g.finals eps' (length qs) l (Ok r)
    by (Done d) H = H
    by (Refused d f) H = H

pub fitting_held : (F : Fitting) → Held F.tables F.after F.graph.finals F.eps_after (length F.queue) F.lengths F.decoder
fitting_held F = go F.answered (fit_held F.fit_is) F.fitted
  where
    Holds : Decoder → Type 0
    Holds = Held F.tables F.after F.graph.finals F.eps_after (length F.queue) F.lengths

    go : (f : Result Called Refusal) → HeldFitted F.tables F.after F.graph.finals F.eps_after (length F.queue) F.lengths f → FittedAs f F.first F.decoder → Holds F.decoder
    go (Err f) H A = absurd A
    go (Ok (Done d)) H (a, e) = subst Holds (sym e) H
    go (Ok (Refused d f)) H (a, e) = subst Holds (sym e) H

-- "each call gets the decoder and stores the last one left": and that is all that a call asks
pub calls_asked : CallsAsked
calls_asked F ks ans m d run = held_asked (runs_held (fitting_held F) run)
