-- The answers of every list of calls are the definition's with the lent places, and so those of the copy that is told. Assumes nothing.
use Rattle.std.specs.Prelude.{◌≡◌, ℕ, length, Result, Ok}
use Rattle.std.proofs.Math.Path.{refl, sym, ap₂, subst}
use Rattle.std.proofs.Common.{ap, ◌∙◌, arith}
use mathlib.Core.List.{List, [], ◌∷◌, ◌++◌}
use Rattle.model.specs.Graph.{Graph}
use Rattle.model.specs.Path.{Limits}
use Rattle.model.specs.Cutoff.{Config as Settings}
use Rattle.model.specs.Passes.{State, fitted}
use Rattle.model.specs.Calls.{Call, start_call, frame_call, keep_call, Answer, answers, call}
use Rattle.copy_laws.specs.Walks.{Heard}
use Rattle.copy_laws.specs.Told.{told_of, limited_from, limited_after, tell_from}
use Rattle.copy_laws.proofs.Told.{limited_more, after_more, told_right}
use Rattle.stores.specs.Rep.{Lent}
use Rattle.arcs.specs.State.{Tables}
use Rattle.checks.specs.Fit.{record_places}
use Rattle.checks.specs.Margin.{asked}
use Rattle.readings.specs.Back.{listed_back}
use Rattle.reading_list.specs.Back.{list_back}
use Rattle.decoder.specs.declared.Decoder.{Decoder}
use Rattle.decoder.specs.declared.Called.{Called}
use Rattle.decoder.specs.declared.Called.TheVariants.{Done, Refused}
use Rattle.decoder.specs.Represents.{LimitsAre, limits_by, limits_by_lem, exact, Represents, CalledBy, called_done, called_refused}
use Rattle.decoder.specs.Promises.{Promised, FitIs, fit_graph, fit_unfit, fit_called, LeftOf, GapsLeft}
use Rattle.decoder.specs.Capacity.{cap_fixed}
use Rattle.decoder.specs.Keep.{keep_is, frames_is}
use Rattle.decoder.specs.Behaves.{answer_of, value_of, Behaves, start_behaves, frame_behaves, keep_behaves, best_behaves, alternatives_behaves, readings_behaves, relative_behaves, active_behaves, frames_behaves, Runs, none_yet, one_more}
use Rattle.decoder.proofs.Held.{fitting_held}
use Rattle.decoder.specs.Demand3.{FittedAs, Fitting, settings, calls, told, AnswersLimited, AnswersAlike}
use Rattle.refusals.specs.declared.Refusal.{Refusal}

module _ (g : Graph) (c : Settings) (T : Tables) (eps : List ℕ) (places : ℕ) where
  -- decoder and stores stand for this state, with the limits of the decoder's own stores
  pub record Stand (m : Lent) (d : Decoder) (st : State) : Type 0 where
    pub heard : List Heard
    pub is : Represents g c (exact d places) T m eps places d heard st

  -- the answer is the definition's with these limits, and decoder and stores stand for its next state
  pub record Follows (k : Limits × Call) (st : State) (a : Answer) (m : Lent) (d : Decoder) : Type 0 where
    pub says : (call g c k.0 k.1 st).answer ≡ a
    pub next : Stand m d (call g c k.0 k.1 st).state

  -- a call leaves the places for records
  stand_by : (cap : ℕ) {m : Lent} {d : Decoder} {fs : List Heard} {st : State} → Represents g c (limits_by cap places) T m eps places d fs st → Stand m d st
  stand_by cap {m} {d} {fs} {st} R = record { heard = fs; is = subst (λ (n : ℕ). Represents g c (limits_by n places) T m eps places d fs st) (cap_fixed (limits_by_lem cap places) R.fixed.limits) R }

  pub called_follows : (cap : ℕ) (k : Call) (st : State) (m : Lent) (r : Called) → CalledBy g c (limits_by cap places) T m eps places (call g c (limits_by cap places) k st) r → Follows (limits_by cap places, k) st (answer_of r) m (value_of r)
  called_follows cap k st m r (called_done fs a R) = record { says = a; next = stand_by cap R }
  called_follows cap k st m r (called_refused fs a R) = record { says = a; next = stand_by cap R }

  module _ {m : Lent} {d : Decoder} {st : State} (S : Stand m d st) where
    abbrev left : LeftOf m.tokens m.sums m.records m.labels d
    left = record { gaps = m.gaps; T = T; eps = eps; places = places; g = g; c = c; l = exact d places; fs = S.heard; st = st; is = S.is }

    abbrev gaps_left : GapsLeft m.tokens m.sums m.records m.labels m.gaps g.finals d
    gaps_left = record { T = T; eps = eps; places = places; left = record { g = g; c = c; l = exact d places; fs = S.heard; st = st; is = S.is }; finals_are = refl }

    promised : {n : ℕ} (k : Call) {m' : Lent} {r : Called} → n ≡ places → Promised T m m' eps n k d r → Follows (exact d places, k) st (answer_of r) m' (value_of r)
    promised k {m'} {r} e P = called_follows d.cap k st m' r (subst (λ (n : ℕ). Promised T m m' eps n k d r) e P g c (exact d places) S.heard st S.is)

    -- a call that meets its contract follows the definition
    pub behaves_follows : (k : Limits × Call) (a : Answer) (m' : Lent) (d' : Decoder) → Behaves T g.finals eps places k m d a m' d' → Follows k st a m' d'
    unfolding call
    behaves_follows k a m' d' (start_behaves r e B) = promised start_call e B.answer
    behaves_follows k a m' d' (frame_behaves r {ls = ls} e B) = promised (frame_call ls) e B.answer
    behaves_follows k a m' d' (keep_behaves keeps x) = promised (keep_call (asked keeps x)) refl (λ g c l fs st R. keep_is R keeps x)
    behaves_follows k a m' d' (best_behaves r use_final p p' B) = record { says = sym (B (record { left = left; finals_are = refl })).0; next = S }
    behaves_follows k a m' d' (alternatives_behaves r use_final max o o' B) = record { says = sym (listed_back (B.answer (record { left = left; finals_are = refl }))); next = S }
    behaves_follows k a m' d' (readings_behaves r use_final listed max entries kept o o' B) = record { says = sym (list_back (B.answer gaps_left)); next = S }
    behaves_follows k a m' d' (relative_behaves B) = record { says = B m.records m.labels (record { left = left; finals_are = refl }); next = S }
    behaves_follows k a m' d' (active_behaves B) = record { says = B m.sums m.records m.labels left; next = S }
    behaves_follows k a m' d' frames_behaves = record { says = frames_is S.is; next = S }

  pub runs_limited : {m : Lent} {d : Decoder} {st : State} → Stand m d st → {ks : List (Limits × Call)} {ans : List Answer} {m' : Lent} {d' : Decoder} → Runs T g.finals eps places m d ks ans m' d' → (limited_from g c ks st ≡ ans) × Stand m' d' (limited_after g c ks st)
  unfolding limited_from limited_after
  runs_limited S none_yet = (refl, S)
  runs_limited {st = st} S (one_more {m'' = m''} {d'' = d''} {ks = ks} {ans = ans} {k = k} {a = a} run B) =
      let (e, now) = runs_limited S run in
      let F = behaves_follows now k a m'' d'' B in
      (limited_more g c ks k st ∙ ap₂ (λ (xs : List Answer) (x : Answer). xs ++ (x ∷ [])) e F.says, subst (Stand m'' d'') (sym (after_more g c ks k st)) F.next)

-- ---- from a fitting on

-- the fitting's own start
pub first_follows : (F : Fitting) → Follows F.graph (settings F) F.tables F.eps_after (length F.queue) (exact F.decoder (length F.queue), start_call) (fitted F.graph) F.first F.after F.decoder
first_follows F = go F.answered F.fit_is F.fitted
  where
    Starts : Answer → Decoder → Type 0
    Starts a d = Follows F.graph (settings F) F.tables F.eps_after (length F.queue) (exact F.decoder (length F.queue), start_call) (fitted F.graph) a F.after d

    on : (r : Called) → FittedAs (Ok r) F.first F.decoder → Starts (answer_of r) (value_of r) → Starts F.first F.decoder
    on (Done x) (e, q) S = subst (Starts F.first) (sym q) (subst (λ (y : Answer). Starts y x) (sym e) S)
    on (Refused x f) (e, q) S = subst (Starts F.first) (sym q) (subst (λ (y : Answer). Starts y x) (sym e) S)

    lent_limits : LimitsAre (exact F.decoder (length F.queue)) (record_places F.lengths) (length F.queue)
    lent_limits = subst (λ (j : ℕ). LimitsAre (exact F.decoder (length F.queue)) j (length F.queue)) (fitting_held F).cap_is (limits_by_lem F.decoder.cap (length F.queue))

    go : (f : Result Called Refusal) → FitIs F.graph F.tables F.before F.after F.lengths F.queue F.queue_after F.eps F.eps_after F.config f → FittedAs f F.first F.decoder → Starts F.first F.decoder
    go f (fit_graph w a b e d) A = absurd A
    go f (fit_unfit a b e d i) A = absurd A
    go f (fit_called {r} a b k W e) A =
        on r A (called_follows F.graph (settings F) F.tables F.eps_after (length F.queue) F.decoder.cap start_call (fitted F.graph) F.after r (k (exact F.decoder (length F.queue)) lent_limits))

pub decoder_limited : AnswersLimited
unfolding limited_from
decoder_limited F ks ans m d run =
    let S = first_follows F in
    ap₂ (λ (x : Answer) (xs : List Answer). x ∷ xs) S.says (runs_limited F.graph (settings F) F.tables F.eps_after (length F.queue) S.next run).0

-- what the copy is told of these answers is what the definition tells
pub told_is : (g : Graph) (c : Settings) (ks : List (Limits × Call)) (st : State) (ans : List Answer) → limited_from g c ks st ≡ ans → told ks ans ≡ tell_from g c ks st
unfolding limited_from tell_from
told_is g c [] st ans e = refl
told_is g c (k ∷ ks) st [] e = let z : ◌≡◌ {A = ℕ} 0 1 = cc in absurd (omega arith)
told_is g c (k ∷ ks) st (a ∷ ans) e =
    let p : (call g c k.0 k.1 st).answer ≡ a = cc in
    let q : limited_from g c ks (call g c k.0 k.1 st).state ≡ ans = cc in
    ap₂ (λ (x : Answer) (xs : List (Call × ℕ)). (k.1, told_of x) ∷ xs) (sym p) (told_is g c ks (call g c k.0 k.1 st).state ans q)

pub decoder_alike : AnswersAlike
decoder_alike F ks ans m d run =
    let e = decoder_limited F ks ans m d run in
    ap (answers F.graph (settings F)) (told_is F.graph (settings F) (calls F ks) (fitted F.graph) (F.first ∷ ans) e) ∙ told_right F.graph (settings F) (calls F ks) ∙ e
