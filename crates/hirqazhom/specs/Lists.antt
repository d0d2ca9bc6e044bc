-- Lists of calls from C. What a caller reads off the structs and the lent slices are the answers of the decoder's own calls, so that all of demand 3 holds of them. Assumes nothing.
use Rattle.std.specs.Prelude.{◌≡◌, refl, ℕ, zero, suc, Bool, true, false, List, [], ◌∷◌, ◌++◌, length, Float, Option, Some, None, Result, Ok, Err}
use Rattle.std.proofs.Common.{sym, ap, ◌∙◌, subst}
use Rattle.std.proofs.Math.Option.{none, some}
use Rattle.lists.specs.Tests.{never}
use Rattle.model.specs.Basics.{Place as Where, nowhere, at_arc, at_state, at_frames, Refusal as ModelRefusal}
use Rattle.model.specs.Graph.{Graph}
use Rattle.model.specs.Path.{Limits}
use Rattle.model.specs.Cutoff.{Config as Settings}
use Rattle.model.specs.Passes.{State, fitted}
use Rattle.model.specs.Calls.{Call, start_call, frame_call, keep_call, read_call, best_path_read, alternatives_read, readings_read, relative_cost_read, num_active_read, frames_decoded_read, Answer as Said, done_answer, refusal_answer, path_answer, paths_answer, readings_answer, count_answer, cost_answer, refused_read, call}
use Rattle.copy_laws.specs.Told.{limited_answers}
use Rattle.copy_laws.proofs.Theorems.{refusal_not_0}
use Rattle.cutoff.specs.declared.Config.{Config}
use Rattle.cutoff.specs.Costs.{config_of}
use Rattle.stores.specs.Rep.{Lent}
use Rattle.refusals.specs.declared.Place.{Place}
use Rattle.refusals.specs.declared.Place.TheVariants.{Nowhere, AtArc, AtState, AtFrames}
use Rattle.refusals.specs.declared.Refusal.{Refusal}
use Rattle.arcs.specs.State.{Tables}
use Rattle.checks.specs.declared.Lengths.{Lengths}
use Rattle.checks.specs.Fit.{record_places}
use Rattle.checks.specs.Margin.{asked}
use Rattle.traceback.specs.declared.BestPath.{BestPath}
use Rattle.traceback.specs.Right.{Parts, places_of, path_in, best_as}
use Rattle.readings.specs.Paths.{Outputs, places_in, paths_in, size_by, lesser_of}
use Rattle.readings.specs.Right.{Scratch, listed_as}
use Rattle.reading_list.specs.Outputs.{Outputs as Lists, places_in as places_for, readings_in, traces_in}
use Rattle.reading_list.specs.Right.{list_as}
use Rattle.reading_list.specs.Scratch.{Scratch as ListScratch}
use Rattle.decoder.specs.declared.Decoder.{Decoder}
use Rattle.decoder.specs.declared.Called.{Called}
use Rattle.decoder.specs.declared.Called.TheVariants.{Done, Refused}
use Rattle.decoder.specs.Represents.{limits_by, limits_by_lem, exact, refusal_of, CalledBy, called_refused}
use Rattle.decoder.specs.Promises.{StartIs, FrameIs, keep_of, FitIs, fit_graph, fit_unfit, fit_called, ActiveIs, RelativeCostIs, BestPathIs, AlternativesIs, holding, ReadingsIs}
use Rattle.decoder.specs.Behaves.{answer_of as said_of, value_of, Behaves, start_behaves, frame_behaves, keep_behaves, best_behaves, alternatives_behaves, readings_behaves, relative_behaves, active_behaves, frames_behaves, none_yet, one_more}
use Rattle.decoder.proofs.Alike.{behaves_follows}
use Rattle.decoder.proofs.Alike.{Stand, runs_limited, first_follows, decoder_limited}
use Rattle.decoder.specs.Demand3.{FittedAs, Fitting as Fit, settings, RunsFrom, calls}
use Rattle.c_answers.specs.declared.Verdict.{Verdict}
use Rattle.c_answers.specs.declared.Fitting.{Fitting}
use Rattle.c_answers.specs.declared.Answer.{Answer}
use Rattle.c_answers.specs.declared.Path.{Path}
use Rattle.c_answers.specs.declared.Count.{Count}
use Rattle.c_answers.specs.Forms.{FormOf, answer_of, fitted_answer, verdict_of, path_of, told_count}
use Rattle.refusals.specs.declared.Reason.{Reason}
use Rattle.refusals.specs.Numbers.{number_of}

-- ---- what a caller reads

abbrev pub place_by : (place at arc : ℕ) → Where
place_by zero at arc = nowhere
place_by (suc zero) at arc = at_arc at arc
place_by (suc (suc zero)) at arc = at_state at
place_by (suc (suc (suc n))) at arc = at_frames at

-- 0 is an acceptance, any other number a refusal
abbrev pub said_by : (number : ℕ) → Where → Said → Said
said_by zero p a = a
said_by (suc n) p a = refusal_answer (record { number = suc n; place = p })

abbrev pub verdict_says : Verdict → Said
verdict_says v = said_by v.number (place_by v.place v.at v.arc) done_answer

abbrev pub found_by : Bool → Path → Parts → Said
found_by true p m = path_answer (some (path_in m (size_by p.words p.segments) p.cost))
found_by false p m = path_answer none

abbrev pub path_says : Path → Parts → Said
path_says p m = said_by p.number nowhere (found_by p.found p m)

abbrev pub paths_say : Count → Outputs → Said
paths_say n o = said_by n.number nowhere (paths_answer (paths_in n.count o))

abbrev pub readings_say : (max : ℕ) → Count → Lists → Said
readings_say max n o = said_by n.number nowhere (readings_answer (readings_in n.count o) (traces_in (lesser_of max n.count) o))

-- ---- one call, by the contract of its C entry point

pub data BehavesC (T : Tables) (finals : List Float) (eps : List ℕ) (places : ℕ) : Limits × Call → (m : Lent) → Decoder → Said → (m' : Lent) → Decoder → Type 0 where
  start_c : {m m' : Lent} {qs qs' : List ℕ} {d : Decoder} {r : Answer} → length qs ≡ places → FormOf (StartIs T m m' qs qs' eps d) answer_of r → BehavesC T finals eps places (exact d places, start_call) m d (verdict_says r.verdict) m' r.decoder
  frame_c : {m m' : Lent} {qs qs' : List ℕ} {sc sc' ls : List Float} {d : Decoder} {r : Answer} → length qs ≡ places → FormOf (FrameIs T m m' qs qs' sc sc' eps ls d) answer_of r → BehavesC T finals eps places (exact d places, frame_call ls) m d (verdict_says r.verdict) m' r.decoder
  keep_c : {m : Lent} {d : Decoder} {r : Answer} (keeps : Bool) (x : Float) → r ≡ answer_of (keep_of d keeps x) → BehavesC T finals eps places (exact d places, keep_call (asked keeps x)) m d (verdict_says r.verdict) m r.decoder
  best_c : {m : Lent} {d : Decoder} {r : Path} (use_final : Bool) (p p' : Parts) → FormOf (BestPathIs m.tokens m.sums m.records m.labels finals d use_final p p') path_of r
      → BehavesC T finals eps places (exact d places, read_call (best_path_read use_final (places_of p))) m d (path_says r p') m d
  alternatives_c : {m : Lent} {d : Decoder} {r : Count} (use_final : Bool) (max : ℕ) {w w' : Scratch} (o o' : Outputs) → FormOf (AlternativesIs m.tokens m.sums m.records m.labels finals d use_final max w w' o o') told_count r
      → BehavesC T finals eps places (exact d places, read_call (alternatives_read use_final max (places_in o))) m d (paths_say r o') m d
  readings_c : {m : Lent} {d : Decoder} {r : Count} (use_final : Bool) (listed max entries kept : ℕ) {w w' : ListScratch} (o o' : Lists) → FormOf (ReadingsIs m.tokens m.sums m.records m.labels m.gaps finals d use_final listed max entries kept w w' o o') told_count r
      → BehavesC T finals eps places (holding (exact d places) entries kept, read_call (readings_read use_final listed max (places_for o))) m d (readings_say max r o') m d
  relative_c : {m : Lent} {d : Decoder} {x : Float} → RelativeCostIs m.tokens m.sums finals d x → BehavesC T finals eps places (exact d places, read_call relative_cost_read) m d (cost_answer x) m d
  active_c : {m : Lent} {d : Decoder} {n : ℕ} → ActiveIs m.tokens d n → BehavesC T finals eps places (exact d places, read_call num_active_read) m d (count_answer n) m d
  frames_c : {m : Lent} {d : Decoder} → BehavesC T finals eps places (exact d places, read_call frames_decoded_read) m d (count_answer d.frames) m d

pub data RunsC (T : Tables) (finals : List Float) (eps : List ℕ) (places : ℕ) (m : Lent) (d : Decoder) : List (Limits × Call) → List Said → Lent → Decoder → Type 0 where
  no_calls : RunsC T finals eps places m d [] [] m d
  a_call : {m' m'' : Lent} {d' d'' : Decoder} {ks : List (Limits × Call)} {ans : List Said} {k : Limits × Call} {a : Said} → RunsC T finals eps places m d ks ans m' d' → BehavesC T finals eps places k m' d' a m'' d'' → RunsC T finals eps places m d (ks ++ (k ∷ [])) (ans ++ (a ∷ [])) m'' d''

-- ---- the structs tell the decoder's answers

-- a refusal that has a number is read as it is
refusal_read : (f : Refusal) → (f.number ≡ 0 → ⊥) → verdict_says (verdict_of f) ≡ refusal_answer (refusal_of f)
refusal_read f not_0 = go f.number f.place not_0
  where
    go : (n : ℕ) (p : Place) → (n ≡ 0 → ⊥) → verdict_says (verdict_of (record { number = n; place = p })) ≡ refusal_answer (refusal_of (record { number = n; place = p }))
    go zero p z = absurd (z refl)
    go (suc n) Nowhere z = refl
    go (suc n) (AtArc s i) z = refl
    go (suc n) (AtState s) z = refl
    go (suc n) (AtFrames k) z = refl

number_read : (n : ℕ) (a : Said) → (n ≡ 0 → ⊥) → said_by n nowhere a ≡ refused_read n
number_read zero a z = absurd (z refl)
number_read (suc n) a z = refl

module _ {g : Graph} {c : Settings} {T : Tables} {eps : List ℕ} {places : ℕ} {m : Lent} {d : Decoder} {st : State} (S : Stand g c T eps places m d st) where
  -- a refusal is the definition's, so that its number is not 0
  not_0 : {k : Limits × Call} {m' : Lent} {d' : Decoder} {f : ModelRefusal} → Behaves T g.finals eps places k m d (refusal_answer f) m' d' → f.number ≡ 0 → ⊥
  not_0 {k} {m'} {d'} {f} B = refusal_not_0 g c k.0 k.1 st f (behaves_follows g c T eps places S k (refusal_answer f) m' d' B).says

  -- a call with this answer
  abbrev Says : Limits × Call → Lent → Decoder → Said → Type 0
  Says k m' d' a = Behaves T g.finals eps places k m d a m' d'

  called_read : {k : Limits × Call} {m' : Lent} (r : Called) → Says k m' (value_of r) (said_of r) → Says k m' (answer_of r).decoder (verdict_says (answer_of r).verdict)
  called_read (Done d') B = B
  called_read {k} {m'} (Refused d' f) B = subst (Says k m' d') (sym (refusal_read f (not_0 B))) B

  called_told : {k : Limits × Call} {m' : Lent} {r r' : Answer} → r' ≡ r → Says k m' r.decoder (verdict_says r.verdict) → Says k m' r'.decoder (verdict_says r'.verdict)
  called_told {k} {m'} e = subst (λ (x : Answer). Says k m' x.decoder (verdict_says x.verdict)) (sym e)

  path_read : {k : Limits × Call} (r : Result (Option BestPath) Reason) (p : Parts) → Says k m d (best_as r p) → Says k m d (path_says (path_of r) p)
  path_read {k} (Err e) p B = subst (Says k m d) (sym (number_read (number_of e) _ (not_0 B))) B
  path_read (Ok None) p B = B
  path_read (Ok (Some b)) p B = B

  paths_read : {k : Limits × Call} (r : Result ℕ Reason) (o : Outputs) → Says k m d (listed_as r o) → Says k m d (paths_say (told_count r) o)
  paths_read {k} (Err e) o B = subst (Says k m d) (sym (number_read (number_of e) _ (not_0 B))) B
  paths_read (Ok n) o B = B

  readings_read_lem : {k : Limits × Call} (max : ℕ) (r : Result ℕ Reason) (o : Lists) → Says k m d (list_as max r o) → Says k m d (readings_say max (told_count r) o)
  readings_read_lem {k} max (Err e) o B = subst (Says k m d) (sym (number_read (number_of e) _ (not_0 B))) B
  readings_read_lem max (Ok n) o B = B

  read_told : {A : Type 0} {k : Limits × Call} (f : A → Said) {r r' : A} → r' ≡ r → Says k m d (f r) → Says k m d (f r')
  read_told {A} {k} f e = subst (λ (x : A). Says k m d (f x)) (sym e)

  -- a call from C is the decoder's own call, with the answer that is read
  pub c_behaves : {k : Limits × Call} {a : Said} {m' : Lent} {d' : Decoder} → BehavesC T g.finals eps places k m d a m' d' → Behaves T g.finals eps places k m d a m' d'
  c_behaves (start_c e F) = called_told F.told (called_read F.answer (start_behaves F.answer e F.is))
  c_behaves (frame_c e F) = called_told F.told (called_read F.answer (frame_behaves F.answer e F.is))
  c_behaves (keep_c keeps x e) = called_told e (called_read (keep_of d keeps x) (keep_behaves keeps x))
  c_behaves (best_c use_final p p' F) = read_told (λ (x : Path). path_says x p') F.told (path_read F.answer p' (best_behaves F.answer use_final p p' F.is))
  c_behaves (alternatives_c use_final max o o' F) = read_told (λ (x : Count). paths_say x o') F.told (paths_read F.answer o' (alternatives_behaves F.answer use_final max o o' F.is))
  c_behaves (readings_c use_final listed max entries kept o o' F) =
      read_told (λ (x : Count). readings_say max x o') F.told (readings_read_lem max F.answer o' (readings_behaves F.answer use_final listed max entries kept o o' F.is))
  c_behaves (relative_c B) = relative_behaves B
  c_behaves (active_c B) = active_behaves B
  c_behaves frames_c = frames_behaves

-- ---- a list of calls

-- every list of calls from C is one of the decoder's own calls, with the answers that are read
pub c_runs : (F : Fit) {ks : List (Limits × Call)} {ans : List Said} {m : Lent} {d : Decoder} → RunsC F.tables F.graph.finals F.eps_after (length F.queue) F.after F.decoder ks ans m d → RunsFrom F ks ans m d
c_runs F no_calls = none_yet
c_runs F (a_call run B) = let R = c_runs F run in one_more R (c_behaves (runs_limited F.graph (settings F) F.tables F.eps_after (length F.queue) (first_follows F).next R).1 B)

-- a fitting from C that says it is fitted, with the answer of its own start as it is read
pub c_fitting : (g : Graph) (T : Tables) (m m' : Lent) (l : Lengths) (qs qs' eps eps' : List ℕ) (c : Config) (r : Fitting) → FormOf (FitIs g T m m' l qs qs' eps eps' c) fitted_answer r → r.fitted ≡ true → Fit
c_fitting g T m m' l qs qs' eps eps' c r F e =
    record {
      graph = g;
      tables = T;
      before = m;
      after = m';
      lengths = l;
      queue = qs;
      queue_after = qs';
      eps = eps;
      eps_after = eps';
      config = c;
      answered = F.answer;
      first = verdict_says r.verdict;
      decoder = r.decoder;
      fit_is = F.is;
      fitted = subst (λ (x : Fitting). FittedAs F.answer (verdict_says x.verdict) x.decoder) (sym F.told) (go F.answer F.is (ap (λ (x : Fitting). x.fitted) (sym F.told) ∙ e));
    }
  where
    lim : Limits
    lim = limits_by (record_places l) (length qs)

    started : (x : Called) → CalledBy g (config_of c) lim T m' eps' (length qs) (call g (config_of c) lim start_call (fitted g)) x → FittedAs (Ok x) (verdict_says (fitted_answer (Ok x)).verdict) (fitted_answer (Ok x)).decoder
    started (Done d) B = (refl, refl)
    started (Refused d f) (called_refused fs e R) = (refusal_read f (refusal_not_0 g (config_of c) lim start_call (fitted g) (refusal_of f) e), refl)

    go : (f : Result Called Refusal) → FitIs g T m m' l qs qs' eps eps' c f → (fitted_answer f).fitted ≡ true → FittedAs f (verdict_says (fitted_answer f).verdict) (fitted_answer f).decoder
    go f (fit_graph w a b x y) q = never q
    go f (fit_unfit a b x y z) q = never q
    go f (fit_called {r = x} a b k W y) q = started x (k lim (limits_by_lem (record_places l) (length qs)))

-- so the answers that are read are the definition's with the lent places
pub c_limited : (F : Fit) (ks : List (Limits × Call)) (ans : List Said) (m : Lent) (d : Decoder) → RunsC F.tables F.graph.finals F.eps_after (length F.queue) F.after F.decoder ks ans m d → limited_answers F.graph (settings F) (calls F ks) ≡ F.first ∷ ans
c_limited F ks ans m d run = decoder_limited F ks ans m d (c_runs F run)
