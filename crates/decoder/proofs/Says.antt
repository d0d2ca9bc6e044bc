-- What the answers of a list of calls say: of the calls before each what the theorems on the copy say. Assumes nothing.
use Rattle.std.specs.Prelude.{◌≡◌, refl, ℕ, suc, List, [], ◌∷◌, ◌++◌, length, get_or, Result}
use Rattle.std.proofs.Common.{sym, ap, ◌∙◌, subst, arith, length-append}
use Rattle.std.proofs.Math.Option.{some}
use Rattle.model.specs.Graph.{Graph}
use Rattle.model.specs.Path.{Limits}
use Rattle.model.specs.Cutoff.{Config as Settings}
use Rattle.model.specs.Passes.{State, fitted}
use Rattle.model.specs.Reads.{use_finals}
use Rattle.model.specs.Calls.{Call, start_call, Said, call, Answer, done_answer, paths_answer, readings_answer}
use Rattle.copy_laws.specs.Sums.{Floats32}
use Rattle.copy_laws.specs.Told.{limited_answers, limited_after, tell}
use Rattle.copy_laws.specs.Claims.{OneTrace, Own, Says, says_alternatives, says_readings}
use Rattle.copy_laws.specs.Sayings.{asks_finals}
use Rattle.copy_laws.proofs.Sayings.{words_say, lists_say, best_says}
use Rattle.copy_laws.proofs.Theorems.{refusal_numbers, start_refused, decoder_says}
use Rattle.stores.specs.Rep.{Lent}
use Rattle.checks.specs.Fit.{record_places, fit_beam}
use Rattle.decoder.specs.declared.Decoder.{Decoder}
use Rattle.decoder.specs.declared.Called.{Called}
use Rattle.decoder.specs.Represents.{limits_by_lem, exact, CalledBy, called_done, called_refused}
use Rattle.decoder.specs.Promises.{FitIs, fit_graph, fit_unfit, fit_called}
use Rattle.decoder.specs.Behaves.{none_yet, one_more}
use Rattle.decoder.proofs.Alike.{behaves_follows}
use Rattle.decoder.proofs.Alike.{Follows, runs_limited, first_follows, decoder_limited, told_is}
use Rattle.decoder.specs.Demand3.{FittedAs, Fitting, settings, RunsFrom, calls, Answered, RefusalsNumbered, StartsRefused, past, point, WordsOfOnePath, ReadingsDistinct, SegmentsTile, CostsLeast, AlternativesOwn, ReadingsTraced}
use Rattle.decoder.specs.Says.{Known}
use Rattle.refusals.specs.declared.Refusal.{Refusal}

known : (F : Fitting) → Known F
known F = go F.answered F.fit_is F.fitted
  where
    floats : {l : Limits} {s : Said} {r : Called} → CalledBy F.graph (settings F) l F.tables F.after F.eps_after (length F.queue) s r → Floats32 F.graph
    floats (called_done fs e R) = R.fixed.floats
    floats (called_refused fs e R) = R.fixed.floats

    go : (f : Result Called Refusal) → FitIs F.graph F.tables F.before F.after F.lengths F.queue F.queue_after F.eps F.eps_after F.config f → FittedAs f F.first F.decoder → Known F
    go f (fit_graph w a b e d) A = absurd A
    go f (fit_unfit a b e d i) A = absurd A
    go f (fit_called a b k W e) A = record { passed = a; floats = floats (k _ (limits_by_lem (record_places F.lengths) (length F.queue))); beam = fit_beam F.graph F.config F.lengths b }

-- as many answers as calls
as_many : (F : Fitting) {ks : List (Limits × Call)} {ans : List Answer} {m : Lent} {d : Decoder} → RunsFrom F ks ans m d → length ks ≡ length ans
as_many F none_yet = refl
as_many F (one_more {ks = ks} {ans = ans} {k = k} {a = a} run B) = let e = as_many F run in let x = length-append ks (k ∷ []) in let y = length-append ans (a ∷ []) in omega arith

at_end : (xs : List Answer) (a d : Answer) (n : ℕ) → n ≡ length xs → get_or (xs ++ (a ∷ [])) n d ≡ a
at_end xs a d n e = ap (λ (k : ℕ). get_or (xs ++ (a ∷ [])) k d) e ∙ go xs
  where
    go : (ys : List Answer) → get_or (ys ++ (a ∷ [])) (length ys) d ≡ a
    go [] = refl
    go (y ∷ ys) = go ys

module _ (A : Answered) where
  abbrev F : Fitting
  F = A.fitting

  abbrev g : Graph
  g = F.graph

  abbrev c : Settings
  c = settings F

  abbrev before : List (Limits × Call)
  before = calls F A.list

  abbrev k : Call
  k = A.call.1

  -- what the copy is told is what the definition tells
  past_is : past A ≡ tell g c before
  past_is = told_is g c before (fitted g) (F.first ∷ A.answered) (decoder_limited F A.list A.answered A.stores A.decoder A.runs)

  answer_is : get_or (limited_answers g c (before ++ (A.call ∷ []))) (length before) done_answer ≡ A.answer
  answer_is =
      ap (λ (l : List Answer). get_or l (length before) done_answer) (decoder_limited F (A.list ++ (A.call ∷ [])) (A.answered ++ (A.answer ∷ [])) A.stores_after A.decoder_after (one_more A.runs A.behaves))
      ∙ at_end (F.first ∷ A.answered) A.answer done_answer (length before) (ap suc (as_many F A.runs))

  -- what such a call may answer after those calls
  pub run_says : Says g c (past A) k A.answer
  run_says = subst (λ (ks : List (Call × ℕ)). Says g c ks k A.answer) (sym past_is) (subst (Says g c (tell g c before) k) answer_is (decoder_says g c (known F).passed (known F).floats before A.call.0 k []))

  -- where the definition stands before the call
  abbrev standing : State
  standing = limited_after g c A.list (call g c (exact F.decoder (length F.queue)) start_call (fitted g)).state

  follows : Follows g c F.tables F.eps_after (length F.queue) A.call standing A.answer A.stores_after A.decoder_after
  follows = behaves_follows g c F.tables F.eps_after (length F.queue) (runs_limited g c F.tables F.eps_after (length F.queue) (first_follows F).next A.runs).1 A.call A.answer A.stores_after A.decoder_after A.behaves

pub run_numbered : RefusalsNumbered
run_numbered A r q = refusal_numbers (g A) (c A) A.call.0 (k A) (standing A) r ((follows A).says ∙ q)

pub run_start_refused : StartsRefused
run_start_refused A r e q =
    start_refused (g A) (c A) (known (F A)).passed (known (F A)).beam A.call.0 (standing A) r (ap (λ (j : Call). (call (g A) (c A) A.call.0 j (standing A)).answer) (sym e) ∙ (follows A).says ∙ q)

pub run_words : WordsOfOnePath
run_words A = words_say (g A) (c A) (past A) (k A) A.answer (run_says A)

pub run_distinct : ReadingsDistinct
run_distinct A = lists_say (g A) (c A) (past A) (k A) A.answer (run_says A)

pub run_costs_least : CostsLeast
run_costs_least A o q = best_says (g A) (c A) (past A) (k A) o (subst (Says (g A) (c A) (past A) (k A)) q (run_says A))

pub run_segments : SegmentsTile
run_segments A tr q = let b = run_costs_least A (some tr) q in (b.own.tiles, b.own.none_at_0)

pub run_alternatives : AlternativesOwn
run_alternatives A trs q tr i = each (k A) (subst (Says (g A) (c A) (past A) (k A)) q (run_says A))
  where
    each : (j : Call) → Says (g A) (c A) (past A) j (paths_answer trs) → Own (g A) (point A) (use_finals (g A) (point A).state (asks_finals j)) tr
    each j (says_alternatives b) = b.each tr i

pub run_traced : ReadingsTraced
run_traced A rs trs q tr i = each (k A) (subst (Says (g A) (c A) (past A) (k A)) q (run_says A))
  where
    each : (j : Call) → Says (g A) (c A) (past A) j (readings_answer rs trs) → OneTrace (g A) (point A) (use_finals (g A) (point A).state (asks_finals j)) tr
    each j (says_readings b) = b.traced tr i
