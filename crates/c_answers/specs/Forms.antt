-- What an answer is told by in C, case by case. Assumes nothing.
use Rattle.std.specs.Prelude.{◌≡◌, refl, ℕ, true, false, cond, eqb, Option, Some, None, Result, Ok, Err}
use Rattle.model.specs.Basics.{0f}
use Rattle.refusals.specs.declared.Place.{Place}
use Rattle.refusals.specs.declared.Place.TheVariants.{Nowhere, AtArc, AtState, AtFrames}
use Rattle.refusals.specs.declared.Refusal.{Refusal}
use Rattle.decoder.specs.declared.Decoder.{Decoder}
use Rattle.decoder.specs.declared.Called.{Called}
use Rattle.decoder.specs.declared.Called.TheVariants.{Done as CallDone, Refused as CallRefused}
use Rattle.traceback.specs.declared.BestPath.{BestPath}
use Rattle.silence_weighting.specs.declared.SilenceWeighting.{SilenceWeighting}
use Rattle.silence_weighting.specs.declared.Weighed.{Weighed}
use Rattle.courses.specs.declared.Course.{Course}
use Rattle.c_answers.specs.declared.Verdict.{Verdict}
use Rattle.c_answers.specs.declared.Fitting.{Fitting}
use Rattle.c_answers.specs.declared.Answer.{Answer}
use Rattle.c_answers.specs.declared.Path.{Path}
use Rattle.c_answers.specs.declared.Count.{Count}
use Rattle.c_answers.specs.declared.Silence.{Silence}
use Rattle.c_answers.specs.declared.Index.{Index}
use Rattle.c_answers.specs.declared.CourseAt.{CourseAt}
use Rattle.fst.specs.declared.Graph.{Graph as Value}
use Rattle.refusals.specs.declared.Reason.{Reason}
use Rattle.refusals.specs.Numbers.{number_of}

-- r tells an answer that is as the call promises
pub record FormOf {A B : Type 0} (P : A → Type 0) (form : A → B) (r : B) : Type 0 where
  pub answer : A
  pub is : P answer
  pub told : r ≡ form answer

abbrev pub accepted : Verdict
accepted = record { number = 0; place = 0; at = 0; arc = 0 }

abbrev pub verdict_at : (number : ℕ) → Place → Verdict
verdict_at n Nowhere = record { number = n; place = 0; at = 0; arc = 0 }
verdict_at n (AtArc s i) = record { number = n; place = 1; at = s; arc = i }
verdict_at n (AtState s) = record { number = n; place = 2; at = s; arc = 0 }
verdict_at n (AtFrames k) = record { number = n; place = 3; at = k; arc = 0 }

abbrev pub verdict_of : Refusal → Verdict
verdict_of f = verdict_at f.number f.place

abbrev pub answer_of : Called → Answer
answer_of (CallDone d) = record { decoder = d; verdict = accepted }
answer_of (CallRefused d f) = record { decoder = d; verdict = verdict_of f }

abbrev pub no_decoder : Decoder
no_decoder =
    record {
      graph = record { states = 0; arcs = 0; start = 0; pdfs = 0 };
      config = record { beam = 0f; max_active = 0; min_active = 0; beam_delta = 0f };
      cap = 0;
      keeps = false;
      margin = 0f;
      side = 0;
      frames = 0;
      seq = 0;
      used = 0;
    }

abbrev pub fitted_answer : Result Called Refusal → Fitting
fitted_answer (Err f) = record { fitted = false; decoder = no_decoder; verdict = verdict_of f }
fitted_answer (Ok c) = record { fitted = true; decoder = (answer_of c).decoder; verdict = (answer_of c).verdict }

abbrev pub built_verdict : Result Value Refusal → Verdict
built_verdict (Ok g) = accepted
built_verdict (Err f) = verdict_of f

abbrev pub no_path : (number : ℕ) → Path
no_path n = record { number = n; found = false; words = 0; segments = 0; cost = 0f }

abbrev pub path_of : Result (Option BestPath) Reason → Path
path_of (Err e) = no_path (number_of e)
path_of (Ok None) = no_path 0
path_of (Ok (Some b)) = record { number = 0; found = true; words = b.size.words; segments = b.size.segments; cost = b.cost }

abbrev pub no_count : (number : ℕ) → Count
no_count n = record { number = n; count = 0 }

abbrev pub told_count : Result ℕ Reason → Count
told_count (Err e) = no_count (number_of e)
told_count (Ok n) = record { number = 0; count = n }

abbrev pub no_silence : (number : ℕ) → Silence
no_silence n = record { state = record { weight = 0f; subsampling = 0; frames = 0 }; number = n; count = 0 }

abbrev pub silence_at : SilenceWeighting → (count : ℕ) → Silence
silence_at s n = record { state = s; number = 0; count = n }

abbrev pub silence_of : Result SilenceWeighting Reason → Silence
silence_of (Err e) = no_silence (number_of e)
silence_of (Ok s) = silence_at s 0

abbrev pub weighed_of : Result Weighed Reason → Silence
weighed_of (Err e) = no_silence (number_of e)
weighed_of (Ok w) = silence_at w.next w.count

abbrev pub no_index : (number : ℕ) → Index
no_index n = record { number = n; found = false; index = 0 }

abbrev pub found_index : Result (Option ℕ) Reason → Index
found_index (Ok (Some i)) = record { number = 0; found = true; index = i }
found_index (Ok None) = no_index 0
found_index (Err e) = no_index (number_of e)

abbrev pub shuffled_number : Result (Unit {0}) Reason → ℕ
shuffled_number (Ok x) = 0
shuffled_number (Err e) = number_of e

abbrev pub course_numbers : Result Course Reason → CourseAt
course_numbers (Ok c) = record { number = 0; course = c.course; remainder = c.remainder }
course_numbers (Err e) = record { number = number_of e; course = 0; remainder = 0 }

-- number 0 where the bytes are no refusal's line
abbrev pub line_verdict : Option Refusal → Verdict
line_verdict (Some f) = verdict_of f
line_verdict None = accepted

-- the refusal that a verdict tells; one without a number where the place is none of the four
abbrev pub refusal_told : Verdict → Refusal
refusal_told v =
    cond (eqb v.place 0) (record { number = v.number; place = Nowhere })
    (cond (eqb v.place 1) (record { number = v.number; place = AtArc v.at v.arc })
    (cond (eqb v.place 2) (record { number = v.number; place = AtState v.at })
    (cond (eqb v.place 3) (record { number = v.number; place = AtFrames v.at }) (record { number = 0; place = Nowhere }))))

-- a verdict tells the refusal that it was made of
pub told_again : (f : Refusal) → refusal_told (verdict_of f) ≡ f
told_again f = of_place f.number f.place
  where
    of_place : (n : ℕ) (p : Place) → refusal_told (verdict_at n p) ≡ record { number = n; place = p }
    of_place n Nowhere = refl
    of_place n (AtArc s i) = refl
    of_place n (AtState s) = refl
    of_place n (AtFrames k) = refl
