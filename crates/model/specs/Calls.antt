-- The list of calls, and what each answers: document 01's whole-path copy.
use Rattle.std.specs.Prelude.{ℕ, zero, suc, Bool, ◌||◌, List, [], ◌∷◌, map, ℤ, ltb, length, Float}
use Rattle.std.proofs.Math.Option.{Option, none, some}
use Rattle.lists.specs.Lists.{sum}
use Rattle.model.specs.Basics.{first_of, refuse, over, Outcome, ok, refused, Place, nowhere, at_frames, Refusal}
use Rattle.model.specs.Graph.{Graph}
use Rattle.model.specs.Path.{Limits, unlimited}
use Rattle.model.specs.Cutoff.{Config}
use Rattle.model.specs.Passes.{State, fitted, dropped, start, frame, set_keep}
use Rattle.model.specs.Reads.{Traced, best_path, Group, trace_groups, alternatives, final_relative_cost, num_active}
use Rattle.model.specs.Readings.{readings}

-- The places of the lent output: words, the words' frames, phone segments, and entries (one for each path or reading).
pub record Sizes : Type 0 where
  pub words : ℕ
  pub frames : ℕ
  pub segments : ℕ
  pub entries : ℕ

-- a read changes nothing
pub data Read : Type 0 where
  best_path_read : (use_final : Bool) → Sizes → Read
  alternatives_read : (use_final : Bool) → (max : ℕ) → Sizes → Read
  readings_read : (use_final : Bool) → (listed max : ℕ) → Sizes → Read
  relative_cost_read : Read
  num_active_read : Read
  frames_decoded_read : Read

pub data Call : Type 0 where
  start_call : Call
  frame_call : (loglikes : List Float) → Call
  keep_call : (margin : Option Float) → Call
  read_call : Read → Call

-- A listed reading: of its route only how many kept paths it takes, and no join's number; of its token all but the path.
pub record Reading : Type 0 where
  pub words : List ℤ
  pub rank : Float
  pub cost : Float
  pub kept : ℕ
  pub token_cost : Float
  pub token_graph : Float
  pub token_phone : ℤ
  pub token_seq : ℕ

-- a refusal, or all that the call gives back
pub data Answer : Type 0 where
  refusal_answer : Refusal → Answer
  done_answer : Answer
  path_answer : Option Traced → Answer
  paths_answer : List Traced → Answer
  readings_answer : List Reading → List Traced → Answer
  count_answer : ℕ → Answer
  cost_answer : Float → Answer

-- ---- reads

abbrev pub reading_of : Group → Reading
reading_of g =
    record { words = g.words; rank = g.rank; cost = g.cost; kept = length g.route; token_cost = g.token.cost; token_graph = g.token.graph; token_phone = g.token.phone; token_seq = g.token.seq }

abbrev pub words_of : List Traced → List (List ℤ)
words_of = map (λ (t : Traced). t.words)

-- 11: some output slice is shorter than the whole answer. The words of a reading are written once: its trace has the same.
unfoldable pub short : Sizes → (words : List (List ℤ)) → List Traced → (entries : ℕ) → Bool
short z ws ts n =
    ltb z.words (sum (map length ws)) || ltb z.frames (sum (map (λ (t : Traced). length t.word_frames) ts)) ||
    ltb z.segments (sum (map (λ (t : Traced). length t.phones) ts)) || ltb z.entries n

abbrev pub to_list : Option Traced → List Traced
to_list none = []
to_list (some t) = t ∷ []

-- A refusal with no place, as a read's is.
abbrev pub refused_read : ℕ → Answer
refused_read n = refusal_answer (record { number = n; place = nowhere })

-- the answer, unless a check refuses: 6, then 15, then 11
abbrev pub unless : Option ℕ → Answer → Answer
unless none a = a
unless (some n) a = refused_read n

unfoldable pub read_best : Graph → State → (use_final : Bool) → Sizes → Answer
read_best g st use_final z = let p = best_path g st use_final in unless (refuse 11 (short z (words_of (to_list p)) (to_list p) 0)) (path_answer p)

unfoldable pub read_alternatives : Graph → State → (use_final : Bool) → (max : ℕ) → Sizes → Answer
read_alternatives g st use_final max z =
    let ps = alternatives g st use_final max in
    unless (first_of (refuse 6 (ltb 64 max) ∷ refuse 11 (short z (words_of ps) ps (length ps)) ∷ [])) (paths_answer ps)

unfoldable pub read_readings : Graph → Limits → State → (use_final : Bool) → (listed max : ℕ) → Sizes → Answer
read_readings g l st use_final n max z =
    let r = readings g st use_final n in
    let ps = trace_groups st max r.groups in
    unless
    (first_of
    (refuse 6 (ltb 64 n || ltb 64 max) ∷ refuse 15 (over r.belows l.below || over r.kepts l.kept) ∷
    refuse 11 (short z (map (λ (g : Group). g.words) r.groups) ps (length r.groups)) ∷ []))
    (readings_answer (map reading_of r.groups) ps)

unfoldable pub read_answer : Graph → Limits → Read → State → Answer
read_answer g l (best_path_read f z) st = read_best g st f z
read_answer g l (alternatives_read f max z) st = read_alternatives g st f max z
read_answer g l (readings_read f n max z) st = read_readings g l st f n max z
read_answer g l relative_cost_read st = cost_answer (final_relative_cost g st)
read_answer g l num_active_read st = count_answer (num_active st)
read_answer g l frames_decoded_read st = count_answer st.frames

-- ---- calls

pub record Said : Type 0 where
  pub state : State
  pub answer : Answer

-- the new state, or the one that a refusal leaves
abbrev pub said : State → Place → Outcome State → Said
said old p (ok st) = record { state = st; answer = done_answer }
said old p (refused n) = record { state = old; answer = refusal_answer (record { number = n; place = p }) }

unfoldable pub call : Graph → Config → Limits → Call → State → Said
call g c l start_call st = said (dropped g st) nowhere (start g c l st)
call g c l (frame_call ls) st = said st (at_frames st.frames) (frame g c l ls st)
call g c l (keep_call m) st = said st nowhere (set_keep m st)
call g c l (read_call r) st = record { state = st; answer = read_answer g l r st }

-- ---- the copy that is told

-- what a refusal of 13 to 15 leaves, and its place
abbrev pub left_by : Graph → Call → State → State
left_by g start_call st = dropped g st
left_by g (frame_call ls) st = st
left_by g (keep_call m) st = st
left_by g (read_call r) st = st

abbrev pub refused_at : Call → State → Place
refused_at start_call st = nowhere
refused_at (frame_call ls) st = at_frames st.frames
refused_at (keep_call m) st = nowhere
refused_at (read_call r) st = nowhere

-- A call, and the number that the copy is told: 13, 14 or 15 where one of these refused the call, and 0 otherwise.
unfoldable pub told_call : Graph → Config → Call → (told : ℕ) → State → Said
told_call g c k zero st = call g c unlimited k st
told_call g c k (suc n) st = record { state = left_by g k st; answer = refusal_answer (record { number = suc n; place = refused_at k st }) }

unfoldable pub answers_from : Graph → Config → List (Call × ℕ) → State → List Answer
answers_from g c [] st = []
answers_from g c (k ∷ ks) st = let s = told_call g c k.0 k.1 st in s.answer ∷ answers_from g c ks s.state

-- from a fitting on, whose own start is the first of the calls
unfoldable pub answers : Graph → Config → List (Call × ℕ) → List Answer
answers g c ks = answers_from g c ks (fitted g)
