-- The copy that is told just the 13 to 15 says what the copy with the stores says, and goes on from the same state. Assumes nothing.
use Rattle.std.specs.Prelude.{Bool, ◌||◌, cond, List, [], ◌∷◌, map, eqb}
use Prim.Native.Nat.{ℕ}
use Rattle.model.specs.Graph.{Graph}
use Rattle.model.specs.Path.{Limits}
use Rattle.model.specs.Cutoff.{Config}
use Rattle.model.specs.Passes.{State, fitted}
use Rattle.model.specs.Reads.{best_path, trace_groups, alternatives, final_relative_cost, num_active}
use Rattle.model.specs.Readings.{readings}
use Rattle.model.specs.Calls.{Read, best_path_read, alternatives_read, readings_read, relative_cost_read, num_active_read, frames_decoded_read, Call, Answer, refusal_answer, done_answer, path_answer, paths_answer, readings_answer, count_answer, cost_answer, reading_of, call}

-- ---- what the copy is told

abbrev pub is_told : ℕ → Bool
is_told n = eqb n 13 || eqb n 14 || eqb n 15

-- of an answer: 13, 14 or 15 where that refused the call, and else 0
abbrev pub told_of : Answer → ℕ
told_of (refusal_answer r) = cond (is_told r.number) r.number 0
told_of done_answer = 0
told_of (path_answer p) = 0
told_of (paths_answer ps) = 0
told_of (readings_answer rs ps) = 0
told_of (count_answer n) = 0
told_of (cost_answer x) = 0

-- no refusal
abbrev pub GivesBack : Answer → Type 0
GivesBack (refusal_answer r) = ⊥
GivesBack done_answer = Unit {0}
GivesBack (path_answer p) = Unit {0}
GivesBack (paths_answer ps) = Unit {0}
GivesBack (readings_answer rs ps) = Unit {0}
GivesBack (count_answer n) = Unit {0}
GivesBack (cost_answer x) = Unit {0}

-- what a read gives back where nothing refuses it
unfoldable pub given : Graph → Read → State → Answer
given g (best_path_read f z) st = path_answer (best_path g st f)
given g (alternatives_read f max z) st = paths_answer (alternatives g st f max)
given g (readings_read f n max z) st = let r = readings g st f n in readings_answer (map reading_of r.groups) (trace_groups st max r.groups)
given g relative_cost_read st = cost_answer (final_relative_cost g st)
given g num_active_read st = count_answer (num_active st)
given g frames_decoded_read st = count_answer st.frames

-- ---- a list of calls, each with the limits of the stores that are lent to it

-- the copy with the stores
unfoldable pub limited_from : Graph → Config → List (Limits × Call) → State → List Answer
limited_from g c [] st = []
limited_from g c (k ∷ ks) st = let s = call g c k.0 k.1 st in s.answer ∷ limited_from g c ks s.state

-- from a fitting on
abbrev pub limited_answers : Graph → Config → List (Limits × Call) → List Answer
limited_answers g c ks = limited_from g c ks (fitted g)

-- where it then stands
unfoldable pub limited_after : Graph → Config → List (Limits × Call) → State → State
limited_after g c [] st = st
limited_after g c (k ∷ ks) st = limited_after g c ks (call g c k.0 k.1 st).state

-- the calls, with what the copy is told of each
unfoldable pub tell_from : Graph → Config → List (Limits × Call) → State → List (Call × ℕ)
tell_from g c [] st = []
tell_from g c (k ∷ ks) st = let s = call g c k.0 k.1 st in (k.1, told_of s.answer) ∷ tell_from g c ks s.state

abbrev pub tell : Graph → Config → List (Limits × Call) → List (Call × ℕ)
tell g c ks = tell_from g c ks (fitted g)
