-- The numbers that a call can be refused by, whatever the stores. Assumes nothing.
use Prim.Native.Nat.{ℕ}
use mathlib.Core.List.{List}
use Rattle.lists.specs.Lists.{◌∈◌}
use Rattle.model.specs.Basics.{Outcome, ok, refused}
use Rattle.model.specs.Calls.{Answer, refusal_answer, done_answer, path_answer, paths_answer, readings_answer, count_answer, cost_answer}

-- ---- a step that is refused, if at all, by one of these numbers

abbrev pub By : {A : Type 0} → List ℕ → Outcome A → Type 0
By ns (ok a) = Unit {0}
By ns (refused n) = n ∈ ns

-- an answer, likewise
abbrev pub AnswerBy : List ℕ → Answer → Type 0
AnswerBy ns (refusal_answer r) = r.number ∈ ns
AnswerBy ns done_answer = Unit {0}
AnswerBy ns (path_answer p) = Unit {0}
AnswerBy ns (paths_answer ps) = Unit {0}
AnswerBy ns (readings_answer rs ps) = Unit {0}
AnswerBy ns (count_answer n) = Unit {0}
AnswerBy ns (cost_answer x) = Unit {0}
