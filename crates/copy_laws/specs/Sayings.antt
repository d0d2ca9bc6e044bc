-- What the answer to each call says, whatever list of calls comes before it. Assumes nothing.
use Rattle.std.specs.Prelude.{Bool, false, List, [], ◌∷◌, ◌++◌, map, ℤ}
use Rattle.std.proofs.Math.Option.{none, some}
use mathlib.Core.List.Memᴰ
use Rattle.model.specs.Reads.{Traced}
use Rattle.model.specs.Calls.{best_path_read, alternatives_read, readings_read, relative_cost_read, num_active_read, frames_decoded_read, Call, start_call, frame_call, keep_call, read_call, Reading, Answer, refusal_answer, done_answer, path_answer, paths_answer, readings_answer, count_answer, cost_answer}

-- ---- what an answer gives back

-- whether a read asks for final weights
abbrev pub asks_finals : Call → Bool
asks_finals start_call = false
asks_finals (frame_call ls) = false
asks_finals (keep_call m) = false
asks_finals (read_call (best_path_read f z)) = f
asks_finals (read_call (alternatives_read f max z)) = f
asks_finals (read_call (readings_read f n max z)) = f
asks_finals (read_call relative_cost_read) = false
asks_finals (read_call num_active_read) = false
asks_finals (read_call frames_decoded_read) = false

-- the lists of words in an answer: of alternatives, of readings, and of the traces of readings
abbrev pub lists_in : Answer → List (List (List ℤ))
lists_in (refusal_answer r) = []
lists_in done_answer = []
lists_in (path_answer o) = []
lists_in (paths_answer ts) = map (λ (tr : Traced). tr.words) ts ∷ []
lists_in (readings_answer rs ts) = map (λ (r : Reading). r.words) rs ∷ map (λ (tr : Traced). tr.words) ts ∷ []
lists_in (count_answer n) = []
lists_in (cost_answer x) = []

abbrev pub words_in : Answer → List (List ℤ)
words_in (refusal_answer r) = []
words_in done_answer = []
words_in (path_answer none) = []
words_in (path_answer (some tr)) = tr.words ∷ []
words_in (paths_answer ts) = map (λ (tr : Traced). tr.words) ts
words_in (readings_answer rs ts) = map (λ (r : Reading). r.words) rs ++ map (λ (tr : Traced). tr.words) ts
words_in (count_answer n) = []
words_in (cost_answer x) = []
