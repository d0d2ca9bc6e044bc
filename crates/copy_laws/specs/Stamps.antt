-- The word frames of a trace are those of the arcs with the words, along every route. Assumes nothing.
use Rattle.std.specs.Prelude.{ℕ, ◌+◌, ◌-◌, cond, List, [], ◌∷◌, ◌++◌}
use Rattle.model.specs.Basics.{nonzero}
use Rattle.model.specs.Graph.{Arc, emits}
use Rattle.model.specs.Reads.{Rec}
use Rattle.copy_laws.specs.Walks.{emitted}
use Rattle.copy_laws.specs.Routes.{told}

-- The frame of an arc after k emitting ones: an emitting arc's is k, an epsilon arc's that of the emitting arc before it, 0 where there is none.
abbrev pub frame_of : (k : ℕ) → Arc → ℕ
frame_of k a = cond (emits a) k (k - 1)

-- the frames of the arcs with a word
unfoldable pub word_frames_from : (k : ℕ) → List Arc → List ℕ
word_frames_from k [] = []
word_frames_from k (a ∷ rest) = cond (nonzero a.olabel) (frame_of k a ∷ []) [] ++ word_frames_from (k + emitted (a ∷ [])) rest

abbrev pub word_frames_on : List Arc → List ℕ
word_frames_on route = word_frames_from 0 route

abbrev pub stamps : List Rec → List ℕ
stamps = told (λ (r : Rec). r.frame)
