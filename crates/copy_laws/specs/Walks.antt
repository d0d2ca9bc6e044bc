-- Paths as document 01 has them: lists of arcs, the first from the start state, each next from where the last ended; their words and their sums. Assumes nothing.
use Rattle.std.specs.Prelude.{◌≡◌, ℕ, ◌<◌, true, false, length, ℤ, Float}
use mathlib.Core.List.{List, [], ◌∷◌, ◌++◌, map, tail}
use Rattle.lists.specs.Lists.{◌∈◌, keep_if, count}
use Rattle.model.specs.Basics.{◌⊕◌, ◌⊖◌, 0f, nonzero}
use Rattle.model.specs.Graph.{Graph, Arc, states, arcs_of, emits}
use Rattle.model.specs.Arrive.{Pass, emitting, nonemitting, loglike}

-- ---- paths

-- an accepted frame: its log-likelihoods, and the copy's offset in it
pub record Heard : Type 0 where
  pub loglikes : List Float
  pub offset : Float

-- from s over these arcs to t
abbrev pub Leads : Graph → (s : ℕ) → List Arc → (t : ℕ) → Type 0
Leads g s [] t = s ≡ t
Leads g s (a ∷ rest) t = (a ∈ arcs_of g s) × Leads g a.target rest t

-- how many of them emit
abbrev pub emitted : List Arc → ℕ
emitted = count emits

-- A path of these frames: from the start state, which is a state, to s, with as many emitting arcs as frames.
pub record Walk (g : Graph) (fs : List Heard) (route : List Arc) (s : ℕ) : Type 0 where
  pub begins : g.start < states g
  pub leads : Leads g g.start route s
  pub frames : emitted route ≡ length fs

-- ---- words and sums

-- the nonzero output labels
abbrev pub words_along : List Arc → List ℤ
words_along route = keep_if nonzero (map (λ (a : Arc). a.olabel) route)

-- what an emitting arc makes of x in this frame: each sum rounded once, in this order
abbrev pub emitting_total : Graph → Heard → Float → Arc → Float
emitting_total g f x a = (x ⊕ (f.offset ⊖ loglike g f.loglikes a)) ⊕ a.weight

-- the first frame; a path of these frames never wants one more
abbrev pub first_frame : List Heard → Heard
first_frame [] = record { loglikes = []; offset = 0f }
first_frame (f ∷ fs) = f

-- From x on, an epsilon arc adds its weight, and the k-th emitting arc makes the emitting total with the k-th frame.
unfoldable pub sum_from : Graph → List Heard → Float → List Arc → Float
sum_from g fs x [] = x
sum_from g fs x (a ∷ rest) = elim (emits a) [ true ↦ sum_from g (tail fs) (emitting_total g (first_frame fs) x a) rest | false ↦ sum_from g fs (x ⊕ a.weight) rest ]

-- a path's cost begins at 0
abbrev pub sum_of : Graph → List Heard → List Arc → Float
sum_of g fs route = sum_from g fs 0f route

-- the arc weights alone: a token's graph sum
unfoldable pub weights_from : Float → List Arc → Float
weights_from x [] = x
weights_from x (a ∷ rest) = weights_from (x ⊕ a.weight) rest

abbrev pub weights_of : List Arc → Float
weights_of route = weights_from 0f route

-- ---- one arc more, whichever the pass

-- the frames after an arc of this pass
abbrev pub heard_by : Pass → List Heard → List Heard
heard_by (emitting ls off ad) fs = fs ++ (record { loglikes = ls; offset = off } ∷ [])
heard_by nonemitting fs = fs
