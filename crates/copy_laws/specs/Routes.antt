-- The path along a route takes the kept path at a branch of the route and the winner's at any other. A trace says its words. Assumes nothing.
use Rattle.std.specs.Prelude.{ℕ, true, false, ℤ}
use mathlib.Core.List.{List, [], ◌∷◌, ◌++◌, map}
use Rattle.model.specs.Graph.{Graph, Arc}
use Rattle.model.specs.Path.{Path, empty_path, arc_onto, branch_on, memℕ}
use Rattle.model.specs.Reads.{Rec, word_recs}
use Rattle.copy_laws.specs.Walks.{Heard, Walk}

-- the arcs along a route
unfoldable pub along : (route : List ℕ) → Path → List Arc
along route empty_path = []
along route (arc_onto x p) = along route p ++ (x.arc ∷ [])
along route (branch_on m k p) = elim (memℕ m.number route) [ true ↦ along route k | false ↦ along route p ]

-- branches apart: along no route
abbrev pub arcs : Path → List Arc
arcs p = along [] p

-- Along every route, branches apart among them, it is a path of these frames to s.
abbrev pub Walks : Graph → List Heard → Path → (s : ℕ) → Type 0
Walks g fs p s = (route : List ℕ) → Walk g fs (along route p) s

-- ---- what a trace says

-- what records with a word tell
abbrev pub told : {A : Type 0} → (Rec → A) → List Rec → List A
told f rs = map f (word_recs rs)

abbrev pub said : List Rec → List ℤ
said = told (λ (r : Rec). r.word)
