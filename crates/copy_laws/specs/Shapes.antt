-- What holds all over a path, kept paths too: numbers fall, phones start where they change, and at a branch the kept path ends where the winner's does. Assumes nothing.
use Rattle.std.specs.Prelude.{◌≡◌, ℕ, ◌-◌, ◌<◌, true, false, cond, List, [], ◌∷◌, ◌++◌, ℤ, pos}
use Rattle.model.specs.Basics.{◌⊖◌, eqℤ}
use Rattle.model.specs.Graph.{Graph, Arc, emits, phone_of}
use Rattle.model.specs.Path.{Step, Merge, Path, empty_path, arc_onto, branch_on}
use Rattle.copy_laws.specs.Walks.{Heard, emitted, sum_of, weights_of}
use Rattle.copy_laws.specs.Routes.{arcs, Walks}
use Rattle.copy_laws.specs.Sums.{Difference}

-- ---- the numbers are below f, and fall down the path and its kept paths

abbrev pub Falling : (f : ℕ) → Path → Type 0
Falling f empty_path = Unit {0}
Falling f (arc_onto x p) = (x.number < f) × Falling x.number p
Falling f (branch_on m k p) = (m.number < f) × Falling m.number k × Falling m.number p

-- ---- phones

-- the phone of the last emitting arc, ph where there is none
unfoldable pub phone_from : Graph → (ph : ℤ) → List Arc → ℤ
phone_from g ph [] = ph
phone_from g ph (a ∷ rest) = phone_from g (cond (emits a) (phone_of g a) ph) rest

abbrev pub phone_on : Graph → Path → ℤ
phone_on g p = phone_from g (pos 0) (arcs p)

-- the phone that an arc in phone `ph` starts after one in phone `old`, 0 for none
abbrev pub started_by : (ph old : ℤ) → ℤ
started_by ph old = cond (eqℤ ph old) (pos 0) ph

-- An emitting arc has the number of its frame, and starts its phone where that is another; an epsilon arc has the frame of the emitting arc before it, 0 where there is none, and starts no phone.
pub record Mark (g : Graph) (x : Step) (p : Path) : Type 0 where
  pub emitting : emits x.arc ≡ true → (x.frame ≡ emitted (arcs p)) × (x.starts ≡ started_by (phone_of g x.arc) (phone_on g p))
  pub epsilon : emits x.arc ≡ false → (x.frame ≡ emitted (arcs p) - 1) × (x.starts ≡ pos 0)

abbrev pub Marked : Graph → Path → Type 0
Marked g empty_path = Unit {0}
Marked g (arc_onto x p) = Mark g x p × Marked g p
Marked g (branch_on m k p) = Marked g k × Marked g p

-- ---- branches

-- The kept path and the winner's lead to one state, over the first of these frames; the branch has a number other than 0, and what the kept one costs over the other.
pub record Fork (g : Graph) (fs : List Heard) (m : Merge) (k p : Path) : Type 0 where
  pub frames : List Heard
  pub later : List Heard
  pub first : frames ++ later ≡ fs
  pub end : ℕ
  pub kept : Walks g frames k end
  pub won : Walks g frames p end
  pub numbered : 0 < m.number
  pub cost : m.cost ≡ sum_of g frames (arcs k) ⊖ sum_of g frames (arcs p)
  pub graph : m.graph ≡ weights_of (arcs k) ⊖ weights_of (arcs p)
  pub small : Difference m

abbrev pub Forks : Graph → List Heard → Path → Type 0
Forks g fs empty_path = Unit {0}
Forks g fs (arc_onto x p) = Forks g fs p
Forks g fs (branch_on m k p) = Fork g fs m k p × Forks g fs k × Forks g fs p

-- the differences alone
abbrev pub Differences : Path → Type 0
Differences empty_path = Unit {0}
Differences (arc_onto x p) = Differences p
Differences (branch_on m k p) = Difference m × Differences k × Differences p
