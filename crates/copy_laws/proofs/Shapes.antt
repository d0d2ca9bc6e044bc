-- What holds all over a path, kept paths too: numbers fall, phones start where they change, and at a branch the kept path ends where the winner's does. Assumes nothing.
use Rattle.std.specs.Prelude.{◌≡◌, refl, ℕ, ◌-◌, ◌≤◌, cond, List, [], ◌∷◌, ◌++◌, ℤ}
use Rattle.std.proofs.Common.{sym, ap, ◌∙◌, arith, append_assoc}
use Rattle.model.specs.Graph.{Graph, Arc, emits, phone_of}
use Rattle.model.specs.Path.{Merge, Path, empty_path, arc_onto, branch_on}
use Rattle.copy_laws.specs.Walks.{Heard}
use Rattle.copy_laws.specs.Shapes.{Falling, phone_from, Fork, Forks, Differences}

pub falling_more : (f f' : ℕ) (p : Path) → f ≤ f' → Falling f p → Falling f' p
falling_more f f' empty_path i d = tt
falling_more f f' (arc_onto x p) i d = (let z = d.0 in omega arith, d.1)
falling_more f f' (branch_on m k p) i d = (let z = d.0 in omega arith, d.1, d.2)

pub phone-append : (g : Graph) (ph : ℤ) (route : List Arc) (a : Arc) → phone_from g ph (route ++ (a ∷ [])) ≡ cond (emits a) (phone_of g a) (phone_from g ph route)
unfolding phone_from
phone-append g ph [] a = refl
phone-append g ph (b ∷ route) a = phone-append g (cond (emits b) (phone_of g b) ph) route a

fork_more : (g : Graph) (fs more : List Heard) (m : Merge) (k p : Path) → Fork g fs m k p → Fork g (fs ++ more) m k p
fork_more g fs more m k p b =
    record { frames = b.frames; later = b.later ++ more; first = sym (append_assoc b.frames b.later more) ∙ ap (λ (l : List Heard). l ++ more) b.first; end = b.end; kept = b.kept; won = b.won; numbered = b.numbered; cost = b.cost; graph = b.graph; small = b.small }

pub forks_more : (g : Graph) (fs more : List Heard) (p : Path) → Forks g fs p → Forks g (fs ++ more) p
forks_more g fs more empty_path b = tt
forks_more g fs more (arc_onto x p) b = forks_more g fs more p b
forks_more g fs more (branch_on m k p) b = (fork_more g fs more m k p b.0, forks_more g fs more k b.1, forks_more g fs more p b.2)

pub differences : (g : Graph) (fs : List Heard) (p : Path) → Forks g fs p → Differences p
differences g fs empty_path b = tt
differences g fs (arc_onto x p) b = differences g fs p b
differences g fs (branch_on m k p) b = (b.0.small, differences g fs k b.1, differences g fs p b.2)
