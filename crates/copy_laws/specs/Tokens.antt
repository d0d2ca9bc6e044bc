-- What holds of a token: of the start's, of an arriving one whichever the pass, and of a winner with a loser joined to it. Assumes nothing.
use Rattle.std.specs.Prelude.{◌≡◌, ℕ, ◌-◌, List, length}
use Rattle.model.specs.Graph.{Graph}
use Rattle.model.specs.Path.{Token}
use Rattle.model.specs.Arrive.{Pass, emitting, nonemitting, Here}
use Rattle.copy_laws.specs.Walks.{Heard, sum_of, weights_of}
use Rattle.copy_laws.specs.Routes.{arcs, Walks}
use Rattle.copy_laws.specs.Sums.{Sums}
use Rattle.copy_laws.specs.Shapes.{Falling, phone_on, Marked, Forks}

-- of a token at state s, after these frames, with the numbers below f
pub record Sound (g : Graph) (fs : List Heard) (f s : ℕ) (t : Token) : Type 0 where
  pub walks : Walks g fs t.path s
  pub cost : t.cost ≡ sum_of g fs (arcs t.path)
  pub graph : t.graph ≡ weights_of (arcs t.path)
  pub phone : t.phone ≡ phone_on g t.path
  pub sums : Sums t
  pub falls : Falling f t.path
  pub marked : Marked g t.path
  pub forks : Forks g fs t.path

-- ---- an arc

-- a frame's own number is the count of those before it: in its nonemitting pass it is one of those heard, and a start's is 0
abbrev pub InFrame : Here → Pass → List Heard → Type 0
InFrame h (emitting ls off ad) fs = h.frame ≡ length fs
InFrame h nonemitting fs = h.frame ≡ length fs - 1
