-- What the token tables show: record numbers stand for paths, and places for tokens.
use Rattle.std.specs.Prelude.{◌≡◌, refl, ℕ, zero, suc, ◌-◌, ◌≤◌, ◌<◌, true, not, List, pos, length, get_or, Float}
use Rattle.std.proofs.Common.{sym, ◌∙◌, ap, arith}
use Rattle.std.proofs.Math.Option.{Option, none, some}
use Rattle.lists.specs.Tests.{never, and_both}
use Rattle.model.specs.Path.{Path, empty_path, arc_onto, branch_on, Token, Table}
use Rattle.tokens.specs.declared.Token.{Token as Stored}
use Rattle.tokens.specs.Layout.{Cell, cell_at, cell_of, place_in}
use Rattle.records.specs.History.{History, no_history, history_of, plain}

-- Of a kept path: an arc that is held beside the join has the join's frame, and below it nothing is held beside one.
abbrev pub beside_in : (frame : ℕ) → Path → Type 0
beside_in f empty_path = Unit {0}
beside_in f (arc_onto s p) = (s.beside ≡ true → s.frame ≡ f) × (plain p ≡ true)
beside_in f (branch_on m k p) = plain p ≡ true

abbrev pub timed : Path → Type 0
timed empty_path = Unit {0}
timed (arc_onto s p) = timed p
timed (branch_on m k p) = beside_in m.frame k × timed k × timed p

-- Record number l, of those in use, stands for a path; on a token's own path no arc is held beside a join.
pub record Is (h : ℕ → History) (used l : ℕ) (p : Path) : Type 0 where
  pub low : l ≤ used
  pub is : h l ≡ history_of p
  pub own : plain p ≡ true
  pub frames : timed p

-- a stored token stands for a token of the model
pub record TokenIs (h : ℕ → History) (used : ℕ) (s : Stored) (t : Token) : Type 0 where
  pub cost : s.cost ≡ t.cost
  pub graph : s.graph ≡ t.graph
  pub link : Is h used s.link t.path
  pub phone : pos s.phone ≡ t.phone
  pub seq : s.seq ≡ t.seq

-- a place with no token, or with one
pub data Shows (h : ℕ → History) (used : ℕ) (c : Cell) : Option Token → Type 0 where
  shows_none : c.held ≡ 0 → Shows h used c none
  shows_token : {t : Token} (s : Stored) → c ≡ cell_of s → TokenIs h used s t → Shows h used c (some t)

-- one of the two tables, of n states
pub record Shown (h : ℕ → History) (used : ℕ) (tk : List ℕ) (sm : List Float) (b n : ℕ) (ts : Table) : Type 0 where
  pub size : length ts ≡ n
  pub place : (s : ℕ) → s < n → Shows h used (cell_at tk sm (place_in b s)) (get_or ts s none)

-- no record stands for the empty path
pub is_none : (h : ℕ → History) (used : ℕ) → h 0 ≡ no_history → Is h used 0 empty_path
unfolding history_of plain
is_none h used e = record { low = omega arith; is = e; own = refl; frames = tt }

-- ---- laws of places

-- the two tables have no place in common
pub sides_apart : (b r s : ℕ) → b ≤ 1 → place_in (1 - b) r ≡ place_in b s → ⊥
sides_apart zero r s l e = omega arith
sides_apart (suc zero) r s l e = omega arith
sides_apart (suc (suc b)) r s l e = omega arith

-- a path of its own has nothing beside
pub none_beside : (f : ℕ) (p : Path) → plain p ≡ true → beside_in f p
unfolding plain
none_beside f empty_path e = tt
none_beside f (arc_onto s p) e = let d = and_both (not s.beside) (plain p) e in (λ b. never (sym (ap not b) ∙ d.0), d.1)
none_beside f (branch_on m k p) e = e
