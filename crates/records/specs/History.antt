-- Histories: what the record store holds of a path, its links and joins with the kept histories inside.
use Rattle.std.specs.Prelude.{ℕ, suc, Bool, true, false, not, ◌&&◌, cond, ◌≡◌, refl, ℤ, pos, Float}
use Rattle.model.specs.Path.{Step, Merge, Path, empty_path, arc_onto, branch_on, is_link, word}

-- What a join keeps beside its kept history (the Rust's `Kept`): the losing arc's word and the phone that it starts, what it cost over the winner, the loser's phone, and the
-- winner's at the merge.
pub record Beside : Type 0 where
  pub word : ℤ
  pub starts : ℤ
  pub cost : Float
  pub graph : Float
  pub phone : ℤ
  pub winner : ℤ

-- newest first; the numbers are the model's
pub data History : Type 0 where
  no_history : History
  link_onto : (number frame : ℕ) → (word starts : ℤ) → History → History
  join_on : (number frame : ℕ) → Beside → (kept : History) → History → History

-- one more than the newest number, 0 for none
unfoldable pub tag : History → ℕ
tag no_history = 0
tag (link_onto n f w st t) = suc n
tag (join_on n f b k t) = suc n

-- ---- the history of a path

-- the arc that is held beside a join, where a kept path ends in one
unfoldable pub beside_word : Path → ℤ
beside_word empty_path = pos 0
beside_word (arc_onto s p) = cond s.beside (word s) (pos 0)
beside_word (branch_on m k p) = pos 0

unfoldable pub beside_starts : Path → ℤ
beside_starts empty_path = pos 0
beside_starts (arc_onto s p) = cond s.beside s.starts (pos 0)
beside_starts (branch_on m k p) = pos 0

abbrev pub beside_of : Merge → (kept : Path) → Beside
beside_of m k = record { word = beside_word k; starts = beside_starts k; cost = m.cost; graph = m.graph; phone = m.kept_phone; winner = m.phone }

unfoldable pub history_of : Path → History
history_of empty_path = no_history
history_of (arc_onto s p) = cond (is_link s && not s.beside) (link_onto s.number s.frame (word s) s.starts (history_of p)) (history_of p)
history_of (branch_on m k p) = join_on m.number m.frame (beside_of m k) (history_of k) (history_of p)

-- no arc of the path itself is held beside a join: so of every token's
unfoldable pub plain : Path → Bool
plain empty_path = true
plain (arc_onto s p) = not s.beside && plain p
plain (branch_on m k p) = plain p

-- ---- what an arc and a branch put on

pub history_link : (s : Step) (p : Path) → is_link s ≡ true → s.beside ≡ false → history_of (arc_onto s p) ≡ link_onto s.number s.frame (word s) s.starts (history_of p)
unfolding history_of
history_link s p e b = simp (e, b)

pub history_quiet : (s : Step) (p : Path) → is_link s ≡ false → history_of (arc_onto s p) ≡ history_of p
unfolding history_of
history_quiet s p e = simp e

pub history_beside : (s : Step) (p : Path) → s.beside ≡ true → history_of (arc_onto s p) ≡ history_of p
unfolding history_of
history_beside s p b = go (is_link s) refl
  where
    go : (l : Bool) → is_link s ≡ l → history_of (arc_onto s p) ≡ history_of p
    go true e = simp (e, b)
    go false e = simp e

pub history_branch : (m : Merge) (k p : Path) → history_of (branch_on m k p) ≡ join_on m.number m.frame (beside_of m k) (history_of k) (history_of p)
unfolding history_of
history_branch m k p = refl
