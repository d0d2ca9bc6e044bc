-- The two ways down from a join.
use Rattle.std.specs.Prelude.{◌≡◌, ℕ, ◌-◌, true, cond, List, ℤ, Float}
use Rattle.model.specs.Basics.{◌≼◌, 0f}
use Rattle.model.specs.Path.{with_word}
use Rattle.records.specs.History.{History}
use Rattle.records.specs.Layout.{store, prev_at, kept_at, kept_word_at, cost_at, graph_at}
use Rattle.records.specs.Stands.{Stands}
use Rattle.joins.specs.Walk.{words_to}
use Rattle.histories.specs.declared.Hashed.{Hashed}
use Rattle.histories.specs.Reading.{EndIs, hashed}
use Rattle.entries.specs.declared.Way.{Way}
use Rattle.below.specs.Stored.{first_at, count_at}

abbrev pub hashed_of : Way → Hashed
hashed_of w = record { hash = w.hash; shift = w.shift; len = w.len }

-- the own way of the join r: the path on which it stands
pub record OwnWay (rs : List ℕ) (ls : List ℤ) (used : ℕ) (lists : List ℕ) (r : ℕ) (w : Way) : Type 0 where
  pub end : ℕ
  pub end_is : EndIs rs ls used (prev_at rs (r - 1)) true end
  pub words : (gs : List Float) (h : ℕ → History) → Stands (store rs ls gs) used h → hashed_of w ≡ hashed (words_to h end (prev_at rs (r - 1)))
  pub first : w.first ≡ first_at lists end
  pub count : w.count ≡ count_at lists end
  pub cost : w.cost ≡ 0f
  pub graph : w.graph ≡ 0f
  pub join : w.join ≡ 0

-- the way by its kept history, none where that costs more than the margin
pub record KeptWay (rs : List ℕ) (ls : List ℤ) (gs : List Float) (used : ℕ) (lists : List ℕ) (r : ℕ) (margin : Float) (w : Way) : Type 0 where
  pub end : ℕ
  pub end_is : EndIs rs ls used (kept_at rs (r - 1)) true end
  pub words : (gs : List Float) (h : ℕ → History) → Stands (store rs ls gs) used h → hashed_of w ≡ hashed (with_word (kept_word_at ls (r - 1)) (words_to h end (kept_at rs (r - 1))))
  pub first : w.first ≡ first_at lists end
  pub count : w.count ≡ cond (cost_at gs (r - 1) ≼ margin) (count_at lists end) 0
  pub cost : w.cost ≡ cost_at gs (r - 1)
  pub graph : w.graph ≡ graph_at gs (r - 1)
  pub join : w.join ≡ r
