-- The Rust's form of the lists below joins: `way` hashes the words down to the next join and the factor that shifts past them, and `fill_below` puts each entry of that join's list behind them. It gives the definition's `below`. Assumes nothing.
use Rattle.std.specs.Prelude.{ℕ, ◌+◌, ◌*◌, ◌%◌, ◌^◌, not, cond, List, [], ◌∷◌, ◌++◌, map, length, ℤ, Float}
use Rattle.lists.specs.Lists.{keep_if}
use Rattle.model.specs.Basics.{◌≺◌, ◌≼◌, ◌⊕◌, 0f}
use Rattle.model.specs.Path.{Merge, Path, empty_path, arc_onto, branch_on}
use Rattle.model.specs.Hash.{hash_newest_first}
use Rattle.model.specs.Readings.{Below, cheapest, below, words_to_join}

-- ---- the Rust's form

-- the path from its first join down, the start where it has none
unfoldable pub down_to_join : Path → Path
down_to_join empty_path = empty_path
down_to_join (arc_onto x p) = down_to_join p
down_to_join (branch_on m k p) = branch_on m k p

-- the Rust's `Way`: a stretch of words, newest first, and what it costs; and the branch whose kept path it takes, if any
pub record Way : Type 0 where
  pub hash : ℕ
  pub shift : ℕ
  pub len : ℕ
  pub cost : Float
  pub graph : Float
  pub via : List ℕ

unfoldable pub way_of : (cost graph : Float) → (via : List ℕ) → (words : List ℤ) → Way
way_of c gr via ws = let h = hash_newest_first 0 1 ws in record { hash = h.0; shift = h.1; len = length ws; cost = c; graph = gr; via = via }

-- an entry of the next join's list, reached by this way: both sums wrap
unfoldable pub down_way : Way → Below → Below
down_way w b = record { hash = (b.hash * w.shift % 2 ^ 64 + w.hash) % 2 ^ 64; len = b.len + w.len; cost = w.cost ⊕ b.cost; graph = w.graph ⊕ b.graph; route = w.via ++ b.route }

-- What the Rust's `fill_below` puts down for a join. It sorts by `total_cmp`, which is `≺` here: no such cost is a NaN or −0 (`Bounds`).
unfoldable pub fill_below : (margin : Float) → (cap : ℕ) → Merge → (kept own : Path) → List Below
fill_below margin cap m k p =
    let owns = map (down_way (way_of 0f 0f [] (words_to_join p))) (below margin cap (down_to_join p)) in
    let kepts = cond (m.cost ≼ margin) (map (down_way (way_of m.cost m.graph (m.number ∷ []) (words_to_join k))) (below margin cap (down_to_join k))) [] in
    cheapest cap (keep_if (λ (b : Below). not (margin ≺ b.cost)) (owns ++ kepts))

-- the key of an entry, with the words above the join put on: the Rust's `above_hash` and `shift`
unfoldable pub with_words_on : (words : List ℤ) → Below → Below
with_words_on ws b = let h = hash_newest_first 0 1 ws in record { hash = (b.hash * h.1 % 2 ^ 64 + h.0) % 2 ^ 64; len = b.len + length ws; cost = b.cost; graph = b.graph; route = b.route }

-- an entry with another key
abbrev pub keyed : Below → (hash len : ℕ) → Below
keyed b h l = record { hash = h; len = l; cost = b.cost; graph = b.graph; route = b.route }
