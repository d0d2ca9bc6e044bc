-- The Rust's `grouped` keeps the best token of each word list in a map, as it meets them, and then sorts; its `best_token` keeps the best so far. The definition sorts first, and gives the same. Assumes nothing.
use Rattle.std.specs.Prelude.{ℕ, Bool, cond, ℤ, Float}
use Rattle.std.proofs.Math.Option.{Option, none, some}
use mathlib.Core.List.{List, [], ◌∷◌, map}
use Rattle.model.specs.Path.{same_words}
use Rattle.model.specs.Reads.{Ranked, sooner, Group, own_group}
use Rattle.copy_laws.specs.Sooner.{earlier, stays}
use Rattle.copy_laws.specs.Folded.{take_all}

-- ---- the Rust's `grouped`

abbrev pub words_of : Group → List ℤ
words_of x = x.words

abbrev pub rank_of : Group → Float
rank_of x = x.rank

abbrev pub seq_of : Group → ℕ
seq_of x = x.token.seq

-- the order of its `sort_by`: rank, and then the larger seq
abbrev pub group_order : Group → Group → Bool
group_order = earlier rank_of seq_of

-- where the map has an entry of these words, it stays unless the new one comes before it
abbrev pub old_stays : (old new : Group) → Bool
old_stays old new = stays rank_of seq_of old new

-- the entries of its map, once the ranked tokens have come in by ascending state; a map gives them out in an order of its own
unfoldable pub group_map : List Ranked → List Group
group_map rs = take_all words_of same_words old_stays [] (map own_group rs)

-- the Rust's `best_token`: the best so far, and the tokens that are still to come
abbrev pub best_so_far : Ranked → List Ranked → Ranked
best_so_far b [] = b
best_so_far b (r ∷ rs) = best_so_far (cond (sooner r b) r b) rs

abbrev pub best_of : List Ranked → Option Ranked
best_of [] = none
best_of (r ∷ rs) = some (best_so_far r rs)
