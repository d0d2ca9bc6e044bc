-- The lists below joins, of histories.
use Rattle.std.specs.Prelude.{ℕ, not, cond, List, [], ◌∷◌, ◌++◌, map, T, length, Float}
use Rattle.lists.specs.Lists.{keep_if}
use Rattle.model.specs.Basics.{◌≺◌, ◌≼◌, 0f}
use Rattle.model.specs.Readings.{Below, at_start, on_top, by_way, cheapest}
use Rattle.records.specs.History.{History, no_history, link_onto, join_on}

-- What the definition lists below a path that this is the history of. The margin is today's.
unfoldable pub below_of : (margin : Float) → (cap : ℕ) → History → List Below
below_of margin cap no_history = at_start ∷ []
below_of margin cap (link_onto n f w s t) = map (on_top w) (below_of margin cap t)
below_of margin cap (join_on n f b k t) =
    let own = map (by_way 0f 0f []) (below_of margin cap t) in
    let kept = cond (b.cost ≼ margin) (map (by_way b.cost b.graph (n ∷ [])) (map (on_top b.word) (below_of margin cap k))) [] in
    cheapest cap (keep_if (λ (x : Below). not (margin ≺ x.cost)) (own ++ kept))

-- the joins that this visits, each with the length of its list
unfoldable pub visited_of : (margin : Float) → (cap : ℕ) → History → List (ℕ × ℕ)
visited_of margin cap no_history = []
visited_of margin cap (link_onto n f w s t) = visited_of margin cap t
visited_of margin cap (join_on n f b k t) = (n, length (below_of margin cap (join_on n f b k t))) ∷ (visited_of margin cap t ++ cond (b.cost ≼ margin) (visited_of margin cap k) [])

-- what joins kept cost no less than the winners, all over the history
abbrev pub Dearer : History → Type 0
Dearer no_history = Unit {0}
Dearer (link_onto n f w s t) = Dearer t
Dearer (join_on n f b k t) = T (0f ≼ b.cost) × Dearer k × Dearer t

-- down to its newest join
unfoldable pub to_join : History → History
to_join no_history = no_history
to_join (link_onto n f w s t) = to_join t
to_join (join_on n f b k t) = join_on n f b k t
