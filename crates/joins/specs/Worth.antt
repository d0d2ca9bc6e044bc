-- What is worth keeping, said of histories as `model` says it of paths.
use Rattle.std.specs.Prelude.{ℕ, Bool, false, not, ◌||◌, cond, List, [], ◌∷◌, ℤ, Float}
use Rattle.model.specs.Basics.{◌≼◌}
use Rattle.model.specs.Path.{with_word, memℕ, same_words}
use Rattle.records.specs.History.{History, no_history, link_onto, join_on}

-- the numbers of a history, newest first, and no kept one's
unfoldable pub numbers : History → List ℕ
numbers no_history = []
numbers (link_onto n f w st t) = n ∷ numbers t
numbers (join_on n f b k t) = n ∷ numbers t

-- its words, newest first
unfoldable pub words_of : History → List ℤ
words_of no_history = []
words_of (link_onto n f w st t) = with_word w (words_of t)
words_of (join_on n f b k t) = words_of t

-- some kept history costs at most `slack`
unfoldable pub kept_within_of : Float → History → Bool
kept_within_of slack no_history = false
kept_within_of slack (link_onto n f w st t) = kept_within_of slack t
kept_within_of slack (join_on n f b k t) = b.cost ≼ slack || kept_within_of slack t

-- the part above the first number that passes a test
unfoldable pub above_of : (ℕ → Bool) → History → History
above_of stop no_history = no_history
above_of stop (link_onto n f w st t) = cond (stop n) no_history (link_onto n f w st (above_of stop t))
above_of stop (join_on n f b k t) = cond (stop n) no_history (join_on n f b k (above_of stop t))

unfoldable pub among : List ℕ → ℕ → Bool
among ns n = memℕ n ns

-- the part above the record that it shares with another
abbrev pub apart_from : (other : History) → History → History
apart_from o = above_of (among (numbers o))

-- The Rust's `worth_keeping`: the words differ above the shared record, or the loser has a kept history there that still fits. `over` is the word on top of the loser. It fixes no
-- order of steps.
unfoldable pub worth : (won lost : History) → (over : ℤ) → (slack : Float) → Bool
worth won lost over slack =
    kept_within_of slack (apart_from won lost) || not (same_words (words_of (apart_from lost won)) (with_word over (words_of (apart_from won lost))))
