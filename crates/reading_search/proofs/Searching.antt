-- The search, one reading at a time. Assumes nothing.
use mathlib.Core.Path.{◌≡◌, refl, ◌∙◌}
use Prim.Native.Nat.{ℕ, ◌+◌, ◌-◌, ◌≤◌, ◌<◌, zero-le}
use native.Mathlib.Omega.{arith}
use mathlib.Core.Bool.{true, false}
use mathlib.Core.Option.{some, none}
use mathlib.Core.List.{List}
use lib.IntN.{ℤ}
use lib.ListN.{length, get_or, take, drop, drop_of_length-le}
use Rattle.lists.specs.Members.{drop_next}
use Rattle.model.specs.Search.{parts_wrong, readings_from, contains, first_from}
use Rattle.reading_search.proofs.Ends.{right_at}

module _ (w : ℤ) (ends : List ℕ) (words : List ℤ) where
  -- reading i begins here, and what is found is found from it on
  pub record Searching (from i : ℕ) : Type 0 where
    pub within : i ≤ length ends
    pub right : parts_wrong from (length words) (drop i ends) ≡ false
    pub found : first_from 0 w (readings_from 0 ends words) ≡ first_from i w (readings_from from (drop i ends) words)

  pub searching_none : parts_wrong 0 (length words) ends ≡ false → Searching 0 0
  searching_none r = record { within = zero-le; right = r; found = refl }

  module _ (from i : ℕ) (s : Searching from i) (h : i < length ends) where
    end_right : (from ≤ get_or ends i 0) × (get_or ends i 0 ≤ length words) × (parts_wrong (get_or ends i 0) (length words) (drop (i + 1) ends) ≡ false)
    end_right = right_at (length words) from ends i h (get_or ends i 0) refl s.right

    pub found_here : contains w (take (get_or ends i 0 - from) (drop from words)) ≡ true → first_from 0 w (readings_from 0 ends words) ≡ some i
    found_here t = s.found ∙ rw (drop_next ends i 0 h, t)

    pub searching_more : contains w (take (get_or ends i 0 - from) (drop from words)) ≡ false → Searching (get_or ends i 0) (i + 1)
    searching_more t = let (a, b, r) = end_right in record { within = omega arith; right = r; found = s.found ∙ rw (drop_next ends i 0 h, t) }

  pub found_nowhere : (from i : ℕ) → Searching from i → length ends ≤ i → first_from 0 w (readings_from 0 ends words) ≡ none
  found_nowhere from i s h = s.found ∙ rw (drop_of_length-le ends h)
