-- What the test of the ends says of the end at hand. Assumes nothing.
use mathlib.Core.Path.{◌≡◌, sym, ◌∙◌}
use Prim.Native.Nat.{ℕ, ◌+◌, ◌≤◌, ◌<◌}
use mathlib.Core.Bool.{false, ◌||◌}
use mathlib.Core.List.{List}
use lib.Dec.{ltb}
use lib.ListN.{length, get_or, drop}
use borrow.Author.Tests.{ltb-false}
use Rattle.lists.specs.Tests.{or_neither}
use Rattle.lists.specs.Members.{drop_next}
use Rattle.model.specs.Search.{parts_wrong}

module _ (limit from : ℕ) (ends : List ℕ) (i : ℕ) (h : i < length ends) (end : ℕ) (e : end ≡ get_or ends i 0) where
  wrong_at : parts_wrong from limit (drop i ends) ≡ (ltb end from || ltb limit end || parts_wrong end limit (drop (i + 1) ends))
  wrong_at = rw (drop_next ends i 0, e)

  -- where the test finds no fault
  pub right_at : parts_wrong from limit (drop i ends) ≡ false → (from ≤ end) × (end ≤ limit) × (parts_wrong end limit (drop (i + 1) ends) ≡ false)
  right_at r =
      let (a, b) = or_neither (ltb end from || ltb limit end) (parts_wrong end limit (drop (i + 1) ends)) (sym wrong_at ∙ r) in
      let (c, d) = or_neither (ltb end from) (ltb limit end) a in
      (ltb-false _ _ c, ltb-false _ _ d, b)
