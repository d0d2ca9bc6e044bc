-- The words of a history along a route, newest first, over the lists of the store alone.
use Rattle.std.specs.Prelude.{◌≡◌, ℕ, zero, suc, ◌≤◌, ◌<◌, true, List, [], ◌∷◌, reverse, ℤ, pos, take, drop}
use Rattle.model.specs.Basics.{nonzero}
use Rattle.model.specs.Path.{with_word}
use Rattle.traceback.specs.Chain.{step_of}
use Rattle.routes.specs.declared.Word.{Word}

unfoldable pub back_by : List ℕ → List ℤ → (route : List ℕ) → (fuel r : ℕ) → List ℤ
back_by rs ls route zero r = []
back_by rs ls route (suc f) zero = []
back_by rs ls route (suc f) (suc k) = let s = step_of rs ls route 0 k in with_word s.word (back_by rs ls route f s.next)

-- from record r down: numbers fall
abbrev pub back_along : List ℕ → List ℤ → (route : List ℕ) → (r : ℕ) → List ℤ
back_along rs ls route r = back_by rs ls route r r

-- there is no word left; or there is one, and those from `next` on are behind it
pub data NextOn (rs : List ℕ) (ls : List ℤ) (route : List ℕ) (link : ℕ) (x : Word) : Type 0 where
  ended : x.word ≡ pos 0 → back_along rs ls route link ≡ [] → NextOn rs ls route link x
  a_word : nonzero x.word ≡ true → x.next < link → back_along rs ls route link ≡ x.word ∷ back_along rs ls route x.next → NextOn rs ls route link x

-- all but the newest n
pub record Skipped (rs : List ℕ) (ls : List ℤ) (route : List ℕ) (link n r : ℕ) : Type 0 where
  pub low : r ≤ link
  pub rest : back_along rs ls route r ≡ drop n (back_along rs ls route link)

-- words given newest first stand oldest first in front, n of them, and the rest is as it was
pub record WordsWritten (back : List ℤ) (n : ℕ) (ws ws' : List ℤ) : Type 0 where
  pub first : take n ws' ≡ reverse back
  pub rest : drop n ws' ≡ drop n ws
