-- The numbers that stand in a text. Assumes nothing.
use Rattle.std.specs.Prelude.{ℕ, ◌+◌, ◌-◌, ◌*◌, ◌^◌, Bool, true, false, cond, ◌&&◌, List, [], ◌∷◌, leb, ltb}
use Rattle.decimals.specs.declared.Numbers.{Numbers}

-- a digit's byte
abbrev pub is_digit : ℕ → Bool
is_digit b = leb 48 b && leb b 57

-- a number with one digit more; it stays as it is where it would pass a u32
unfoldable pub grown_by : ℕ → ℕ → ℕ
grown_by n d = cond (ltb (10 * n + d) (2 ^ 32)) (10 * n + d) n

-- no run goes on
abbrev pub outside : Numbers → Numbers
outside s = record { inside = false; first = s.first; second = s.second; third = s.third }

-- a digit goes on with a run, or begins one
abbrev pub with_digit : Bool → Numbers → ℕ → Numbers
with_digit true s d = record { inside = true; first = s.first; second = s.second; third = grown_by s.third d }
with_digit false s d = record { inside = true; first = s.second; second = s.third; third = d }

unfoldable pub next_of : Numbers → ℕ → Numbers
next_of s b = cond (is_digit b) (with_digit s.inside s (b - 48)) (outside s)

unfoldable pub numbers_from : Numbers → List ℕ → Numbers
numbers_from s [] = s
numbers_from s (b ∷ bs) = numbers_from (next_of s b) bs

abbrev pub none : Numbers
none = record { inside = false; first = 0; second = 0; third = 0 }

-- the last three runs of digits, in order
abbrev pub numbers_in : List ℕ → Numbers
numbers_in bs = numbers_from none bs
