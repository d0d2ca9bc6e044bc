-- Tables of tokens by place: what stands at a state, before and after a token is put there. Assumes nothing.
use Rattle.std.specs.Prelude.{◌≡◌, ℕ, suc, [], ◌∷◌, get_or}
use Rattle.std.proofs.Math.Option.{none, some}
use Rattle.model.specs.Path.{Token, Table}

-- state s is active, with this token
abbrev pub At : Table → (s : ℕ) → Token → Type 0
At ts s t = get_or ts s none ≡ some t

-- ---- how many states are not active

abbrev pub vacant : Table → ℕ
vacant [] = 0
vacant (none ∷ ts) = suc (vacant ts)
vacant (some t ∷ ts) = vacant ts
