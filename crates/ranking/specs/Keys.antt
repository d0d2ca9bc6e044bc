-- The key of a token that counts: to compare keys is to compare tokens. Assumes nothing.
use Rattle.std.specs.Prelude.{◌≡◌, ℕ, ◌+◌, ◌-◌, ◌*◌, ◌^◌, ◌<◌, not, ◌&&◌, ◌||◌, T, ltb, eqb, Float}
use Rattle.std.proofs.Common.{arith, lt-ltb, le-ltb, eq-eqb, ne_eqb}
use Rattle.std.specs.Float.{binary32}
use Rattle.std.specs.Float.Ieee.{is_nan, fits}
use Rattle.lists.specs.Tests.{case, lt_or_le}
use Rattle.real32.specs.Rank.{rank}
use Rattle.sorting.specs.Keys.{lt_rank, eq_rank}
use Rattle.traceback.specs.declared.Candidate.{Candidate}
use Rattle.traceback.specs.Ranks.{sooner_of}

-- the rank, and behind it how far the seq is from the largest
abbrev pub key_of_rank : (rank : Float) → (seq : ℕ) → ℕ
key_of_rank x s = rank binary32 x * 2 ^ 32 + (2 ^ 32 - 1 - s)

abbrev pub key_of : Candidate → ℕ
key_of c = key_of_rank c.rank c.seq

-- two numbers in one, the second turned round
in_one : (x y s t : ℕ) → s < 2 ^ 32 → t < 2 ^ 32 → (ltb x y || (eqb x y && ltb t s)) ≡ ltb (x * 2 ^ 32 + (2 ^ 32 - 1 - s)) (y * 2 ^ 32 + (2 ^ 32 - 1 - t))
in_one x y s t a b =
    case (lt_or_le x y) (λ h. rw (lt-ltb x y h, lt-ltb (x * 2 ^ 32 + (2 ^ 32 - 1 - s)) (y * 2 ^ 32 + (2 ^ 32 - 1 - t)) (omega arith)))
    (λ h. case (lt_or_le y x) (λ k. rw (le-ltb x y h, ne_eqb x y (λ e. omega arith), le-ltb (x * 2 ^ 32 + (2 ^ 32 - 1 - s)) (y * 2 ^ 32 + (2 ^ 32 - 1 - t)) (omega arith)))
    (λ k. case (lt_or_le t s) (λ l. rw (le-ltb x y h, eq-eqb x y (omega arith), lt-ltb t s l, lt-ltb (x * 2 ^ 32 + (2 ^ 32 - 1 - s)) (y * 2 ^ 32 + (2 ^ 32 - 1 - t)) (omega arith)))
    (λ l. rw (le-ltb x y h, eq-eqb x y (omega arith), le-ltb t s l, le-ltb (x * 2 ^ 32 + (2 ^ 32 - 1 - s)) (y * 2 ^ 32 + (2 ^ 32 - 1 - t)) (omega arith)))))

-- a candidate with a key
pub record Keyed (c : Candidate) : Type 0 where
  pub rank_fits : T (fits binary32 c.rank)
  pub rank_known : T (not (is_nan c.rank))
  pub seq_fits : c.seq < 2 ^ 32

pub keys_compare : (a b : Candidate) → Keyed a → Keyed b → sooner_of a b ≡ ltb (key_of a) (key_of b)
keys_compare a b h k =
    rw (lt_rank a.rank b.rank h.rank_fits k.rank_fits h.rank_known k.rank_known, eq_rank a.rank b.rank h.rank_fits k.rank_fits h.rank_known k.rank_known)
    (in_one (rank binary32 a.rank) (rank binary32 b.rank) a.seq b.seq h.seq_fits k.seq_fits)
