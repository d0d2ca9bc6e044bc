-- Of each record's history: the keys of its readings, the first record from it down that has a word or is a join, and its newest join.
use Rattle.std.specs.Prelude.{◌≡◌, ℕ, zero, suc, ◌+◌, ◌-◌, ◌*◌, ◌≤◌, ◌<◌, Bool, true, false, ◌||◌, cond, List, ℤ, length, get_or}
use Rattle.model.specs.Basics.{nonzero}
use Rattle.records.specs.Layout.{prev_at, word_at}
use Rattle.histories.specs.Reading.{is_join_at, EndIs, KeyIs}

-- ---- the table: record number k + 1 stands at k, and 0 is no record

unfoldable pub key_at : List ℕ → (to_join_lem : Bool) → (r : ℕ) → ℕ
key_at hs to_join_lem zero = 0
key_at hs to_join_lem (suc k) = get_or hs (k * 2 + cond to_join_lem 1 0) 0

unfoldable pub skip_at : List ℕ → (r : ℕ) → ℕ
skip_at cs zero = 0
skip_at cs (suc k) = get_or cs (k * 2) 0

unfoldable pub join_at : List ℕ → (r : ℕ) → ℕ
join_at cs zero = 0
join_at cs (suc k) = get_or cs (k * 2 + 1) 0

-- where a reading of record r's history ends
abbrev pub end_at : List ℕ → (to_join_lem : Bool) → (r : ℕ) → ℕ
end_at cs to_join_lem r = cond to_join_lem (join_at cs r) 0

-- ---- what it says

-- whether record k + 1 has a word or is a join
abbrev pub tells_at : List ℕ → List ℤ → ℕ → Bool
tells_at rs ls k = nonzero (word_at ls k) || is_join_at rs ls k

-- no record from r down to q has a word or is a join, q itself apart
pub data Quiet (rs : List ℕ) (ls : List ℤ) : (r q : ℕ) → Type 0 where
  here : (r : ℕ) → Quiet rs ls r r
  down : (k q : ℕ) → tells_at rs ls k ≡ false → Quiet rs ls (prev_at rs k) q → Quiet rs ls (suc k) q

-- the first record from r down that has a word or is a join, 0 for none
pub record SkipOf (rs : List ℕ) (ls : List ℤ) (r q : ℕ) : Type 0 where
  pub low : q ≤ r
  pub quiet : Quiet rs ls r q
  pub tells : 0 < q → tells_at rs ls (q - 1) ≡ true

-- of the first k of n records
pub record Keys (rs : List ℕ) (ls : List ℤ) (n k : ℕ) (hs : List ℕ) : Type 0 where
  pub room : n * 2 ≤ length hs
  pub each : (to_join_lem : Bool) (r : ℕ) → r ≤ k → KeyIs rs ls n r to_join_lem (key_at hs to_join_lem r)

pub record Skips (rs : List ℕ) (ls : List ℤ) (n k : ℕ) (cs : List ℕ) : Type 0 where
  pub room : n * 2 ≤ length cs
  pub skips : (r : ℕ) → r ≤ k → SkipOf rs ls r (skip_at cs r)
  pub joins : (r : ℕ) → r ≤ k → EndIs rs ls n r true (join_at cs r)

pub record SummedTo (rs : List ℕ) (ls : List ℤ) (n k : ℕ) (hs cs : List ℕ) : Type 0 where
  pub keys : Keys rs ls n k hs
  pub skips : Skips rs ls n k cs

-- of all n
abbrev pub Summed : (rs : List ℕ) → (ls : List ℤ) → (n : ℕ) → (hs cs : List ℕ) → Type 0
Summed rs ls n hs cs = SummedTo rs ls n n hs cs
