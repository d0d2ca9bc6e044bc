-- The table, read. Assumes nothing.
use mathlib.Core.Path.{◌≡◌, refl, sym, ap}
use Prim.Native.Nat.{ℕ, zero, suc, ◌+◌, ◌-◌, ◌*◌}
use native.Mathlib.Omega.{arith}
use mathlib.Core.Bool.{Bool, true, false}
use mathlib.Core.List.{List}
use lib.ListN.{get_or}
use Rattle.summaries.specs.Summed.{key_at, skip_at, join_at}

pub key_0 : (hs : List ℕ) (j : Bool) (r : ℕ) → r ≡ 0 → 0 ≡ key_at hs j r
unfolding key_at
key_0 hs j r e = ap (key_at hs j) (sym e)

pub key_join : (hs : List ℕ) (j : Bool) (r : ℕ) → (r ≡ 0 → ⊥) → j ≡ true → get_or hs ((r - 1) * 2 + 1) 0 ≡ key_at hs j r
unfolding key_at
key_join hs j zero d e = absurd (d refl)
key_join hs j (suc k) d e = rw e (ap (λ (i : ℕ). get_or hs i 0) (omega arith))

pub key_whole : (hs : List ℕ) (j : Bool) (r : ℕ) → (r ≡ 0 → ⊥) → j ≡ false → get_or hs ((r - 1) * 2) 0 ≡ key_at hs j r
unfolding key_at
key_whole hs j zero d e = absurd (d refl)
key_whole hs j (suc k) d e = rw e (ap (λ (i : ℕ). get_or hs i 0) (omega arith))

pub skip_0 : (cs : List ℕ) (r : ℕ) → r ≡ 0 → 0 ≡ skip_at cs r
unfolding skip_at
skip_0 cs r e = ap (skip_at cs) (sym e)

pub skip_some : (cs : List ℕ) (r : ℕ) → (r ≡ 0 → ⊥) → get_or cs ((r - 1) * 2) 0 ≡ skip_at cs r
unfolding skip_at
skip_some cs zero d = absurd (d refl)
skip_some cs (suc k) d = ap (λ (j : ℕ). get_or cs j 0) (omega arith)

pub join_0 : (cs : List ℕ) (r : ℕ) → r ≡ 0 → 0 ≡ join_at cs r
unfolding join_at
join_0 cs r e = ap (join_at cs) (sym e)

pub join_some : (cs : List ℕ) (r : ℕ) → (r ≡ 0 → ⊥) → get_or cs ((r - 1) * 2 + 1) 0 ≡ join_at cs r
unfolding join_at
join_some cs zero d = absurd (d refl)
join_some cs (suc k) d = ap (λ (j : ℕ). get_or cs j 0) (omega arith)
