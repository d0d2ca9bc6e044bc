-- Which records are live, and what marking leaves. A record's mark is the scratch number of its layout.
use Rattle.std.specs.Prelude.{◌≡◌, ◌⊎◌, ℕ, zero, suc, ◌-◌, ◌*◌, ◌≤◌, ◌<◌, List, ℤ, length, Float}
use Rattle.tokens.specs.Layout.{held_at}
use Rattle.records.specs.Layout.{store, rec_at, prev_at, kept_at, mark_at}

-- The mark of record r, which is its new number in the end. 0 is no record.
unfoldable pub new_of : List ℕ → (r : ℕ) → ℕ
new_of rs zero = 0
new_of rs (suc k) = mark_at rs k

abbrev pub Marked : List ℕ → (r : ℕ) → Type 0
Marked rs r = 0 < new_of rs r

-- ---- the roots, and what they reach

-- a record that one of the first n token places holds
abbrev pub Held : (tk : List ℕ) → (n : ℕ) → ℕ → Type 0
Held tk n r = (p : ℕ) × (p < n) × (held_at tk p ≡ suc r)

-- the roots: the records that the tokens hold, and the one in hand
abbrev pub Root : (tk : List ℕ) → (places x : ℕ) → ℕ → Type 0
Root tk places x r = Held tk places r ⊎ (r ≡ x)

-- reached, through `prev` or a kept history, from a root
pub data Reach (rs : List ℕ) (used : ℕ) (R : ℕ → Type 0) : ℕ → Type 0 where
  from_root : {r : ℕ} → R r → Reach rs used R r
  through_prev : (k : ℕ) → k < used → Reach rs used R (suc k) → Reach rs used R (prev_at rs k)
  through_kept : (k : ℕ) → k < used → Reach rs used R (suc k) → Reach rs used R (kept_at rs k)

-- ---- marking

-- What marking asks: records name lower ones, and the tokens and the hand hold records.
pub record Rooted (rs tk : List ℕ) (places used x : ℕ) : Type 0 where
  pub room : used * 8 ≤ length rs
  pub prev_low : (k : ℕ) → k < used → prev_at rs k ≤ k
  pub kept_low : (k : ℕ) → k < used → kept_at rs k ≤ k
  pub tokens : places * 4 ≤ length tk
  pub held : (p : ℕ) → p < places → held_at tk p ≤ suc used
  pub number : x ≤ used

-- only marks differ
abbrev pub SameRecords : (rs rs' : List ℕ) → Type 0
SameRecords rs rs' = (ls : List ℤ) (gs : List Float) (k : ℕ) → rec_at (store rs' ls gs) k ≡ rec_at (store rs ls gs) k

pub record Cleared (rs rs' : List ℕ) (n : ℕ) : Type 0 where
  pub same : SameRecords rs rs'
  pub none : (r : ℕ) → r ≤ n → new_of rs' r ≡ 0

-- marks put on the records of P, and on no other
pub record MarksPut (P : ℕ → Type 0) (rs rs' : List ℕ) : Type 0 where
  pub same : SameRecords rs rs'
  pub old : (r : ℕ) → Marked rs r → Marked rs' r
  pub new : (r : ℕ) → 0 < r → P r → Marked rs' r
  pub only : (r : ℕ) → Marked rs' r → Marked rs r ⊎ P r

-- what record r names, where it is marked
abbrev pub Named : List ℕ → (r : ℕ) → ℕ → Type 0
Named rs r j = Marked rs r × ((j ≡ prev_at rs (r - 1)) ⊎ (j ≡ kept_at rs (r - 1)))

-- marked if and only if reached from a root
pub record LiveMarked (R : ℕ → Type 0) (rs rs' : List ℕ) (used : ℕ) : Type 0 where
  pub same : SameRecords rs rs'
  pub only : (r : ℕ) → r ≤ used → Marked rs' r → Reach rs used R r
  pub all : (r : ℕ) → 0 < r → r ≤ used → Reach rs used R r → Marked rs' r
