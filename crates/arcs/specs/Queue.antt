-- The queue in a lent slice: its first numbers, the last in first.
use Rattle.std.specs.Prelude.{◌≡◌, ℕ, ◌+◌, ◌-◌, ◌≤◌, ◌<◌, List, [], ◌∷◌, length, get_or, set}
use Rattle.std.proofs.Common.{sym, ap, ◌∙◌, arith, get_or-set_same, get_or-set_other}

-- the first k numbers of a slice, all below n, the last of them first
abbrev pub Queued : (n : ℕ) → (slice : List ℕ) → (k : ℕ) → (queue : List ℕ) → Type 0
Queued n qs k [] = k ≡ 0
Queued n qs k (s ∷ rest) = (s < n) × (0 < k) × (get_or qs (k - 1) 0 ≡ s) × Queued n qs (k - 1) rest

pub queued-length : (n : ℕ) (qs : List ℕ) (k : ℕ) (q : List ℕ) → Queued n qs k q → length q ≡ k
queued-length n qs k [] e = sym e
queued-length n qs k (s ∷ rest) e = let l = e.1 in let r = queued-length n qs (k - 1) rest e.3 in omega arith

queued_apart : (n : ℕ) (qs : List ℕ) (k : ℕ) (q : List ℕ) (j x : ℕ) → k ≤ j → Queued n qs k q → Queued n (set qs j x) k q
queued_apart n qs k [] j x l e = e
queued_apart n qs k (s ∷ rest) j x l e = let z = e.1 in (e.0, e.1, get_or-set_other qs j (k - 1) x 0 (λ d. omega arith) ∙ e.2, queued_apart n qs (k - 1) rest j x (omega arith) e.3)

-- a state put on
pub queued_put : (n : ℕ) (qs : List ℕ) (k : ℕ) (q : List ℕ) (s : ℕ) → s < n → k < length qs → Queued n qs k q → Queued n (set qs k s) (k + 1) (s ∷ q)
queued_put n qs k q s l h e =
    let back : k + 1 - 1 ≡ k = omega arith in
    (l, omega arith, ap (λ (i : ℕ). get_or (set qs k s) i 0) back ∙ get_or-set_same qs k s 0 h, rw back (queued_apart n qs k q k s (omega arith) e))
