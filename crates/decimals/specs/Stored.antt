-- Parts stored one behind the other. Assumes nothing.
use Rattle.std.specs.Prelude.{◌≡◌, refl, ℕ, ◌+◌, ◌≤◌, List, ◌++◌, length, take, drop}
use Rattle.std.proofs.Common.{sym, ◌∙◌, arith, length-append, take_at}
use Rattle.std.proofs.lemmas.List.Edits.{sets, sets-eq}
use Rattle.lists.specs.Parts.{sets_append}

-- a part was stored from a place on, and `next` is the place behind it
pub record Stored (out : List ℕ) (at : ℕ) (part : List ℕ) (next : ℕ) (left : List ℕ) : Type 0 where
  pub behind : next ≡ at + length part
  pub written : left ≡ sets out at part

-- and another behind it
pub stored_more : {out l k : List ℕ} {at n m : ℕ} (xs ys : List ℕ) → Stored out at xs n l → Stored l n ys m k → Stored out at (xs ++ ys) m k
stored_more {out} {l} {k} {at} {n} {m} xs ys a b =
    record { behind = simp length-append (omega (arith, a.behind, b.behind)); written = b.written ∙ rw (a.written, a.behind) (sym (sets_append out at xs ys)) }

-- what was stored from the start on is there
pub stored_front : {out left : List ℕ} {n : ℕ} (xs : List ℕ) → Stored out 0 xs n left → length xs ≤ length out → take n left ≡ xs
stored_front {out} {left} {n} xs a h =
    let e : n ≡ length xs = omega (arith, a.behind) in
    rw (e, a.written, sets-eq xs out 0 (omega arith)) (take_at xs _ (length xs) refl)

-- and the rest is as it was
pub stored_start : {out left : List ℕ} {n : ℕ} (xs : List ℕ) → Stored out 0 xs n left → length xs ≤ length out → left ≡ xs ++ drop (length xs) out
stored_start {out} xs a h = let e : 0 + length xs ≡ length xs = omega arith in a.written ∙ (rw e at (sets-eq xs out 0 (omega arith)))
