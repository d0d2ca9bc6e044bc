-- Limits tell the places for records: a store is full at just so many. Assumes nothing.
use Rattle.std.specs.Prelude.{◌≡◌, refl, ℕ, zero, suc, ◌≤◌, ◌<◌, Bool, true, false, not, List, [], ◌∷◌, ◌++◌, eqb, ltb, pos, length}
use Rattle.std.proofs.Common.{sym, ap, ◌∙◌, arith, ne_eqb, lt-ltb, le-ltb}
use mathlib.Core.List.Memᴰ.{head as here}
use mathlib.Core.List.Memᴰ.{tail as there}
use Rattle.lists.specs.Lists.{◌∈◌, any, firsts}
use Rattle.lists.specs.Tests.{case, lt_or_le, never}
use Rattle.model.specs.Basics.{0f}
use Rattle.model.specs.Path.{Path, empty_path, branch_on, records, live, Limits, full_at}
use Rattle.decoder.specs.Represents.{LimitsAre}

-- a path with n records
abbrev deep : ℕ → Path
deep zero = empty_path
deep (suc n) = branch_on (record { number = n; frame = 0; phone = pos 0; kept_phone = pos 0; cost = 0f; graph = 0f }) empty_path (deep n)

none_is : (n : ℕ) (seen : List ℕ) → ((k : ℕ) → k ∈ seen → n < k) → any (eqb n) seen ≡ false
none_is n [] f = refl
none_is n (k ∷ seen) f = rw (ne_eqb n k (λ e. let z = f k (here refl) in omega arith)) (none_is n seen (λ j i. f j (there i)))

-- the numbers below n
abbrev down : ℕ → List ℕ
down zero = []
down (suc n) = n ∷ down n

deep_records : (n : ℕ) → records (deep n) ++ [] ≡ down n
unfolding records
deep_records zero = refl
deep_records (suc n) = ap (λ (ns : List ℕ). n ∷ ns) (deep_records n)

new_first : (b : Bool) (xs ys : List ℕ) → b ≡ false → length {A = ℕ} (elim b [ true ↦ xs | false ↦ ys ]) ≡ length ys
new_first true xs ys e = never (sym e)
new_first false xs ys e = refl

down_many : (n : ℕ) (seen : List ℕ) → ((k : ℕ) → k ∈ seen → n ≤ k) → length (firsts eqb seen (down n)) ≡ n
down_many zero seen f = refl
down_many (suc n) seen f = new_first (any (eqb n) seen) (firsts eqb seen (down n)) (n ∷ firsts eqb (n ∷ seen) (down n)) (none_is n seen f) ∙ ap suc (down_many n (n ∷ seen) more)
  where
    more : (k : ℕ) → k ∈ (n ∷ seen) → n ≤ k
    more k (here e) = omega arith
    more k (there i) = let z = f k i in omega arith

deep_full : (cap n : ℕ) → full_at cap (deep n ∷ []) ≡ not (ltb n cap)
unfolding full_at live
deep_full cap n = ap (λ (ns : List ℕ). not (ltb (length (firsts eqb [] ns)) cap)) (deep_records n) ∙ ap (λ (k : ℕ). not (ltb k cap)) (down_many n [] (λ k i. elim i [ ]))

-- a store of fewer places would be full sooner
not_less : {l : Limits} {a b places : ℕ} → LimitsAre l a places → LimitsAre l b places → a < b → ⊥
not_less {l} {a} {b} A B h =
    let e = sym (deep_full a a) ∙ sym (A.full (deep a ∷ [])) ∙ B.full (deep a ∷ []) ∙ deep_full b a in
    never (sym (ap not (lt-ltb a b h)) ∙ sym e ∙ ap not (le-ltb a a (omega arith)))

pub cap_fixed : {l : Limits} {a b places : ℕ} → LimitsAre l a places → LimitsAre l b places → a ≡ b
cap_fixed {l} {a} {b} A B = case (lt_or_le a b) (λ h. absurd (not_less A B h)) (λ h. case (lt_or_le b a) (λ k. absurd (not_less B A k)) (λ k. omega arith))
