-- Offsets that run from 0 to the arc count: what the loop over them finds. Assumes nothing.
use mathlib.Core.Path.{◌≡◌, refl, sym, ◌∙◌}
use mathlib.Core.Bool.{true, false}
use mathlib.Core.List.{List, [], ◌∷◌}
use Prim.Native.Nat.{ℕ, ◌+◌, ◌<◌, ◌≤◌}
use native.Mathlib.Omega.{arith}
use native.Mathlib.Numerals.{add-one}
use lib.Dec.{eqb}
use lib.ListN.{length, get_or, drop}
use borrow.Author.Tests.{le-leb, lt-leb, eq-eqb, ne_eqb}
use Rattle.lists.specs.Tests.{never}
use Rattle.fst.proofs.Walk.{at_end, in_turn}
use Rattle.model.specs.Graph.{runs, runs_from0}
use Rattle.model.proofs.Checked.{offsets_run}

module _ (e : ℕ) (xs : List ℕ) where
  pub no_offsets : length xs ≡ 0 → false ≡ runs_from0 e xs
  no_offsets = go xs
    where
      go : (xs : List ℕ) → length xs ≡ 0 → false ≡ runs_from0 e xs
      go [] h = refl
      go (x ∷ xs) h = absurd (omega arith)

  pub not_from_0 : (get_or xs 0 0 ≡ 0 → ⊥) → false ≡ runs_from0 e xs
  not_from_0 = go xs
    where
      go : (xs : List ℕ) → (get_or xs 0 0 ≡ 0 → ⊥) → false ≡ runs_from0 e xs
      go [] h = refl
      go (x ∷ xs) h = simp (ne_eqb x 0 h)

  pub from_0 : (length xs ≡ 0 → ⊥) → get_or xs 0 0 ≡ 0 → runs_from0 e xs ≡ runs 0 e xs
  from_0 = go xs
    where
      go : (xs : List ℕ) → (length xs ≡ 0 → ⊥) → get_or xs 0 0 ≡ 0 → runs_from0 e xs ≡ runs 0 e xs
      go [] l h = absurd (l refl)
      go (x ∷ xs) l h = simp (eq-eqb x 0 h, le-leb 0 x (omega arith))

  -- the loop stands at offset i, the one before is a
  module _ (a i : ℕ) (so_far : runs_from0 e xs ≡ runs a e (drop i xs)) where
    pub ends : i ≡ length xs → eqb a e ≡ runs_from0 e xs
    ends h = sym (at_end (runs_from0 e xs) (runs a e) xs i so_far h)

    module _ (h : i < length xs) where
      pub falls : get_or xs i 0 < a → false ≡ runs_from0 e xs
      falls l = sym (in_turn (runs_from0 e xs) (runs a e) xs i so_far 0 h ∙ simp (lt-leb a (get_or xs i 0) l))

      pub goes_on_lem : a ≤ get_or xs i 0 → runs_from0 e xs ≡ runs (get_or xs i 0) e (drop (i + 1) xs)
      goes_on_lem l = rw add-one (in_turn (runs_from0 e xs) (runs a e) xs i so_far 0 h ∙ simp (le-leb a (get_or xs i 0) l))

-- ---- what offsets that run are

pub some_offset : (e : ℕ) (xs : List ℕ) → runs_from0 e xs ≡ true → 1 ≤ length xs
some_offset e [] t = never t
some_offset e (x ∷ xs) t = omega arith

-- a state's arcs run from a to e, of n in all
pub between : (n : ℕ) (xs : List ℕ) → runs_from0 n xs ≡ true → (s : ℕ) → s + 1 < length xs → {a e : ℕ} → a ≡ get_or xs s 0 → e ≡ get_or xs (s + 1) 0 → (a ≤ e) × (e ≤ n)
between n xs t s h p q =
    let r = offsets_run n xs t in
    let next : get_or xs s 0 ≤ get_or xs (s + 1) 0 = rw add-one (r.1 s (omega arith)) in
    (omega arith, omega (arith, r.0 (s + 1)))
