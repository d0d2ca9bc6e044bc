-- Tables of tokens by place: what stands at a state, before and after a token is put there. Assumes nothing.
use Rattle.std.specs.Prelude.{◌≡◌, refl, ◌⊎◌, ◌≢◌, ℕ, zero, suc, ◌<◌, ◌≤◌, [], ◌∷◌, length, get_or, set, replicate}
use Rattle.std.proofs.Common.{sym, ap, ◌∙◌, subst, inl, inr, arith, get_or-set_same, get_or-set_other}
use Rattle.std.proofs.Math.Option.{none, some}
use Rattle.lists.specs.Tests.{case}
use Rattle.model.specs.Path.{Token, Table}
use Rattle.copy_laws.specs.Tables.{At, vacant}

pub none≢some : {A : Type 0} (t : Token) → none ≡ some t → A
none≢some t e = let z : ◌≡◌ {A = ℕ} 0 1 = cc in absurd (omega arith)

pub some_same : (t u : Token) → some t ≡ some u → t ≡ u
some_same t u e = cc

pub at_one : (ts : Table) (s : ℕ) (t u : Token) → At ts s t → At ts s u → t ≡ u
at_one ts s t u p q = some_same t u (sym p ∙ q)

pub at_length : (ts : Table) (s : ℕ) (t : Token) → At ts s t → s < length ts
at_length [] s t e = none≢some t e
at_length (o ∷ ts) zero t e = omega arith
at_length (o ∷ ts) (suc s) t e = let z = at_length ts s t e in omega arith

-- no state is active
pub at_none : (n s : ℕ) (t : Token) {A : Type 0} → At (replicate n none) s t → A
at_none zero s t e = none≢some t e
at_none (suc n) zero t e = none≢some t e
at_none (suc n) (suc s) t e = at_none n s t e

-- ---- a token is put at i

pub at_set : (ts : Table) (i : ℕ) (u : Token) (s : ℕ) (t : Token) → At (set ts i (some u)) s t → ((s ≡ i) × (t ≡ u)) ⊎ ((s ≢ i) × At ts s t)
at_set [] i u s t e = none≢some t e
at_set (o ∷ ts) zero u zero t e = inl (refl, some_same t u (sym e))
at_set (o ∷ ts) zero u (suc s) t e = inr (omega arith, e)
at_set (o ∷ ts) (suc i) u zero t e = inr (omega arith, e)
at_set (o ∷ ts) (suc i) u (suc s) t e = case (at_set ts i u s t e) (λ p. inl (ap suc p.0, p.1)) (λ p. inr (let z = p.0 in omega arith, p.1))

-- what holds of the new token and of the others holds of all
pub at_put : (P : ℕ → Token → Type 0) (ts us : Table) (i : ℕ) (u : Token) → us ≡ set ts i (some u) → P i u → ((s : ℕ) (t : Token) → s ≢ i → At ts s t → P s t) → (s : ℕ) (t : Token) → At us s t → P s t
at_put P ts us i u f p old s t e =
    case (at_set ts i u s t (subst (λ (x : Table). At x s t) f e)) (λ y. subst (λ (k : ℕ). P k t) (sym y.0) (subst (P i) (sym y.1) p)) (λ y. old s t y.0 y.1)

pub at_new : (ts us : Table) (i : ℕ) (u : Token) → us ≡ set ts i (some u) → i < length ts → At us i u
at_new ts us i u f h = ap (λ (x : Table). get_or x i none) f ∙ get_or-set_same ts i (some u) none h

pub at_old : (ts us : Table) (i : ℕ) (u : Token) (s : ℕ) (t : Token) → us ≡ set ts i (some u) → s ≢ i → At ts s t → At us s t
at_old ts us i u s t f d e = ap (λ (x : Table). get_or x s none) f ∙ get_or-set_other ts i s (some u) none d ∙ e

pub vacant_le : (ts : Table) → vacant ts ≤ length ts
vacant_le [] = omega arith
vacant_le (none ∷ ts) = let z = vacant_le ts in omega arith
vacant_le (some t ∷ ts) = let z = vacant_le ts in omega arith

pub vacant_none : (n : ℕ) → vacant (replicate n none) ≡ n
vacant_none zero = refl
vacant_none (suc n) = ap suc (vacant_none n)

pub vacant_fill : (ts : Table) (i : ℕ) (u : Token) → i < length ts → get_or ts i none ≡ none → suc (vacant (set ts i (some u))) ≡ vacant ts
vacant_fill [] i u h e = absurd (omega arith)
vacant_fill (none ∷ ts) zero u h e = refl
vacant_fill (some t ∷ ts) zero u h e = none≢some t (sym e)
vacant_fill (none ∷ ts) (suc i) u h e = ap suc (vacant_fill ts i u (omega arith) e)
vacant_fill (some t ∷ ts) (suc i) u h e = vacant_fill ts i u (omega arith) e

pub vacant_same : (ts : Table) (i : ℕ) (t u : Token) → At ts i t → vacant (set ts i (some u)) ≡ vacant ts
vacant_same [] i t u e = none≢some t e
vacant_same (none ∷ ts) zero t u e = none≢some t e
vacant_same (some x ∷ ts) zero t u e = refl
vacant_same (none ∷ ts) (suc i) t u e = ap suc (vacant_same ts i t u e)
vacant_same (some x ∷ ts) (suc i) t u e = vacant_same ts i t u e
