-- Several stores side by side (`sets` of the library). Assumes nothing.
use Rattle.std.specs.Prelude.{◌≡◌, refl, ◌⊎◌, ℕ, zero, suc, ◌+◌, ◌≤◌, ◌<◌, List, [], ◌∷◌, length, get_or, set}
use Rattle.std.proofs.Common.{ap, ◌∙◌, inl, inr, arith, add-zero, length-set, get_or-set_same, get_or-set_other}
use Rattle.std.proofs.lemmas.List.Edits.{sets}

module _ {A : Type 0} where
  -- outside the places written
  pub sets_off : (vs l : List A) (i j : ℕ) (d : A) → (j < i) ⊎ (i + length vs ≤ j) → get_or (sets l i vs) j d ≡ get_or l j d
  sets_off [] l i j d h = refl
  sets_off (v ∷ vs) l i j d (inl h) = sets_off vs (set l i v) (suc i) j d (inl (omega arith)) ∙ get_or-set_other l i j v d (λ e. omega arith)
  sets_off (v ∷ vs) l i j d (inr h) = sets_off vs (set l i v) (suc i) j d (inr (omega arith)) ∙ get_or-set_other l i j v d (λ e. omega arith)

  -- at the j-th of them
  pub sets_on : (vs l : List A) (i j : ℕ) (d : A) → j < length vs → i + length vs ≤ length l → get_or (sets l i vs) (i + j) d ≡ get_or vs j d
  sets_on [] l i j d h f = absurd (omega arith)
  sets_on (v ∷ vs) l i zero d h f = rw (add-zero i) (sets_off vs (set l i v) (suc i) i d (inl (omega arith)) ∙ get_or-set_same l i v d (omega arith))
  sets_on (v ∷ vs) l i (suc j) d h f =
      let e : i + suc j ≡ suc i + j = omega arith in
      rw e (sets_on vs (set l i v) (suc i) j d (omega arith) (rw (length-set l i v) (omega arith)))

  -- at the first of them
  pub sets_first : (vs l : List A) (i : ℕ) (d : A) → 0 < length vs → i + length vs ≤ length l → get_or (sets l i vs) i d ≡ get_or vs 0 d
  sets_first vs l i d h f = ap (λ (k : ℕ). get_or (sets l i vs) k d) (omega arith) ∙ sets_on vs l i 0 d h f
