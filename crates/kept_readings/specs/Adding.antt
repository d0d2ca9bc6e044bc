-- Adding to the map, of lists. Assumes nothing.
use Rattle.std.specs.Prelude.{◌≡◌, ℕ, zero, suc, ◌+◌, ◌<◌, ◌≤◌, Bool, true, false, cond, List, [], ◌∷◌, ◌++◌, map, length, ◌≢◌, refl}
use Rattle.std.proofs.Common.{sym, ap, ap₂, subst, arith}
use Rattle.lists.specs.Lists.{range}
use Rattle.lists.specs.Tests.{case, eq_or_not}
use Rattle.kept_readings.specs.Kept.{add_to, all_from}

module _ {A : Type 0} (same sooner : A → A → Bool) where
  -- no list shrinks
  add_length : (k : A) (xs : List A) → length xs ≤ length (add_to same sooner k xs)
  add_length k [] = omega arith
  add_length k (x ∷ xs) = go (same k x) (add_length k xs)
    where
      go : (b : Bool) → length xs ≤ length (add_to same sooner k xs) → suc (length xs) ≤ length (cond b (cond (sooner k x) k x ∷ xs) (x ∷ add_to same sooner k xs))
      go true l = omega arith
      go false l = omega arith

  pub all-length : (xs ks : List A) → length xs ≤ length (all_from same sooner xs ks)
  all-length xs [] = omega arith
  all-length xs (k ∷ ks) = let a = add_length k xs in let b = all-length (add_to same sooner k xs) ks in omega arith

  pub all_then : (xs ks ls : List A) → all_from same sooner xs (ks ++ ls) ≡ all_from same sooner (all_from same sooner xs ks) ls
  all_then xs [] ls = refl
  all_then xs (k ∷ ks) ls = all_then (add_to same sooner k xs) ks ls

  -- one more, of a list that is given by places
  module _ (k : A) (f : ℕ → A) where
    pub add_new : (a n : ℕ) → ((i : ℕ) → a ≤ i → i < a + n → same k (f i) ≡ false) → add_to same sooner k (map f (range a n)) ≡ map f (range a n) ++ k ∷ []
    add_new a zero d = refl
    add_new a (suc n) d = rw (d a (omega arith) (omega arith)) (ap (λ (l : List A). f a ∷ l) (add_new (suc a) n (λ i l u. d i (omega arith) (omega arith))))

    pub add_same : (g : ℕ → A) (a n p : ℕ) → a ≤ p → p < a + n → ((i : ℕ) → a ≤ i → i < p → same k (f i) ≡ false) → same k (f p) ≡ true → g p ≡ cond (sooner k (f p)) k (f p) → ((i : ℕ) → (i ≢ p) → g i ≡ f i)
        → add_to same sooner k (map f (range a n)) ≡ map g (range a n)
    add_same g a zero p l u d e s o = absurd (omega arith)
    add_same g a (suc n) p l u d e s o =
        case (eq_or_not a p)
        (λ q. rw (subst (λ (i : ℕ). same k (f i) ≡ true) (sym q) e)
        (ap₂ (λ (x : A) (l : List A). x ∷ l) (sym (subst (λ (i : ℕ). g i ≡ cond (sooner k (f i)) k (f i)) (sym q) s)) (sym (maps_alike g (suc a) n (λ i w. o i (λ z. omega arith))))))
        (λ q. rw (d a (omega arith) (omega arith)) (ap₂ (λ (x : A) (l : List A). x ∷ l) (sym (o a q)) (add_same g (suc a) n p (omega arith) (omega arith) (λ i w v. d i (omega arith) v) e s o)))
      where
        maps_alike : (g : ℕ → A) (a n : ℕ) → ((i : ℕ) → a ≤ i → g i ≡ f i) → map g (range a n) ≡ map f (range a n)
        maps_alike g a zero e = refl
        maps_alike g a (suc n) e = ap₂ (λ (x : A) (l : List A). x ∷ l) (e a (omega arith)) (maps_alike g (suc a) n (λ i l. e i (omega arith)))
