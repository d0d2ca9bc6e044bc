-- Laws of the sizes of paths together. Assumes nothing.
use Rattle.std.specs.Prelude.{◌≡◌, refl, ℕ, ◌+◌, ◌≤◌, ◌<◌, List, [], ◌∷◌, ◌++◌, ℤ, length, get_or, take, Float}
use Rattle.std.proofs.Common.{sym, ◌∙◌, ap, ap₂, arith, add-one, take-suc}
use Rattle.std.proofs.lemmas.List.{map-append}
use Rattle.lists.specs.Tests.{below_more}
use Rattle.traceback.specs.declared.Size.{Size}
use Rattle.traceback.specs.Chain.{SizeIs}
use Rattle.traceback.specs.Answers.{told_by}
use Rattle.readings.specs.Paths.{trail_at, tolds_of, words_in, phones_in, TotalIs, size_by}
use Rattle.readings.specs.Fronts.{words-sum, phones-sum}

-- one state more
pub told_more : (tk rs : List ℕ) (ls : List ℤ) (b n : ℕ) (order : List ℕ) (cost : ℕ → Float) (i : ℕ) → i < length order
    → tolds_of tk rs ls b n cost (take (i + 1) order) ≡ tolds_of tk rs ls b n cost (take i order) ++ told_by (trail_at tk rs ls b n (get_or order i 0)) (cost (get_or order i 0)) ∷ []
told_more tk rs ls b n order cost i l =
    ap (λ (k : ℕ). tolds_of tk rs ls b n cost (take k order)) (add-one i) ∙ ap (tolds_of tk rs ls b n cost) (take-suc order i 0 l)
    ∙ map-append (λ (s : ℕ). told_by (trail_at tk rs ls b n s) (cost s)) (take i order) (get_or order i 0 ∷ [])

module _ {tk rs : List ℕ} {ls : List ℤ} {b used n : ℕ} {order : List ℕ} where
  pub total_none : TotalIs tk rs ls b used n order 0 (size_by 0 0)
  total_none = record { words = λ cost. (go cost order).0; segments = λ cost. (go cost order).1; few = (omega arith, omega arith); sized = λ i l. absurd (omega arith) }
    where
      go : (cost : ℕ → Float) (xs : List ℕ) → (0 ≡ words_in (tolds_of tk rs ls b n cost (take 0 xs))) × (0 ≡ phones_in (tolds_of tk rs ls b n cost (take 0 xs)))
      go cost [] = (refl, refl)
      go cost (x ∷ xs) = (refl, refl)

  pub total_next : {i : ℕ} {z y : Size} → TotalIs tk rs ls b used n order i z → i < length order → used ≤ 1_048_576 → SizeIs (trail_at tk rs ls b n (get_or order i 0)) used y
      → TotalIs tk rs ls b used n order (i + 1) (size_by (z.words + y.words) (z.segments + y.segments))
  total_next {i} {z} {y} t l u q =
      record {
        words = λ cost. ap₂ (λ (a c : ℕ). a + c) (t.words cost) q.words ∙ sym (words-sum _ (tolds_of tk rs ls b n cost (take i order))) ∙ ap words_in (sym (told_more tk rs ls b n order cost i l));
        segments = λ cost. ap₂ (λ (a c : ℕ). a + c) (t.segments cost) q.segments ∙ sym (phones-sum _ (tolds_of tk rs ls b n cost (take i order))) ∙ ap phones_in (sym (told_more tk rs ls b n order cost i l));
        few = (let a = t.few.0 in let c = q.few.0 in omega arith, let a = t.few.1 in let c = q.few.1 in omega arith);
        sized = below_more (λ (j : ℕ). (x : Size) × SizeIs (trail_at tk rs ls b n (get_or order j 0)) used x) i t.sized (y, q);
      }
