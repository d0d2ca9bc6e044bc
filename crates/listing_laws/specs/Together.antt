-- The list that is made of both, over what its items stand for: the best own group, and the rest of both that no one of the other beats, sorted. Assumes nothing.
use Rattle.std.specs.Prelude.{◌≡◌, refl, ℕ, Bool, not, ◌&&◌, List, ◌∷◌, ◌++◌, map}
use Rattle.std.proofs.Common.{sym, ap, ap₂, ◌∙◌, subst}
use mathlib.Core.List.Memᴰ.{head as here}
use mathlib.Core.List.Memᴰ.{tail as there}
use Rattle.lists.specs.Lists.{◌∈◌, any, keep_if, sort_by}
use Rattle.lists.specs.Members.{keep_from, map_from}
use Rattle.lists.specs.Order.{Sorted, Strict}
use Rattle.below.specs.Maps.{map_same}
use Rattle.kept_readings.specs.Model.{keep_as}
use Rattle.lists.specs.Merge.{Merges, merge_is, map_merge}
use Rattle.merged.specs.Items.{listed_kept, merged_items}
use Rattle.merged.specs.Left.{kept_stands, own_stands, own_still_left, kept_stands_lem}
use Rattle.listing_laws.specs.Alike.{sorted_keep}
use Rattle.listing_laws.specs.Left.{left_own, left_other}

module _ {C : Type 0} (P : C → Type 0) (before : C → C → Bool) (strict : Strict P before) (alike : C → C → Bool) (p q : ℕ → C) (same first : ℕ → ℕ → Bool) (item : ℕ → C) (o : ℕ) (os ord : List ℕ) where
  -- what the code lists and tests, and what it stands for
  pub record Reads : Type 0 where
    -- an item stands for an own group or for a kept reading
    pub own_item : (s : ℕ) → s ∈ (o ∷ os) → item s ≡ p s
    pub kept_item : (i : ℕ) → i ∈ ord → item (listed_kept i) ≡ q i
    -- the tests of the code
    pub same_is : (s i : ℕ) → s ∈ (o ∷ os) → i ∈ ord → alike (p s) (q i) ≡ same i s
    pub same_back : (s i : ℕ) → s ∈ (o ∷ os) → i ∈ ord → alike (q i) (p s) ≡ same i s
    pub first_is : (s i : ℕ) → s ∈ os → i ∈ ord → before (q i) (p s) ≡ first i s
    pub first_not : (s i : ℕ) → s ∈ os → i ∈ ord → before (p s) (q i) ≡ not (first i s)
    -- both lists are sorted
    pub own_in : (s : ℕ) → s ∈ os → P (p s)
    pub kept_in : (i : ℕ) → i ∈ ord → P (q i)
    pub own_sorted : Sorted before (map p os)
    pub kept_sorted : Sorted before (map q ord)

  abbrev beats : List C → C → Bool
  beats ds c = any (λ (d : C). alike c d && before d c) ds

  module _ (R : Reads) where
    own_among : (s : ℕ) → s ∈ keep_if (own_stands same first ord) os → s ∈ os
    own_among s m = keep_from (own_stands same first ord) os s m

    kept_among : (i : ℕ) → i ∈ keep_if (kept_stands same first (o ∷ os)) ord → i ∈ ord
    kept_among i m = keep_from (kept_stands same first (o ∷ os)) ord i m

    own_images : map item (keep_if (own_stands same first ord) os) ≡ map p (keep_if (own_stands same first ord) os)
    own_images = map_same item p (keep_if (own_stands same first ord) os) (λ s m. R.own_item s (there (own_among s m)))

    kept_images : map (λ (i : ℕ). item (listed_kept i)) (keep_if (kept_stands same first (o ∷ os)) ord) ≡ map q (keep_if (kept_stands same first (o ∷ os)) ord)
    kept_images = map_same (λ (i : ℕ). item (listed_kept i)) q (keep_if (kept_stands same first (o ∷ os)) ord) (λ i m. R.kept_item i (kept_among i m))

    merges : Merges P before strict first item (λ (i : ℕ). item (listed_kept i)) (keep_if (own_stands same first ord) os) (keep_if (kept_stands same first (o ∷ os)) ord)
    merges =
        record {
          xs_in = λ z m. let (s, i, e) = map_from item (keep_if (own_stands same first ord) os) z m in subst P (sym (e ∙ R.own_item s (there (own_among s i)))) (R.own_in s (own_among s i));
          ys_in = λ z m. let (j, i, e) = map_from (λ (i : ℕ). item (listed_kept i)) (keep_if (kept_stands same first (o ∷ os)) ord) z m in subst P (sym (e ∙ R.kept_item j (kept_among j i))) (R.kept_in j (kept_among j i));
          xs_sorted = subst (Sorted before) (sym own_images) (sorted_keep before p (own_stands same first ord) os R.own_sorted);
          ys_sorted = subst (Sorted before) (sym kept_images) (sorted_keep before q (kept_stands same first (o ∷ os)) ord R.kept_sorted);
          agree = λ s m i k. sym (ap₂ before (R.kept_item i (kept_among i k)) (R.own_item s (there (own_among s m))) ∙ R.first_is s i (own_among s m) (kept_among i k));
        }

    -- of the kept readings those with other words than the best group
    other_words : keep_if (λ (c : C). not (alike c (p o))) (map q ord) ≡ map q (keep_if (λ (i : ℕ). not (same i o)) ord)
    other_words = sym (keep_as q (λ (i : ℕ). not (same i o)) (λ (c : C). not (alike c (p o))) ord (λ i m. ap not (sym (R.same_back o i (here refl) m))))

    -- what the code merges stands for this list
    pub together : map item (merged_items first (own_still_left same first ord (o ∷ os)) (keep_if (kept_stands same first (o ∷ os)) ord))
        ≡ p o ∷ sort_by before (keep_if (λ (c : C). not (beats (map q ord) c)) (map p os) ++ keep_if (λ (c : C). not (beats (map p os) c)) (keep_if (λ (c : C). not (alike c (p o))) (map q ord)))
    together =
        let same-os : (s i : ℕ) → s ∈ os → i ∈ ord → alike (p s) (q i) ≡ same i s = λ s i m k. R.same_is s i (there m) k in
        let back-os : (s i : ℕ) → s ∈ os → i ∈ ord → alike (q i) (p s) ≡ same i s = λ s i m k. R.same_back s i (there m) k in
        ap₂ (λ (c : C) (l : List C). c ∷ l) (R.own_item o (here refl))
        (map_merge first (λ s. s) listed_kept item (keep_if (own_stands same first ord) os) (keep_if (kept_stands same first (o ∷ os)) ord)
        ∙ merge_is P before strict first item (λ (i : ℕ). item (listed_kept i)) (keep_if (own_stands same first ord) os) (keep_if (kept_stands same first (o ∷ os)) ord) merges
        ∙ ap₂ (λ (x y : List C). sort_by before (x ++ y)) (own_images ∙ sym (left_own p q alike before same first os ord same-os back-os R.first_is R.first_not))
        (kept_images ∙ ap (map q) (kept_stands_lem same first o os ord) ∙ sym (left_other p q alike before same first os ord same-os back-os R.first_is R.first_not (keep_if (λ (i : ℕ). not (same i o)) ord) (λ i m. keep_from (λ (i : ℕ). not (same i o)) ord i m))
        ∙ ap (keep_if (λ (c : C). not (beats (map p os) c))) (sym other_words)))
