-- No two of the readings that are merged are level in the order of readings, so the order of the kept map does not show. Assumes nothing.
use Rattle.std.specs.Prelude.{◌≡◌, refl, ℕ, Bool, false, List, [], ◌∷◌, ◌++◌, ℤ, Float}
use Rattle.std.proofs.Common.{sym, ap, ◌∙◌, subst}
use mathlib.Core.List.Memᴰ
use mathlib.Core.List.Memᴰ.{tail as there}
use Rattle.lists.specs.Tests.{case, never}
use Rattle.lists.specs.Lists.{◌∈◌, firsts}
use Rattle.lists.specs.Order.{Perm, perm-cons, Strict, sort_of_perm}
use Rattle.model.specs.Graph.{Graph}
use Rattle.model.specs.Passes.{State}
use Rattle.model.specs.Reads.{Group, grouped}
use Rattle.model.specs.Readings.{Kept, kept_group, read_order, merged}
use Rattle.copy_laws.specs.Walks.{Heard}
use Rattle.copy_laws.proofs.Folded.{perm-map}
use Rattle.copy_laws.proofs.Distinct.{same_of, grouped_distinct}
use Rattle.listing_laws.specs.Alike.{one_of}
use Rattle.listing_laws.specs.Ordering.{HasRank, order_strict, order_level}
use Rattle.listing_laws.specs.Known.{kept_read_in, kept_groups, Known, own_is_own, kept_not_own, listed_has_rank}
use Rattle.listing_laws.specs.Keys.{kept_distinct}

-- the words of a reading
abbrev pub words_of : Group → List ℤ
words_of x = x.words

perm_behind : {A : Type 0} (zs : List A) {xs ys : List A} → Perm xs ys → Perm (zs ++ xs) (zs ++ ys)
perm_behind [] p = p
perm_behind (z ∷ zs) p = perm-cons (perm_behind zs p)

-- where no two are level
module _ (all : List Group) (ranks : (x : Group) → x ∈ all → HasRank x) (total : (x y : Group) → x ∈ all → y ∈ all → read_order x y ≡ false → read_order y x ≡ false → x ≡ y) where
  among_strict : Strict (λ x. x ∈ all) read_order
  among_strict = record { asym = λ x y m n. order_strict.asym x y (ranks x m) (ranks y n); through = λ x y z m n k. order_strict.through x y z (ranks x m) (ranks y n) (ranks z k) }

  merged_perm : (own ks ls : List Group) → own ++ ks ≡ all → Perm ks ls → merged own ls ≡ merged own ks
  merged_perm [] ks ls e p = refl
  merged_perm (o ∷ os) ks ls e p =
      ap (λ (l : List Group). o ∷ firsts (same_of words_of) (o ∷ []) l)
      (sym (sort_of_perm (λ x. x ∈ all) read_order among_strict total (perm_behind os p) (λ x m. subst (λ (l : List Group). x ∈ l) e (there m))))

module _ {g : Graph} {fs : List Heard} {st : State} {f : Bool} {margin bound : Float} {cap : ℕ} (known : Known g fs st f margin bound cap) where
  abbrev own : List Group
  own = grouped g st f

  abbrev kept : List Kept
  kept = kept_read_in g st f margin bound cap

  -- two that are level are one
  pub listed_total : (x y : Group) → x ∈ (grouped g st f ++ kept_groups (kept_read_in g st f margin bound cap)) → y ∈ (grouped g st f ++ kept_groups (kept_read_in g st f margin bound cap)) → read_order x y ≡ false → read_order y x ≡ false → x ≡ y
  listed_total x y m n e d =
      let l = order_level x y (listed_has_rank known x m) (listed_has_rank known y n) e d in
      case (Memᴰ.append_cases own m)
      (λ i.
      case (Memᴰ.append_cases own n) (λ j. one_of words_of own (grouped_distinct g st f) x y i j l.words)
      (λ j. never (sym (kept_not_own known y j) ∙ sym l.own ∙ own_is_own g st f x i)))
      (λ i.
      case (Memᴰ.append_cases own n) (λ j. never (sym (kept_not_own known x i) ∙ l.own ∙ own_is_own g st f y j))
      (λ j. one_of words_of (kept_groups kept) (kept_distinct known.standing f margin bound cap) x y i j l.words))

  -- the kept map in any order gives the same list
  pub merged_any_order : (ks : List Kept) → Perm (kept_read_in g st f margin bound cap) ks → merged (grouped g st f) (kept_groups ks) ≡ merged (grouped g st f) (kept_groups (kept_read_in g st f margin bound cap))
  merged_any_order ks p = merged_perm (own ++ kept_groups kept) (listed_has_rank known) listed_total own (kept_groups kept) (kept_groups ks) refl (perm-map kept_group p)
