-- The merged list in parts: the survivors' first group, then what is left of the other survivors and of the kept readings, sorted. Assumes nothing.
use Rattle.std.specs.Prelude.{◌≡◌, ℕ, Bool, List, ◌∷◌, ◌++◌, Float}
use Rattle.std.proofs.Common.{sym, ap, ◌∙◌, subst}
use mathlib.Core.List.Memᴰ
use mathlib.Core.List.Memᴰ.{tail as there}
use Rattle.lists.specs.Tests.{case, never}
use Rattle.lists.specs.Lists.{◌∈◌, sort_by}
use Rattle.lists.specs.Order.{Perm, perm_sym, perm_member}
use Rattle.lists.specs.Count.{Nodup}
use Rattle.model.specs.Graph.{Graph}
use Rattle.model.specs.Path.{same_words}
use Rattle.model.specs.Passes.{State}
use Rattle.model.specs.Reads.{Group, grouped}
use Rattle.model.specs.Readings.{Kept, kept_group, read_order, merged, is_own}
use Rattle.copy_laws.proofs.Labels.{words_alike, words_same}
use Rattle.copy_laws.specs.Walks.{Heard}
use Rattle.copy_laws.proofs.Folded.{perm-map, perm_nodup}
use Rattle.copy_laws.specs.Distinct.{group_words}
use Rattle.copy_laws.proofs.Distinct.{grouped_distinct}
use Rattle.listing_laws.specs.Merged.{unbeaten, apart_from, merged_is}
use Rattle.listing_laws.specs.Ordering.{HasRank, order_strict}
use Rattle.listing_laws.specs.Known.{kept_read_in, kept_groups, Known, own_is_own, kept_not_own, listed_has_rank}
use Rattle.listing_laws.specs.Keys.{kept_distinct}
use Rattle.listing_laws.specs.Total.{words_of, listed_total}

-- the second list's, without those of whose words the first list has one that comes before it
abbrev pub left_by : (ys xs : List Group) → List Group
left_by = unbeaten words_of same_words words_same words_alike read_order

-- without those that have this one's words
abbrev pub other_than : Group → List Group → List Group
other_than = apart_from words_of same_words words_same words_alike read_order

module _ {g : Graph} {fs : List Heard} {st : State} {f : Bool} {margin bound : Float} {cap : ℕ} (known : Known g fs st f margin bound cap) (ks : List Kept) (p : Perm (kept_read_in g st f margin bound cap) ks) (o : Group) (os : List Group) (e : grouped g st f ≡ o ∷ os) where
  abbrev kepts : List Group
  kepts = kept_groups (kept_read_in g st f margin bound cap)

  in_own : (x : Group) → x ∈ os → x ∈ grouped g st f
  in_own x m = subst (λ (l : List Group). x ∈ l) (sym e) (there m)

  in_kept : (x : Group) → x ∈ kept_groups ks → x ∈ kepts
  in_kept = perm_member (perm_sym (perm-map kept_group p))

  in_all : (x : Group) → x ∈ (os ++ kept_groups ks) → x ∈ (grouped g st f ++ kepts)
  in_all x m = case (Memᴰ.append_cases os m) (λ n. Memᴰ.append_left kepts (in_own x n)) (λ n. Memᴰ.append_right (grouped g st f) (in_kept x n))

  -- whatever the order of the kept readings
  pub merged_parts : merged (grouped g st f) (kept_groups ks) ≡ o ∷ sort_by read_order (left_by (kept_groups ks) os ++ left_by os (other_than o (kept_groups ks)))
  merged_parts =
      ap (λ (l : List Group). merged l (kept_groups ks)) e
      ∙ ap (λ (l : List Group). o ∷ l)
      (merged_is words_of same_words words_same words_alike read_order HasRank order_strict o os (kept_groups ks) (λ x m. listed_has_rank known x (in_all x m)) (subst (λ (l : List Group). Nodup (group_words l)) e (grouped_distinct g st f))
      (perm_nodup (perm-map words_of (perm-map kept_group p)) (kept_distinct known.standing f margin bound cap)) (λ x y m n. listed_total known x y (in_all x m) (in_all y n))
      (λ x y m n q. never (sym (kept_not_own known y (in_kept y n)) ∙ ap is_own (sym q) ∙ own_is_own g st f x (in_own x m))))
