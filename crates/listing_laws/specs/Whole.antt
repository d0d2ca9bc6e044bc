-- The items of the list stand for the definition's readings. Assumes nothing.
use Rattle.std.specs.Prelude.{◌≡◌, refl, ℕ, ◌+◌, ◌-◌, ◌≤◌, Bool, false, not, cond, List, [], ◌∷◌, ◌++◌, map, reverse, ltb, ℤ, length, take, Float}
use Rattle.std.proofs.Common.{sym, ap, ap₂, ◌∙◌, subst, arith, lt-ltb, le-ltb}
use mathlib.Core.List.Memᴰ.{tail as there}
use Rattle.std.proofs.lemmas.Simd.{map-map}
use Rattle.lists.specs.Tests.{same, holds, is_true}
use Rattle.lists.specs.Lists.{◌∈◌, keep_if, range, sort_by}
use Rattle.lists.specs.Members.{map_to}
use Rattle.lists.specs.Order.{Perm, perm_sym, perm_member, Sorted}
use Rattle.model.specs.Basics.{◌≺◌}
use Rattle.model.specs.Path.{same_words}
use Rattle.model.specs.Reads.{Group, grouped, use_finals}
use Rattle.model.specs.Readings.{Below, Kept, kept_group, read_order, merged}
use Rattle.copy_laws.proofs.Labels.{words_alike, words_same}
use Rattle.ranking.specs.Ranked.{RankedIs}
use Rattle.groups.specs.Firsts.{FirstsIs}
use Rattle.below.specs.Stored.{Decoded}
use Rattle.kept_readings.specs.Kept.{kept_read_in as kept_place, kept_list}
use Rattle.kept_readings.specs.Meaning.{as_kept}
use Rattle.kept_order.specs.Before.{kept_is_before}
use Rattle.kept_order.specs.Asks.{OrderIs}
use Rattle.merged.specs.Twins.{own_words}
use Rattle.merged.specs.Drops.{kept_words}
use Rattle.merged.specs.Items.{own_rank, kept_first, listed_kept, merged_items}
use Rattle.merged.specs.Left.{kept_stands, own_still_left}
use Rattle.listing_laws.specs.Situation.{Situation, Held}
use Rattle.listing_laws.specs.Ordering.{HasRank, order_strict}
use Rattle.listing_laws.specs.Known.{kept_read_in, kept_groups, Known, own_has_rank, kept_has_rank}
use Rattle.listing_laws.specs.Total.{merged_any_order}
use Rattle.listing_laws.specs.Parts.{left_by, other_than, merged_parts}
use Rattle.listing_laws.specs.Survivors.{beaten_by_rank, sorted_own}
use Rattle.listing_laws.specs.Owns.{reverse_same, rank_in, group_in, own_ranked, own_held, grouped_are}
use Rattle.listing_laws.specs.Heads.{rank_is, head_in}
use Rattle.listing_laws.specs.Words.{own_words_are, kept_words_lem}
use Rattle.listing_laws.specs.Together.{Reads, together}
use Rattle.listing_laws.specs.Sorted.{Met, kept_at, in_order, kept_sorted, kept_perm}

same_turned : (xs ys : List ℤ) → same_words xs ys ≡ same_words ys xs
same_turned xs ys =
    same (same_words xs ys) (same_words ys xs) (λ t. holds (words_alike ys xs (sym (words_same xs ys (is_true t))))) (λ t. holds (words_alike xs ys (sym (words_same ys xs (is_true t)))))

-- what an item of the list stands for: a state's own group, or from 2 ^ 31 on a kept reading
abbrev pub item_group : {tk : List ℕ} {sm fs : List Float} {rs : List ℕ} {ls : List ℤ} {gs : List Float} {n b used : ℕ} {keeps : Bool} {margin : Float} → Situation tk sm fs rs ls gs n b used keeps margin → (counts : Bool) → List Below → (khs kns : List ℕ) → List Float → ℕ → Group
item_group S counts bs khs kns kxs i = cond (ltb i 2_147_483_648) (group_in S counts i) (kept_group (as_kept (rank_in S counts) bs (kept_place khs kns kxs (i - 2_147_483_648))))

-- a state's
pub item_own : {tk : List ℕ} {sm fs : List Float} {rs : List ℕ} {ls : List ℤ} {gs : List Float} {n b used : ℕ} {keeps : Bool} {margin : Float} (S : Situation tk sm fs rs ls gs n b used keeps margin) (counts : Bool) (bs : List Below) (khs kns : List ℕ) (kxs : List Float)
    → n ≤ 65_535 → (s : ℕ) → Held tk b n s → item_group S counts bs khs kns kxs s ≡ group_in S counts s
item_own S counts bs khs kns kxs few s d = let z = d.0 in ap (λ (t : Bool). cond t (group_in S counts s) (kept_group (as_kept (rank_in S counts) bs (kept_place khs kns kxs (s - 2_147_483_648))))) (lt-ltb s 2_147_483_648 (omega arith))

-- kept reading i reads as the own group of state s does
abbrev pub same_test : List ℕ → List ℤ → List ℕ → (side : ℕ) → (nexts khs kns : List ℕ) → List Float → (i s : ℕ) → Bool
same_test rs ls tk b ns khs kns kxs i s = same_words (kept_words rs ls tk b ns (kept_place khs kns kxs i)) (own_words rs ls tk b s)

module _ {tk : List ℕ} {sm fs : List Float} {rs : List ℕ} {ls : List ℤ} {gs : List Float} {n b used : ℕ} {keeps : Bool} {margin : Float} (S : Situation tk sm fs rs ls gs n b used keeps margin) (few_states : n ≤ 65_535) (f counts : Bool)
    (c : counts ≡ use_finals S.g S.st f) {order : List ℕ} {all : ℕ} (R : RankedIs tk sm fs b n counts order all) {own own' : List ℕ} {m : ℕ} (copied : take all own ≡ take all order) (F : FirstsIs tk rs ls b used false own own' all m) (room : m ≤ length own')
    {bound : Float} {cap : ℕ} (known : Known S.g S.heard S.st f margin bound cap) {hs ns : List ℕ} {xs : List Float} {bs : List Below} (D : Decoded S.h used hs ns xs bs)
    (khs kns : List ℕ) (kxs : List Float) (r : ℕ) (ord : List ℕ) (O : OrderIs (kept_is_before tk rs ls b ns khs kns kxs) r ord) {ss : List ℕ} {next : ℕ} (M : Met S counts D khs kns kxs r ord O ss next)
    (perm : Perm (map (as_kept (rank_in S counts) bs) (kept_list khs kns kxs r)) (kept_read_in S.g S.st f margin bound cap)) where
  abbrev kept_one : ℕ → Kept
  kept_one i = kept_at S counts D khs kns kxs r ord O i

  abbrev kept_found : ℕ → Group
  kept_found i = kept_group (kept_one i)

  abbrev ks : List Kept
  ks = map kept_one (take r ord)

  in_map : (i : ℕ) → i ∈ take r ord → kept_one i ∈ kept_read_in S.g S.st f margin bound cap
  in_map i k = perm_member (perm_sym (kept_perm S counts D khs kns kxs r ord O (kept_read_in S.g S.st f margin bound cap) perm)) (kept_one i) (map_to kept_one (take r ord) i k)

  in_groups : (i : ℕ) → i ∈ take r ord → kept_found i ∈ kept_groups (kept_read_in S.g S.st f margin bound cap)
  in_groups i k = map_to kept_group (kept_read_in S.g S.st f margin bound cap) (kept_one i) (in_map i k)

  -- ---- words

  kept_words_are : (i : ℕ) → i ∈ take r ord → (kept_found i).words ≡ reverse (kept_words rs ls tk b ns (kept_place khs kns kxs i))
  kept_words_are i k =
      let x = M.held (kept_place khs kns kxs i) (map_to (kept_place khs kns kxs) (range 0 r) i (in_order O i k)) in
      kept_words_lem S counts D (kept_place khs kns kxs i) (M.active _ x.state_in) (let z = x.entry_low in let w = M.many in omega arith)

  -- the tests of the code, by states and by numbers of kept readings
  abbrev same_in : (i s : ℕ) → Bool
  same_in = same_test rs ls tk b ns khs kns kxs

  abbrev first_in : (i s : ℕ) → Bool
  first_in = kept_first tk sm fs b counts khs kns kxs

  same_back : (s i : ℕ) → Held tk b n s → i ∈ take r ord → same_words (kept_found i).words (group_in S counts s).words ≡ same_in i s
  same_back s i d k = ap₂ same_words (kept_words_are i k) (own_words_are S counts s d) ∙ reverse_same (kept_words rs ls tk b ns (kept_place khs kns kxs i)) (own_words rs ls tk b s)

  -- ---- the list

  abbrev item : ℕ → Group
  item i = item_group S counts bs khs kns kxs i

  own_in : (s : ℕ) → s ∈ take m own' → group_in S counts s ∈ grouped S.g S.st f
  own_in s k = subst (λ (l : List Group). group_in S counts s ∈ l) (sym (grouped_are S counts f c R copied F)) (map_to (group_in S counts) (take m own') s k)

  held : (s : ℕ) → s ∈ take m own' → Held tk b n s
  held = own_held S counts R copied F

  own_rank_lem : (s : ℕ) → s ∈ take m own' → own_rank tk sm fs b counts s ≡ (group_in S counts s).rank
  own_rank_lem s k = rank_is S counts s (head_in S counts f c R s (own_ranked S counts R copied F s k))

  item_kept : (i : ℕ) → item (listed_kept i) ≡ kept_found i
  item_kept i =
      ap (λ (b : Bool). cond b (group_in S counts (listed_kept i)) (kept_group (as_kept (rank_in S counts) bs (kept_place khs kns kxs (listed_kept i - 2_147_483_648))))) (le-ltb (listed_kept i) 2_147_483_648 (omega arith))
      ∙ ap (λ (j : ℕ). kept_group (as_kept (rank_in S counts) bs (kept_place khs kns kxs j))) (let e : listed_kept i - 2_147_483_648 ≡ i = omega arith in e)

  module _ (o : ℕ) (os : List ℕ) (is : take m own' ≡ o ∷ os) where
    among : (s : ℕ) → s ∈ (o ∷ os) → s ∈ take m own'
    among s k = subst (λ (l : List ℕ). s ∈ l) (sym is) k

    groups_are : grouped S.g S.st f ≡ group_in S counts o ∷ map (group_in S counts) os
    groups_are = grouped_are S counts f c R copied F ∙ ap (map (group_in S counts)) is

    reads : Reads HasRank read_order order_strict (λ (x y : Group). same_words x.words y.words) (group_in S counts) kept_found same_in first_in item o os (take r ord)
    reads =
        record {
          own_item = λ s k. item_own S counts bs khs kns kxs few_states s (held s (among s k));
          kept_item = λ i k. item_kept i;
          same_is = λ s i k j. same_turned (group_in S counts s).words (kept_found i).words ∙ same_back s i (held s (among s k)) j;
          same_back = λ s i k j. same_back s i (held s (among s k)) j;
          first_is = λ s i k j. (beaten_by_rank known (group_in S counts s) (kept_found i) (own_in s (among s (there k))) (in_groups i j)).0 ∙ ap (λ (x : Float). (kept_place khs kns kxs i).rank ≺ x) (sym (own_rank_lem s (among s (there k))));
          first_not = λ s i k j. (beaten_by_rank known (group_in S counts s) (kept_found i) (own_in s (among s (there k))) (in_groups i j)).1 ∙ ap (λ (x : Float). not ((kept_place khs kns kxs i).rank ≺ x)) (sym (own_rank_lem s (among s (there k))));
          own_in = λ s k. own_has_rank known (group_in S counts s) (own_in s (among s (there k)));
          kept_in = λ i k. kept_has_rank known (kept_one i) (in_map i k);
          own_sorted = (subst (Sorted read_order) groups_are (sorted_own S.g S.good S.floats S.heard S.st S.standing.active f)).1;
          kept_sorted = kept_sorted S counts D khs kns kxs r ord O M;
        }

    merged_one : map item (merged_items first_in (own_still_left same_in first_in (take r ord) (o ∷ os)) (keep_if (kept_stands same_in first_in (o ∷ os)) (take r ord))) ≡ merged (grouped S.g S.st f) (kept_groups ks)
    merged_one =
        together HasRank read_order order_strict (λ (x y : Group). same_words x.words y.words) (group_in S counts) kept_found same_in first_in item o os (take r ord) reads
        ∙ sym
        (merged_parts known ks (kept_perm S counts D khs kns kxs r ord O (kept_read_in S.g S.st f margin bound cap) perm) (group_in S counts o) (map (group_in S counts) os) groups_are
        ∙ ap (λ (l : List Group). group_in S counts o ∷ sort_by read_order (left_by l (map (group_in S counts) os) ++ left_by (map (group_in S counts) os) (other_than (group_in S counts o) l))) (map-map kept_group kept_one (take r ord)))

  -- all of it is the definition's list
  pub list_is : map item (merged_items first_in (own_still_left same_in first_in (take r ord) (take m own')) (keep_if (kept_stands same_in first_in (take m own')) (take r ord))) ≡ merged (grouped S.g S.st f) (kept_groups (kept_read_in S.g S.st f margin bound cap))
  list_is = go (take m own') refl ∙ merged_any_order known ks (kept_perm S counts D khs kns kxs r ord O (kept_read_in S.g S.st f margin bound cap) perm)
    where
      go : (l : List ℕ) → take m own' ≡ l → map item (merged_items first_in (own_still_left same_in first_in (take r ord) (take m own')) (keep_if (kept_stands same_in first_in (take m own')) (take r ord))) ≡ merged (grouped S.g S.st f) (kept_groups ks)
      go [] e =
          ap (λ (l : List ℕ). map item (merged_items first_in (own_still_left same_in first_in (take r ord) l) (keep_if (kept_stands same_in first_in l) (take r ord)))) e
          ∙ sym (ap (λ (l : List Group). merged l (kept_groups ks)) (grouped_are S counts f c R copied F ∙ ap (map (group_in S counts)) e))
      go (o ∷ os) e = ap (λ (l : List ℕ). map item (merged_items first_in (own_still_left same_in first_in (take r ord) l) (keep_if (kept_stands same_in first_in l) (take r ord)))) e ∙ merged_one o os e
