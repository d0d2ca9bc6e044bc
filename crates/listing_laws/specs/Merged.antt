-- Two sorted lists, in each of which no key comes twice, and one entry before them: of each key the first of all, sorted, is what is left where an entry goes that the other list has one of its key before. Assumes nothing.
use Rattle.std.specs.Prelude.{◌≡◌, refl, ◌⊎◌, Bool, true, false, not, ◌&&◌, List, [], ◌∷◌, ◌++◌, map}
use Rattle.std.proofs.Common.{sym, ap, ◌∙◌, subst, inl, inr}
use mathlib.Core.List.Memᴰ
use mathlib.Core.List.Memᴰ.{head as here}
use mathlib.Core.List.Memᴰ.{tail as there}
use Rattle.std.proofs.lemmas.Bool.{not-true}
use Rattle.lists.specs.Tests.{case, either, never, and_both}
use Rattle.lists.specs.Lists.{◌∈◌, any, keep_if, sort_by, firsts}
use Rattle.lists.specs.Members.{any_no, any_some, keep_from, keep_passes, keep_to, sort_from, firsts_from, map_to}
use Rattle.lists.specs.Order.{Sorted, Strict, sort_sorted, sort_to}
use Rattle.lists.specs.Firsts.{firsts_are}
use Rattle.lists.specs.Count.{Nodup}
use Rattle.copy_laws.proofs.Minima.{first_least}
use Rattle.copy_laws.proofs.Minima.{sort_nodup, sublist_sorted, sorted_same, nodup_map, same_keyed, apart_nodup}
use Rattle.listing_laws.specs.Alike.{nodup_keep, nodup_append, one_of}

module _ {A K : Type 0} (key : A → K) (alike : K → K → Bool) (alike_is : (j k : K) → alike j k ≡ true → j ≡ k) (alike_refl : (j k : K) → j ≡ k → alike j k ≡ true) (before : A → A → Bool) where
  -- an entry of the list has x's key and comes before it
  abbrev pub beaten : List A → A → Bool
  beaten ys x = any (λ y. alike (key x) (key y) && before y x) ys

  -- those that none of the other list beats
  abbrev pub unbeaten : (ys xs : List A) → List A
  unbeaten ys xs = keep_if (λ x. not (beaten ys x)) xs

  -- and none has the first one's key
  abbrev pub apart_from : A → List A → List A
  apart_from g xs = keep_if (λ x. not (alike (key x) (key g))) xs

  module _ (P : A → Type 0) (strict : Strict P before) (g : A) (xs ys : List A) (ps : (x : A) → x ∈ (xs ++ ys) → P x) (xs-apart : Nodup (map key (g ∷ xs))) (ys-apart : Nodup (map key ys))
      (total : (x y : A) → x ∈ (xs ++ ys) → y ∈ (xs ++ ys) → before x y ≡ false → before y x ≡ false → x ≡ y) (differ : (x y : A) → x ∈ xs → y ∈ ys → x ≡ y → ⊥) where
    abbrev all : List A
    all = sort_by before (xs ++ ys)

    abbrev found : List A
    found = firsts (same_keyed key alike alike_is alike_refl) (g ∷ []) all

    abbrev left : List A
    left = unbeaten ys xs ++ unbeaten xs (apart_from g ys)

    sorted : Sorted before all
    sorted = sort_sorted P before strict (xs ++ ys) ps

    least : (y : A) → y ∈ found → (x : A) → x ∈ (xs ++ ys) → key x ≡ key y → before x y ≡ false
    least y m x n e = first_least key alike alike_is alike_refl before P strict (g ∷ []) all sorted (λ z k. ps z (sort_from before (xs ++ ys) z k)) y m x (sort_to before (xs ++ ys) x n) e

    from_all : (y : A) → y ∈ found → y ∈ (xs ++ ys)
    from_all y m = sort_from before (xs ++ ys) y (firsts_from (same_keyed key alike alike_is alike_refl) (g ∷ []) all y m)

    -- none of these comes before it
    not_beaten : (zs : List A) (y : A) → y ∈ found → ((z : A) → z ∈ zs → z ∈ (xs ++ ys)) → not (beaten zs y) ≡ true
    not_beaten zs y m inside =
        case (either (beaten zs y))
        (λ t.
        let (z, n, b) = any_some (λ z. alike (key y) (key z) && before z y) zs t in
        let c = and_both (alike (key y) (key z)) (before z y) b in
        never (sym (least y m z (inside z n) (sym (alike_is (key y) (key z) c.0))) ∙ c.1)) (λ t. ap not t)

    to_left : (y : A) → y ∈ found → y ∈ left
    to_left y m =
        case (Memᴰ.append_cases xs (from_all y m)) (λ n. Memᴰ.append_left (unbeaten xs (apart_from g ys)) (keep_to (λ x. not (beaten ys x)) xs y n (not_beaten ys y m (λ z k. Memᴰ.append_right xs k))))
        (λ n. Memᴰ.append_right (unbeaten ys xs)
        (keep_to (λ x. not (beaten xs x)) (apart_from g ys) y
        (keep_to (λ x. not (alike (key x) (key g))) ys y n (ap not ((firsts_are (same_keyed key alike alike_is alike_refl) (g ∷ []) all).unseen y m g (here refl)))) (not_beaten xs y m (λ z k. Memᴰ.append_left ys k))))

    -- of two that are not beaten by each other
    level : (zs : List A) (x y : A) → x ∈ (xs ++ ys) → y ∈ found → y ∈ zs → beaten zs x ≡ false → key x ≡ key y → x ≡ y
    level zs x y m n k b e =
        total x y m (from_all y n) (least y n x m e)
        (case (either (before y x))
        (λ t. never (sym (any_no (λ z. alike (key x) (key z) && before z x) zs b y k) ∙ ap (λ (c : Bool). c && before y x) (alike_refl (key x) (key y) e) ∙ t)) (λ t. t))

    -- what is found of its key is itself
    itself : (x : A) → x ∈ (xs ++ ys) → (key x ≡ key g → ⊥) → ((y : A) → y ∈ found → key x ≡ key y → x ≡ y) → x ∈ found
    itself x m d only =
        let same = same_keyed key alike alike_is alike_refl in
        case ((firsts_are same (g ∷ []) all).each x (sort_to before (xs ++ ys) x m)) (λ l. absurd (seen l.one l.in_list (key_of l.one l.like)))
        (λ l. subst (λ (z : A). z ∈ found) (sym (only l.one l.in_list (key_of l.one l.like))) l.in_list)
      where
        key_of : (y : A) → (x ≡ y) ⊎ (alike (key x) (key y) ≡ true) → key x ≡ key y
        key_of y (inl e) = ap key e
        key_of y (inr e) = alike_is (key x) (key y) e

        seen : (y : A) → y ∈ (g ∷ []) → key x ≡ key y → ⊥
        seen y (here q) e = d (e ∙ ap key q)
        seen y (there k) e = elim k [ ]

    to_found : (x : A) → x ∈ left → x ∈ found
    to_found x m = case (Memᴰ.append_cases (unbeaten ys xs) m) own other
      where
        own : x ∈ unbeaten ys xs → x ∈ found
        own n =
            let k = keep_from (λ x. not (beaten ys x)) xs x n in
            let b = not-true (beaten ys x) (keep_passes (λ x. not (beaten ys x)) xs x n) in
            itself x (Memᴰ.append_left ys k) (λ e. xs-apart.0 (subst (λ (j : K). j ∈ map key xs) e (map_to key xs x k)))
            (λ y i e. case (Memᴰ.append_cases xs (from_all y i)) (λ l. one_of key xs xs-apart.1 x y k l e) (λ l. level ys x y (Memᴰ.append_left ys k) i l b e))

        other : x ∈ unbeaten xs (apart_from g ys) → x ∈ found
        other n =
            let j = keep_from (λ x. not (beaten xs x)) (apart_from g ys) x n in
            let k = keep_from (λ x. not (alike (key x) (key g))) ys x j in
            let b = not-true (beaten xs x) (keep_passes (λ x. not (beaten xs x)) (apart_from g ys) x n) in
            let a = not-true (alike (key x) (key g)) (keep_passes (λ x. not (alike (key x) (key g))) ys x j) in
            itself x (Memᴰ.append_right xs k) (λ e. never (sym a ∙ alike_refl (key x) (key g) e))
            (λ y i e. case (Memᴰ.append_cases xs (from_all y i)) (λ l. level xs x y (Memᴰ.append_right xs k) i l b e) (λ l. one_of key ys ys-apart x y k l e))

    nodup_left : Nodup left
    nodup_left =
        nodup_append (unbeaten ys xs) (unbeaten xs (apart_from g ys)) (nodup_keep (λ x. not (beaten ys x)) xs (nodup_map key xs xs-apart.1))
        (nodup_keep (λ x. not (beaten xs x)) (apart_from g ys) (nodup_keep (λ x. not (alike (key x) (key g))) ys (nodup_map key ys ys-apart)))
        (λ x m n. differ x x (keep_from (λ x. not (beaten ys x)) xs x m) (keep_from (λ x. not (alike (key x) (key g))) ys x (keep_from (λ x. not (beaten xs x)) (apart_from g ys) x n)) refl)

    left_inside : (x : A) → x ∈ left → x ∈ (xs ++ ys)
    left_inside x m = from_all x (to_found x m)

    -- the first of each key is what is left of both, sorted
    pub merged_is : firsts (same_keyed key alike alike_is alike_refl) (g ∷ []) (sort_by before (xs ++ ys)) ≡ sort_by before (unbeaten ys xs ++ unbeaten xs (apart_from g ys))
    merged_is =
        sorted_same before found (sort_by before left) (sublist_sorted before found all (firsts_are (same_keyed key alike alike_is alike_refl) (g ∷ []) all).in_order sorted)
        (sort_sorted P before strict left (λ x m. ps x (left_inside x m))) (nodup_map key found (apart_nodup key alike alike_is alike_refl found (firsts_are (same_keyed key alike alike_is alike_refl) (g ∷ []) all).apart))
        (sort_nodup before left nodup_left) (λ x m. sort_to before left x (to_left x m)) (λ x m. to_found x (sort_from before left x m)) (λ x y m n. total x y (from_all x m) (from_all y n))
