-- Of each key the least: two ways to find them are one. Sort, and keep the first of each key; or keep the least of each key in a map, whatever its order, and then sort. Assumes nothing.
use Rattle.std.specs.Prelude.{◌≡◌, refl, ◌⊎◌, Bool, true, false, cond}
use Rattle.std.proofs.Common.{sym, ap, ◌∙◌, subst, inl, inr}
use mathlib.Core.List.Memᴰ.{head as here}
use mathlib.Core.List.Memᴰ.{tail as there}
use mathlib.Core.List.{List, [], ◌∷◌, map, Sublistᴰ}
use Rattle.lists.specs.Tests.{case, either, never}
use Rattle.lists.specs.Lists.{◌∈◌, any, insert_by, sort_by, firsts}
use Rattle.lists.specs.Members.{any_some, insert_from, sort_from, firsts_from, map_from, map_to}
use Rattle.lists.specs.Order.{Sorted, Strict, sort_sorted, sort_to}
use Rattle.lists.specs.Firsts.{Apart, firsts_are}
use Rattle.lists.specs.Count.{Nodup}

pub not_itself : {A : Type 0} (P : A → Type 0) (before : A → A → Bool) → Strict P before → (x : A) → P x → before x x ≡ false
not_itself P before strict x p = case (either (before x x)) (λ t. strict.asym x x p p t) (λ t. t)

-- ---- sorted lists without repetition

module _ {A : Type 0} (before : A → A → Bool) where
  insert_nodup : (x : A) (xs : List A) → (x ∈ xs → ⊥) → Nodup xs → Nodup (insert_by before x xs)
  insert_nodup x [] f n = (λ m. elim m [ ], tt)
  insert_nodup x (y ∷ xs) f n = go (before y x) (insert_nodup x xs (λ m. f (there m)) n.1)
    where
      go : (b : Bool) → Nodup (insert_by before x xs) → Nodup (cond b (y ∷ insert_by before x xs) (x ∷ y ∷ xs))
      go true r = (λ m. case (insert_from before x xs y m) (λ e. f (here (sym e))) n.0, r)
      go false r = (f, n)

  pub sort_nodup : (xs : List A) → Nodup xs → Nodup (sort_by before xs)
  sort_nodup [] n = tt
  sort_nodup (x ∷ xs) n = insert_nodup x (sort_by before xs) (λ m. n.0 (sort_from before xs x m)) (sort_nodup xs n.1)

  sublist_member : (ys xs : List A) → Sublistᴰ ys xs → (y : A) → y ∈ ys → y ∈ xs
  sublist_member ys xs Sublistᴰ.slnil y m = m
  sublist_member ys xs (Sublistᴰ.cons {l₁ = l} {l₂ = r} d) y m = there (sublist_member l r d y m)
  sublist_member ys xs (Sublistᴰ.cons-cons {l₁ = l} {l₂ = r} e d) y (here q) = here (q ∙ e)
  sublist_member ys xs (Sublistᴰ.cons-cons {l₁ = l} {l₂ = r} e d) y (there m) = there (sublist_member l r d y m)

  -- what is left out of a sorted list does not matter
  pub sublist_sorted : (ys xs : List A) → Sublistᴰ ys xs → Sorted before xs → Sorted before ys
  sublist_sorted ys xs Sublistᴰ.slnil s = s
  sublist_sorted ys xs (Sublistᴰ.cons {l₁ = l} {l₂ = r} d) s = sublist_sorted l r d s.1
  sublist_sorted ys xs (Sublistᴰ.cons-cons {l₁ = l} {l₂ = r} e d) s = (λ y m. ap (before y) e ∙ s.0 y (sublist_member l r d y m), sublist_sorted l r d s.1)

  -- the same members, each once and sorted by an order in which no two are level: one list
  pub sorted_same : (ys zs : List A) → Sorted before ys → Sorted before zs → Nodup ys → Nodup zs → ((x : A) → x ∈ ys → x ∈ zs) → ((x : A) → x ∈ zs → x ∈ ys) → ((x y : A) → x ∈ ys → y ∈ ys → before x y ≡ false → before y x ≡ false → x ≡ y) → ys ≡ zs
  sorted_same [] [] sy sz ny nz f h total = refl
  sorted_same [] (z ∷ zs) sy sz ny nz f h total = elim (h z (here refl)) [ ]
  sorted_same (y ∷ ys) [] sy sz ny nz f h total = elim (f y (here refl)) [ ]
  sorted_same (y ∷ ys) (z ∷ zs) sy sz ny nz f h total = heads (case (behind ys z y (h z (here refl))) (λ e. sym e) (λ m. case (behind zs y z (f y (here refl))) (λ e. e) (λ k. total y z (here refl) (there m) (sz.0 y k) (sy.0 z m))))
      (λ e. sorted_same ys zs sy.1 sz.1 ny.1 nz.1 (λ x m. past zs x z (f x (there m)) (λ q. ny.0 (subst (λ (w : A). w ∈ ys) (q ∙ sym e) m))) (λ x m. past ys x y (h x (there m)) (λ q. nz.0 (subst (λ (w : A). w ∈ zs) (q ∙ e) m))) (λ u v m n. total u v (there m) (there n)))
    where
      behind : (ws : List A) (u v : A) → u ∈ (v ∷ ws) → (u ≡ v) ⊎ (u ∈ ws)
      behind ws u v (here e) = inl e
      behind ws u v (there m) = inr m

      past : (ws : List A) (u v : A) → u ∈ (v ∷ ws) → (u ≡ v → ⊥) → u ∈ ws
      past ws u v (here e) d = absurd (d e)
      past ws u v (there m) d = m

      heads : y ≡ z → (y ≡ z → ys ≡ zs) → y ∷ ys ≡ z ∷ zs
      heads e k = let r = k e in cc

-- ---- minima

module _ {A K : Type 0} (key : A → K) where
  -- of each key that is met, the one entry that no other of it comes before
  pub record Minima (before : A → A → Bool) (xs ys : List A) : Type 0 where
    pub from : (y : A) → y ∈ ys → y ∈ xs
    pub least : (y x : A) → y ∈ ys → x ∈ xs → key x ≡ key y → before x y ≡ false
    pub each : (x : A) → x ∈ xs → (y : A) × (y ∈ ys) × (key x ≡ key y)
    pub apart : Nodup (map key ys)

  pub nodup_map : (ys : List A) → Nodup (map key ys) → Nodup ys
  nodup_map [] n = tt
  nodup_map (y ∷ ys) n = (λ m. n.0 (map_to key ys y m), nodup_map ys n.1)

-- by a test that finds equal keys
module _ {A K : Type 0} (key : A → K) (alike : K → K → Bool) (alike_is : (j k : K) → alike j k ≡ true → j ≡ k) (alike_refl : (j k : K) → j ≡ k → alike j k ≡ true) where
  abbrev pub same_keyed : A → A → Bool
  same_keyed a b = alike (key a) (key b)

  pub apart_nodup : (ys : List A) → Apart same_keyed ys → Nodup (map key ys)
  apart_nodup [] a = tt
  apart_nodup (y ∷ ys) a = (λ m. let (x, n, e) = map_from key ys (key y) m in never (sym (a.0 x n) ∙ alike_refl (key x) (key y) (sym e)), apart_nodup ys a.1)

  module _ (before : A → A → Bool) (P : A → Type 0) (strict : Strict P before) where
    -- the first of each key of a sorted list
    pub first_least : (seen xs : List A) → Sorted before xs → ((x : A) → x ∈ xs → P x) → (y : A) → y ∈ firsts same_keyed seen xs → (x : A) → x ∈ xs → key x ≡ key y → before x y ≡ false
    first_least seen [] s ps y m x n e = elim m [ ]
    first_least seen (z ∷ xs) s ps y m x n e = go (any (same_keyed z) seen) refl m n (first_least seen xs s.1 (λ w k. ps w (there k)) y) (first_least (z ∷ seen) xs s.1 (λ w k. ps w (there k)) y)
      where
        Rest : List A → Type 0
        Rest old = y ∈ firsts same_keyed old xs → (x : A) → x ∈ xs → key x ≡ key y → before x y ≡ false

        seen_before : any (same_keyed z) seen ≡ true → y ∈ firsts same_keyed seen xs → key z ≡ key y → before x y ≡ false
        seen_before t k q = let (w, i, a) = any_some (same_keyed z) seen t in never (sym ((firsts_are same_keyed seen xs).unseen y k w i) ∙ alike_refl (key y) (key w) (sym q ∙ alike_is (key z) (key w) a))

        go : (b : Bool) → any (same_keyed z) seen ≡ b → y ∈ (elim b as (λ c. List A) [ true ↦ firsts same_keyed seen xs | false ↦ z ∷ firsts same_keyed (z ∷ seen) xs ]) → x ∈ (z ∷ xs) → Rest seen → Rest (z ∷ seen) → before x y ≡ false
        go true t k (here q) f h = seen_before t k (ap key (sym q) ∙ e)
        go true t k (there i) f h = f k x i e
        go false t (here q) (here r) f h = ap (before x) q ∙ ap (λ (w : A). before w z) r ∙ not_itself P before strict z (ps z (here refl))
        go false t (here q) (there i) f h = ap (before x) q ∙ s.0 x i
        go false t (there k) (here r) f h = never (sym ((firsts_are same_keyed (z ∷ seen) xs).unseen y k z (here refl)) ∙ alike_refl (key y) (key z) (sym e ∙ ap key r))
        go false t (there k) (there i) f h = h k x i e

    pub firsts_minima : (xs : List A) → Sorted before xs → ((x : A) → x ∈ xs → P x) → Minima key before xs (firsts same_keyed [] xs)
    firsts_minima xs s ps =
        let d = firsts_are same_keyed [] xs in
        record {
          from = λ y m. firsts_from same_keyed [] xs y m;
          least = λ y x m n e. first_least [] xs s ps y m x n e;
          each = λ x m. case (d.each x m) (λ l. elim l.in_list [ ]) (λ l. (l.one, l.in_list, case l.like (λ q. ap key q) (λ q. alike_is (key x) (key l.one) q)));
          apart = apart_nodup (firsts same_keyed [] xs) d.apart;
        }

    -- two lists of minima have the same members
    minima_same : (xs ys zs : List A) → ((x : A) → x ∈ xs → P x) → ((x y : A) → x ∈ xs → y ∈ xs → before x y ≡ false → before y x ≡ false → x ≡ y) → Minima key before xs ys → Minima key before xs zs → (y : A) → y ∈ ys → y ∈ zs
    minima_same xs ys zs ps total a b y m =
        let (z, n, e) = b.each y (a.from y m) in
        subst (λ (w : A). w ∈ zs) (sym (total y z (a.from y m) (b.from z n) (b.least z y n (a.from y m) e) (a.least y z m (b.from z n) (sym e)))) n

    -- So minima in any order, sorted, are the first of each key of the sorted list.
    pub sort_minima : (xs ys : List A) → ((x : A) → x ∈ xs → P x) → ((x y : A) → x ∈ xs → y ∈ xs → before x y ≡ false → before y x ≡ false → x ≡ y) → Sorted before xs → Minima key before xs ys → sort_by before ys ≡ firsts same_keyed [] xs
    sort_minima xs ys ps total s a =
        let b = firsts_minima xs s ps in
        let zs = firsts same_keyed [] xs in
        sorted_same before (sort_by before ys) zs (sort_sorted P before strict ys (λ y m. ps y (a.from y m))) (sublist_sorted before zs xs (firsts_are same_keyed [] xs).in_order s) (sort_nodup before ys (nodup_map key ys a.apart)) (nodup_map key zs b.apart)
        (λ y m. minima_same xs ys zs ps total a b y (sort_from before ys y m)) (λ z m. sort_to before ys z (minima_same xs zs ys ps total b a z m))
        (λ x y m n. total x y (a.from x (sort_from before ys x m)) (a.from y (sort_from before ys y n)))
