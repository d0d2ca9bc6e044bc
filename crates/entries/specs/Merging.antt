-- Merging two lists of rising costs. Assumes nothing.
use Rattle.std.specs.Prelude.{◌≡◌, ℕ, zero, suc, ◌+◌, ◌-◌, ◌<◌, ◌≤◌, Bool, true, false, cond, not, ◌||◌, T, List, [], ◌∷◌, ◌++◌, length, get_or, take, drop, slice_index_or, refl, Float}
use Rattle.std.proofs.Common.{sym, ap, ap₂, ◌∙◌, subst, arith, append_assoc, append-nil, length-append, length-drop, drop_of_length-le, length-take-le, get_or-take, get_or-drop}
use mathlib.Core.List.Memᴰ
use mathlib.Core.List.Memᴰ.{tail as there}
use Rattle.std.proofs.Math.Seq.{take-nil}
use Rattle.lists.specs.Tests.{case, holds, fails, is_true, is_false}
use Rattle.lists.specs.Lists.{◌∈◌, any, keep_if, sort_by, firsts}
use Rattle.lists.specs.Members.{drop_next, member_at}
use Rattle.lists.specs.Order.{sort_first, sort_behind}
use Rattle.real32.specs.Order.{le_real_l, le_trans, lt_le_trans, not_lt→le, lt_not_le}
use Rattle.model.specs.Basics.{◌≺◌, ◌≼◌}
use Rattle.entries.specs.declared.Entry.{Entry}
use Rattle.entries.specs.Entries.{no_entry, same_key}
use Rattle.entries.specs.Ways.{Rising, WithinIs, list_of}
use Rattle.entries.specs.Laws.{any_last}

-- ---- lists

module _ {A : Type 0} where
  keep_append : (p : A → Bool) (xs ys : List A) → keep_if p (xs ++ ys) ≡ keep_if p xs ++ keep_if p ys
  keep_append p [] ys = refl
  keep_append p (x ∷ xs) ys = go (p x) (keep_append p xs ys)
    where
      go : (b : Bool) → keep_if p (xs ++ ys) ≡ keep_if p xs ++ keep_if p ys → cond b (x ∷ keep_if p (xs ++ ys)) (keep_if p (xs ++ ys)) ≡ cond b (x ∷ keep_if p xs) (keep_if p xs) ++ keep_if p ys
      go true e = ap (λ (l : List A). x ∷ l) e
      go false e = e

  keep_none : (p : A → Bool) (xs : List A) (d : A) → ((i : ℕ) → i < length xs → p (slice_index_or xs i d) ≡ false) → keep_if p xs ≡ []
  keep_none p [] d f = refl
  keep_none p (x ∷ xs) d f = rw (f 0 (omega arith)) (keep_none p xs d (λ i l. f (suc i) (omega arith)))

  -- a test that the first n pass and no other
  keep_front : (p : A → Bool) (xs : List A) (d : A) (n : ℕ) → n ≤ length xs → ((i : ℕ) → i < n → p (slice_index_or xs i d) ≡ true) → ((i : ℕ) → n ≤ i → i < length xs → p (slice_index_or xs i d) ≡ false) → keep_if p xs ≡ take n xs
  keep_front p [] d n h t f = sym (take-nil n)
  keep_front p (x ∷ xs) d zero h t f = keep_none p (x ∷ xs) d (λ i l. f i (omega arith) l)
  keep_front p (x ∷ xs) d (suc n) h t f = rw (t 0 (omega arith)) (ap (λ (l : List A). x ∷ l) (keep_front p xs d n (omega arith) (λ i l. t (suc i) (omega arith)) (λ i u l. f (suc i) (omega arith) (omega arith))))

  -- ---- the list that is filled: so many at most of what is new in the rest

  -- `done` stand, and `rest` is to come
  pub record ToGo (same : A → A → Bool) (cap : ℕ) (all done rest : List A) : Type 0 where
    pub is : done ++ take (cap - length done) (firsts same done rest) ≡ all

  -- only which ones were seen counts
  firsts_alike : (same : A → A → Bool) (xs s t : List A) → ((x : A) → any (same x) s ≡ any (same x) t) → firsts same s xs ≡ firsts same t xs
  firsts_alike same [] s t e = refl
  firsts_alike same (x ∷ xs) s t e = rw (firsts, e x) (go (any (same x) t) (firsts_alike same xs s t e) (firsts_alike same xs (x ∷ s) (x ∷ t) (λ y. ap (λ (b : Bool). same y x || b) (e y))))
    where
      go : (b : Bool) → firsts same s xs ≡ firsts same t xs → firsts same (x ∷ s) xs ≡ firsts same (x ∷ t) xs
          → ◌≡◌ {A = List A} (elim b as (λ c. List A) [ true ↦ firsts same s xs | false ↦ x ∷ firsts same (x ∷ s) xs ]) (elim b as (λ c. List A) [ true ↦ firsts same t xs | false ↦ x ∷ firsts same (x ∷ t) xs ])
      go true p q = p
      go false p q = ap (λ (l : List A). x ∷ l) q

  firsts_seen : (same : A → A → Bool) (seen : List A) (x : A) (xs : List A) → any (same x) seen ≡ true → firsts same seen (x ∷ xs) ≡ firsts same seen xs
  firsts_seen same seen x xs e = rw (firsts, e) refl

  firsts_new : (same : A → A → Bool) (seen : List A) (x : A) (xs : List A) → any (same x) seen ≡ false → firsts same seen (x ∷ xs) ≡ x ∷ firsts same (x ∷ seen) xs
  firsts_new same seen x xs e = rw (firsts, e) refl

  module _ {same : A → A → Bool} {cap : ℕ} {all done : List A} where
    pub go_seen : {x : A} {rest : List A} → ToGo same cap all done (x ∷ rest) → any (same x) done ≡ true → ToGo same cap all done rest
    go_seen {x} {rest} G e = record { is = ap (λ (l : List A). done ++ take (cap - length done) l) (sym (firsts_seen same done x rest e)) ∙ G.is }

    module _ {x : A} {rest : List A} (G : ToGo same cap all done (x ∷ rest)) (e : any (same x) done ≡ false) (l : length done < cap) where
      -- x comes next
      new_is : done ++ x ∷ take (cap - (length done + 1)) (firsts same (x ∷ done) rest) ≡ all
      new_is =
          let k : cap - length done ≡ suc (cap - (length done + 1)) = omega arith in
          sym (ap₂ (λ (n : ℕ) (ys : List A). done ++ take n ys) k (firsts_new same done x rest e)) ∙ G.is

      pub go_put : ToGo same cap all (done ++ x ∷ []) rest
      go_put =
          record {
            is = append_assoc done (x ∷ []) (take (cap - length (done ++ x ∷ [])) (firsts same (done ++ x ∷ []) rest))
                ∙ ap₂ (λ (n : ℕ) (ys : List A). done ++ x ∷ take (cap - n) ys) (length-append done (x ∷ []))
                (firsts_alike same rest (done ++ x ∷ []) (x ∷ done) (λ y. any_last (same y) done x))
                ∙ new_is;
          }

      pub go_full : length done < length all
      go_full = let z = ap length (sym new_is) ∙ length-append done (x ∷ take (cap - (length done + 1)) (firsts same (x ∷ done) rest)) in omega arith

    pub go_end : ToGo same cap all done [] → done ≡ all
    go_end G = sym (append-nil done) ∙ ap (λ (l : List A). done ++ l) (sym (take-nil (cap - length done))) ∙ G.is

    pub go_cap : {rest : List A} → ToGo same cap all done rest → length done ≡ cap → done ≡ all
    go_cap {rest} G e = sym (append-nil done) ∙ ap (λ (l : List A). done ++ l) (sym (take_zero (firsts same done rest))) ∙ ap (λ (n : ℕ). done ++ take n (firsts same done rest)) (let z : 0 ≡ cap - length done = omega arith in z) ∙ G.is
      where
        take_zero : (ys : List A) → take 0 ys ≡ []
        take_zero [] = refl
        take_zero (y ∷ ys) = refl

-- ---- costs

abbrev cheaper : Entry → Entry → Bool
cheaper a b = a.cost ≺ b.cost

-- what is to come past i of the one list and j of the other
abbrev pub rest : (os ks : List Entry) → (i j : ℕ) → List Entry
rest os ks i j = sort_by (λ (a b : Entry). a.cost ≺ b.cost) (drop i os ++ drop j ks)

rising_from : (es : List Entry) → Rising es → (i : ℕ) (y : Entry) → y ∈ drop i es → (i < length es) × T ((get_or es i no_entry).cost ≼ y.cost)
rising_from es R i y m =
    let (k, h, e) = member_at (drop i es) y no_entry m in
    let z = length-drop i es in
    (omega arith, subst (λ (b : Entry). T ((get_or es i no_entry).cost ≼ b.cost)) (sym (get_or-drop i es k no_entry) ∙ e) (R i (i + k) (omega arith) (omega arith)))

rising_past : (es : List Entry) → Rising es → (i : ℕ) → i < length es → (y : Entry) → y ∈ drop (i + 1) es → T ((get_or es i no_entry).cost ≼ y.cost)
rising_past es R i l y m = (rising_from es R i y (subst (λ (ys : List Entry). y ∈ ys) (sym (drop_next es i no_entry l)) (there m))).1

not_cheaper : (a b : Entry) → T (b.cost ≼ a.cost) → cheaper a b ≡ false
not_cheaper a b h = is_false (λ t. lt_not_le a.cost b.cost t h)

module _ (os ks : List Entry) (ro : Rising os) (rk : Rising ks) (i j : ℕ) where
  pub own_first_lem : i < length os → (j < length ks → cheaper (slice_index_or ks j no_entry) (slice_index_or os i no_entry) ≡ false) → rest os ks i j ≡ slice_index_or os i no_entry ∷ rest os ks (i + 1) j
  own_first_lem l h =
      ap (λ (ys : List Entry). sort_by cheaper (ys ++ drop j ks)) (drop_next os i no_entry l)
      ∙ sort_first cheaper x (drop (i + 1) os ++ drop j ks) (λ y m. case (Memᴰ.append_cases (drop (i + 1) os) m) (λ k. not_cheaper y x (rising_past os ro i l y k)) (λ k. not_cheaper y x (beside y k)))
    where
      x : Entry
      x = slice_index_or os i no_entry

      beside : (y : Entry) → y ∈ drop j ks → T (x.cost ≼ y.cost)
      beside y k =
          let (u, v) = rising_from ks rk j y k in
          let a = (get_or ks j no_entry).cost in
          le_trans x.cost a y.cost (not_lt→le a x.cost (le_real_l a y.cost v) (le_real_l x.cost x.cost (ro i i (omega arith) l)) (fails (h u))) v

  pub kept_first_lem : j < length ks → (i < length os → cheaper (slice_index_or ks j no_entry) (slice_index_or os i no_entry) ≡ true) → rest os ks i j ≡ slice_index_or ks j no_entry ∷ rest os ks i (j + 1)
  kept_first_lem l h =
      ap (λ (ys : List Entry). sort_by cheaper (drop i os ++ ys)) (drop_next ks j no_entry l)
      ∙ sort_behind cheaper (drop i os) y (drop (j + 1) ks) (λ x m. let (u, v) = rising_from os ro i x m in is_true (lt_le_trans y.cost (get_or os i no_entry).cost x.cost (holds (h u)) v)) (λ z m. not_cheaper z y (rising_past ks rk j l z m))
    where
      y : Entry
      y = slice_index_or ks j no_entry

pub rest_none : (os ks : List Entry) (i j : ℕ) → length os ≤ i → length ks ≤ j → rest os ks i j ≡ []
rest_none os ks i j h k = ap₂ (λ (xs ys : List Entry). sort_by cheaper (xs ++ ys)) (drop_of_length-le os h) (drop_of_length-le ks k)

pub rising-take : (es : List Entry) (n : ℕ) → n ≤ length es → Rising es → Rising (take n es)
rising-take es n h R i j a b =
    let z = length-take-le n es h in
    subst (λ (x : Entry). T (x.cost ≼ (get_or (take n es) j no_entry).cost)) (sym (get_or-take n es i no_entry (omega arith))) (subst (λ (y : Entry). T ((get_or es i no_entry).cost ≼ y.cost)) (sym (get_or-take n es j no_entry (omega arith))) (R i j a (omega arith)))

-- along rising costs the margin keeps a front part
within-take : (es : List Entry) (margin : Float) (n : ℕ) → Rising es → WithinIs es margin n → keep_if (λ (b : Entry). not (margin ≺ b.cost)) es ≡ take n es
within-take es margin n R W =
    keep_front (λ (b : Entry). not (margin ≺ b.cost)) es no_entry n W.few (λ i l. ap not (W.passed i l))
    (λ i u l. ap not (is_true {b = margin ≺ (get_or es i no_entry).cost} (lt_le_trans margin (get_or es n no_entry).cost (get_or es i no_entry).cost (holds (W.cut (omega arith))) (R n i u l))))

pub go_none : (margin : Float) (cap n m : ℕ) (own kept : List Entry) → Rising own → Rising kept → WithinIs own margin n → WithinIs kept margin m → ToGo same_key cap (list_of margin cap own kept) [] (rest (take n own) (take m kept) 0 0)
unfolding list_of
go_none margin cap n m own kept ro rk W X =
    record { is = ap₂ (λ (k : ℕ) (ys : List Entry). take k (firsts same_key [] (sort_by cheaper ys))) (let e : cap - 0 ≡ cap = omega arith in e) (ap₂ (λ (xs ys : List Entry). xs ++ ys) (drop_zero (take n own)) (drop_zero (take m kept)) ∙ sym (keep_append (λ (b : Entry). not (margin ≺ b.cost)) own kept ∙ ap₂ (λ (xs ys : List Entry). xs ++ ys) (within-take own margin n ro W) (within-take kept margin m rk X))) }
  where
    drop_zero : (xs : List Entry) → drop 0 xs ≡ xs
    drop_zero [] = refl
    drop_zero (x ∷ xs) = refl
