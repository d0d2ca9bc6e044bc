-- A map by key that keeps the least of each key as it meets them: it holds the minima, and in whatever order they come out, sorted they are one list. Assumes nothing.
use Rattle.std.specs.Prelude.{◌≡◌, ◌⊎◌, Bool, not}
use Rattle.std.proofs.Math.Path.{refl, sym, ap, subst}
use Rattle.std.proofs.Common.{◌∙◌}
use Rattle.std.proofs.Math.Logic.{inl, inr}
use Rattle.std.proofs.Math.Bool.{true, false, cond}
use mathlib.Core.List.Memᴰ
use mathlib.Core.List.Memᴰ.{head as here}
use mathlib.Core.List.Memᴰ.{tail as there}
use mathlib.Core.List.{List, [], ◌∷◌, ◌++◌, append-nil, append_assoc, map}
use Rattle.std.proofs.lemmas.Bool.{not-true, not-false}
use Rattle.lists.specs.Tests.{case, never}
use Rattle.lists.specs.Lists.{◌∈◌}
use Rattle.lists.specs.Members.{map_from, map_to}
use Rattle.lists.specs.Order.{Perm, perm_nil, perm-cons, perm_swap, perm_then, perm_member, perm_sym, Strict}
use Rattle.lists.specs.Count.{Nodup}
use Rattle.copy_laws.proofs.Minima.{not_itself, Minima}
use Rattle.copy_laws.specs.Folded.{take_in, take_all}

-- the test finds equal keys
module _ {A K : Type 0} (key : A → K) (alike : K → K → Bool) (stays : (old new : A) → Bool) (alike_is : (j k : K) → alike j k ≡ true → j ≡ k) (alike_refl : (j k : K) → j ≡ k → alike j k ≡ true) where
  abbrev into : A → List A → List A
  into = take_in key alike stays

  not_alike : (x y : A) → alike (key x) (key y) ≡ false → key x ≡ key y → ⊥
  not_alike x y e q = never (sym e ∙ alike_refl (key x) (key y) q)

  -- what holds of every entry: those of other keys, the one of x's key, and x where its key is new
  take_each : (x : A) (Q : A → Type 0) (ys : List A) → Nodup (map key ys) → ((y : A) → y ∈ ys → (key x ≡ key y → ⊥) → Q y) → ((y : A) → y ∈ ys → key x ≡ key y → Q (cond (stays y x) y x))
      → (((y : A) → y ∈ ys → key x ≡ key y → ⊥) → Q x) → (z : A) → z ∈ into x ys → Q z
  unfolding take_in
  take_each x Q [] n other met new z (here e) = subst Q (sym e) (new (λ y m. elim m [ ]))
  take_each x Q [] n other met new z (there m) = elim m [ ]
  take_each x Q (y ∷ ys) n other met new z m = go (alike (key x) (key y)) refl m (λ new. take_each x Q ys n.1 (λ w k. other w (there k)) (λ w k. met w (there k)) new z)
    where
      fresh : (key x ≡ key y → ⊥) → ((w : A) → w ∈ ys → key x ≡ key w → ⊥) → (w : A) → w ∈ (y ∷ ys) → key x ≡ key w → ⊥
      fresh d f w (here e) q = d (q ∙ ap key e)
      fresh d f w (there k) q = f w k q

      go : (b : Bool) → alike (key x) (key y) ≡ b → z ∈ (elim b as (λ c. List A) [ true ↦ cond (stays y x) y x ∷ ys | false ↦ y ∷ into x ys ]) → ((((w : A) → w ∈ ys → key x ≡ key w → ⊥) → Q x) → z ∈ into x ys → Q z) → Q z
      go true e (here q) rec = subst Q (sym q) (met y (here refl) (alike_is (key x) (key y) e))
      go true e (there k) rec = other z (there k) (λ q. n.0 (subst (λ (j : K). j ∈ map key ys) (sym q ∙ alike_is (key x) (key y) e) (map_to key ys z k)))
      go false e (here q) rec = subst Q (sym q) (other y (here refl) (not_alike x y e))
      go false e (there k) rec = rec (λ f. new (fresh (not_alike x y e) f)) k

  key_of : (x y : A) → key x ≡ key y → key (cond (stays y x) y x) ≡ key x
  key_of x y e = go (stays y x)
    where
      go : (b : Bool) → key (cond b y x) ≡ key x
      go true = sym e
      go false = refl

  -- every key is there, and x's
  take_key : (x : A) (ys : List A) (j : K) → (j ∈ map key ys) ⊎ (j ≡ key x) → j ∈ map key (into x ys)
  unfolding take_in
  take_key x [] j (inl m) = elim m [ ]
  take_key x [] j (inr e) = here e
  take_key x (y ∷ ys) j c = go (alike (key x) (key y)) refl c (take_key x ys j)
    where
      go : (b : Bool) → alike (key x) (key y) ≡ b → (j ∈ map key (y ∷ ys)) ⊎ (j ≡ key x) → ((j ∈ map key ys) ⊎ (j ≡ key x) → j ∈ map key (into x ys)) → j ∈ map key (elim b as (λ c. List A) [ true ↦ cond (stays y x) y x ∷ ys | false ↦ y ∷ into x ys ])
      go true e (inl (here q)) rec = here (q ∙ sym (alike_is (key x) (key y) e) ∙ sym (key_of x y (alike_is (key x) (key y) e)))
      go true e (inl (there m)) rec = there m
      go true e (inr q) rec = here (q ∙ sym (key_of x y (alike_is (key x) (key y) e)))
      go false e (inl (here q)) rec = here q
      go false e (inl (there m)) rec = there (rec (inl m))
      go false e (inr q) rec = there (rec (inr q))

  key_from : (x : A) (ys : List A) (j : K) → j ∈ map key (into x ys) → (j ∈ map key ys) ⊎ (j ≡ key x)
  unfolding take_in
  key_from x [] j (here e) = inr e
  key_from x [] j (there m) = elim m [ ]
  key_from x (y ∷ ys) j m = go (alike (key x) (key y)) refl m (key_from x ys j)
    where
      go : (b : Bool) → alike (key x) (key y) ≡ b → j ∈ map key (elim b as (λ c. List A) [ true ↦ cond (stays y x) y x ∷ ys | false ↦ y ∷ into x ys ]) → (j ∈ map key (into x ys) → (j ∈ map key ys) ⊎ (j ≡ key x)) → (j ∈ map key (y ∷ ys)) ⊎ (j ≡ key x)
      go true e (here q) rec = inr (q ∙ key_of x y (alike_is (key x) (key y) e))
      go true e (there k) rec = inl (there k)
      go false e (here q) rec = inl (here q)
      go false e (there k) rec = case (rec k) (λ i. inl (there i)) inr

  take_nodup : (x : A) (ys : List A) → Nodup (map key ys) → Nodup (map key (into x ys))
  unfolding take_in
  take_nodup x [] n = (λ m. elim m [ ], tt)
  take_nodup x (y ∷ ys) n = go (alike (key x) (key y)) refl (take_nodup x ys n.1)
    where
      go : (b : Bool) → alike (key x) (key y) ≡ b → Nodup (map key (into x ys)) → Nodup (map key (elim b as (λ c. List A) [ true ↦ cond (stays y x) y x ∷ ys | false ↦ y ∷ into x ys ]))
      go true e r = (λ m. n.0 (subst (λ (j : K). j ∈ map key ys) (key_of x y (alike_is (key x) (key y) e) ∙ alike_is (key x) (key y) e) m), n.1)
      go false e r = (λ m. case (key_from x ys (key y) m) n.0 (λ q. not_alike x y e (sym q)), r)

  -- ---- the map holds the least of each key that it has met

  module _ (before : A → A → Bool) (P : A → Type 0) (strict : Strict P before) (stays-least : (old new : A) → P old → P new → stays old new ≡ not (before new old)) where
    one_in : (x q : A) (xs : List A) → q ∈ (xs ++ (x ∷ [])) → (q ∈ xs) ⊎ (q ≡ x)
    one_in x q xs m = case (Memᴰ.append_cases xs m) inl (λ k. inr (only k))
      where
        only : q ∈ (x ∷ []) → q ≡ x
        only (here e) = e
        only (there k) = elim k [ ]

    take_minima : (xs ys : List A) (x : A) → ((q : A) → q ∈ xs → P q) → P x → Minima key before xs ys → Minima key before (xs ++ (x ∷ [])) (into x ys)
    take_minima xs ys x ps px a =
        record {
          from = take_each x (λ z. z ∈ (xs ++ (x ∷ []))) ys a.apart (λ y m d. Memᴰ.append_left (x ∷ []) (a.from y m)) (λ y m e. either_in y m (stays y x)) (λ f. Memᴰ.append_right xs (here refl));
          least = λ z q m n e.
              take_each x (λ z. (q : A) → q ∈ (xs ++ (x ∷ [])) → key q ≡ key z → before q z ≡ false) ys a.apart (λ y i d q k e. case (one_in x q xs k) (λ j. a.least y q i j e) (λ j. absurd (d (ap key (sym j) ∙ e))))
              (λ y i e q k r. met y i e (stays y x) (stays-least y x (ps y (a.from y i)) px) q (one_in x q xs k) r)
              (λ f q k e. case (one_in x q xs k) (λ j. let (y, i, r) = a.each q j in absurd (f y i (sym e ∙ r))) (λ j. ap (λ (w : A). before w x) j ∙ not_itself P before strict x px)) z m q n e;
          each = λ q m.
              let at : key q ∈ map key (into x ys) = take_key x ys (key q) (case (one_in x q xs m) (λ j. let (y, i, e) = a.each q j in inl (subst (λ (k : K). k ∈ map key ys) (sym e) (map_to key ys y i))) (λ j. inr (ap key j))) in
              let (z, k, e) = map_from key (into x ys) (key q) at in
              (z, k, e);
          apart = take_nodup x ys a.apart;
        }
      where
        either_in : (y : A) → y ∈ ys → (b : Bool) → cond b y x ∈ (xs ++ (x ∷ []))
        either_in y m true = Memᴰ.append_left (x ∷ []) (a.from y m)
        either_in y m false = Memᴰ.append_right xs (here refl)

        met : (y : A) → y ∈ ys → key x ≡ key y → (b : Bool) → b ≡ not (before x y) → (q : A) → (q ∈ xs) ⊎ (q ≡ x) → key q ≡ key (cond b y x) → before q (cond b y x) ≡ false
        met y i e true t q (inl k) r = a.least y q i k r
        met y i e true t q (inr k) r = ap (λ (w : A). before w y) k ∙ not-true (before x y) (sym t)
        met y i e false t q (inl k) r = strict.through q y x (ps q k) (ps y (a.from y i)) px (a.least y q i k (r ∙ e)) (strict.asym x y px (ps y (a.from y i)) (not-false (before x y) (sym t)))
        met y i e false t q (inr k) r = ap (λ (w : A). before w x) k ∙ not_itself P before strict x px

    pub all_minima : (xs ys rest : List A) → ((q : A) → q ∈ (xs ++ rest) → P q) → Minima key before xs ys → Minima key before (xs ++ rest) (take_all key alike stays ys rest)
    unfolding take_all
    all_minima xs ys [] ps a = subst (λ (l : List A). Minima key before l ys) (sym (append-nil xs)) a
    all_minima xs ys (x ∷ rest) ps a =
        let e = append_assoc xs (x ∷ []) rest in
        subst (λ (l : List A). Minima key before l (take_all key alike stays (into x ys) rest)) e
        (all_minima (xs ++ (x ∷ [])) (into x ys) rest (λ q m. ps q (subst (λ (l : List A). q ∈ l) e m)) (take_minima xs ys x (λ q m. ps q (Memᴰ.append_left (x ∷ rest) m)) (ps x (Memᴰ.append_right xs (here refl))) a))

    pub map_minima : (xs : List A) → ((q : A) → q ∈ xs → P q) → Minima key before xs (take_all key alike stays [] xs)
    map_minima xs ps = all_minima [] [] xs ps (record { from = λ y m. elim m [ ]; least = λ y x m. elim m [ ]; each = λ x m. elim m [ ]; apart = tt })

-- ---- rearranged

pub perm-map : {A B : Type 0} (f : A → B) {xs ys : List A} → Perm xs ys → Perm (map f xs) (map f ys)
perm-map f perm_nil = perm_nil
perm-map f (perm-cons p) = perm-cons (perm-map f p)
perm-map f perm_swap = perm_swap
perm-map f (perm_then p q) = perm_then (perm-map f p) (perm-map f q)

pub perm_nodup : {A : Type 0} {xs ys : List A} → Perm xs ys → Nodup xs → Nodup ys
perm_nodup perm_nil n = n
perm_nodup (perm-cons {x} p) n = (λ m. n.0 (perm_member (perm_sym p) x m), perm_nodup p n.1)
perm_nodup (perm_swap {x} {y} {xs = rest}) n = (swapped, (λ m. n.0 (there m), n.1.1))
  where
    swapped : y ∈ (x ∷ rest) → ⊥
    swapped (here e) = n.0 (here (sym e))
    swapped (there m) = n.1.0 m
perm_nodup (perm_then p q) n = perm_nodup q (perm_nodup p n)
