-- The map holds of each class the best, whatever the order in which they came. Assumes nothing.
use Rattle.std.specs.Prelude.{◌≡◌, Bool, true, false, cond, ◌⊎◌, List, [], ◌∷◌, map, ◌≢◌, refl}
use Rattle.std.proofs.Common.{sym, ap, ◌∙◌, subst, inl, inr}
use mathlib.Core.List.Memᴰ.{head as here}
use mathlib.Core.List.Memᴰ.{tail as there}
use Rattle.lists.specs.Lists.{◌∈◌, any, sort_by, firsts}
use Rattle.lists.specs.Tests.{case, either, never}
use Rattle.lists.specs.Members.{any_some, sort_from, firsts_from}
use Rattle.lists.specs.Order.{Perm, perm_nil, perm-cons, perm_swap, perm_then, perm_refl, Sorted, Strict, sort_sorted, sort_to}
use Rattle.lists.specs.Firsts.{Apart, Firsts, firsts_are}
use Rattle.kept_readings.specs.Kept.{add_to, all_from}

-- ---- lists with the same members, of which no two are the same

module _ {A : Type 0} (same : A → A → Bool) where
  -- ys without one x
  data Out (x : A) : List A → List A → Type 0 where
    out_here : {y : A} {ys : List A} → x ≡ y → Out x (y ∷ ys) ys
    out_there : {y : A} {ys zs : List A} → Out x ys zs → Out x (y ∷ ys) (y ∷ zs)

  out_of : (x : A) (ys : List A) → x ∈ ys → (zs : List A) × Out x ys zs
  out_of x [] x'' = elim x'' [ ]
  out_of x (y ∷ ys) (here e) = (ys, out_here e)
  out_of x (y ∷ ys) (there m) = let (zs, o) = out_of x ys m in (y ∷ zs, out_there o)

  out_perm : {x : A} {ys zs : List A} → Out x ys zs → Perm (x ∷ zs) ys
  out_perm {x} (out_here {y} {ys} e) = subst (λ (w : A). Perm (x ∷ ys) (w ∷ ys)) e (perm_refl (x ∷ ys))
  out_perm (out_there o) = perm_then perm_swap (perm-cons (out_perm o))

  out_in : {x : A} {ys zs : List A} → Out x ys zs → (z : A) → z ∈ zs → z ∈ ys
  out_in (out_here e) z m = there m
  out_in (out_there o) z (here e) = here e
  out_in (out_there o) z (there m) = there (out_in o z m)

  out_or : {x : A} {ys zs : List A} → Out x ys zs → (z : A) → z ∈ ys → (z ≡ x) ⊎ (z ∈ zs)
  out_or (out_here e) z (here q) = inl (q ∙ sym e)
  out_or (out_here e) z (there m) = inr m
  out_or (out_there o) z (here q) = inr (here q)
  out_or (out_there o) z (there m) = case (out_or o z m) (λ e. inl e) (λ k. inr (there k))

  out_apart : {x : A} {ys zs : List A} → Out x ys zs → Apart same ys → Apart same zs
  out_apart (out_here e) a = a.1
  out_apart (out_there o) a = (λ z m. a.0 z (out_in o z m), out_apart o a.1)

  module _ (refl-same : (x : A) → same x x ≡ true) where
    out_none : {x : A} {ys zs : List A} → Out x ys zs → Apart same ys → x ∈ zs → ⊥
    out_none {x} (out_here {y} e) a m = never (sym (a.0 x m) ∙ ap (same x) (sym e) ∙ refl-same x)
    out_none {x} (out_there {y} o) a (here q) = never (sym (a.0 x (out_self o)) ∙ ap (same x) (sym q) ∙ refl-same x)
      where
        out_self : {x : A} {ys zs : List A} → Out x ys zs → x ∈ ys
        out_self (out_here e) = here e
        out_self (out_there o) = there (out_self o)
    out_none (out_there o) a (there m) = out_none o a.1 m

    apart_perm : (xs ys : List A) → Apart same xs → Apart same ys → ((x : A) → x ∈ xs → x ∈ ys) → ((y : A) → y ∈ ys → y ∈ xs) → Perm xs ys
    apart_perm [] [] a b f g = perm_nil
    apart_perm [] (y ∷ ys) a b f g = elim (g y (here refl)) [ ]
    apart_perm (x ∷ xs) ys a b f g =
        let (zs, o) = out_of x ys (f x (here refl)) in
        perm_then (perm-cons (apart_perm xs zs a.1 (out_apart o b)
        (λ z m. case (out_or o z (f z (there m))) (λ e. never (sym (a.0 z m) ∙ ap (same z) (sym e) ∙ refl-same z)) (λ k. k))
        (λ z m. behind z zs o m (g z (out_in o z m))))) (out_perm o)
      where
        behind : (z : A) (zs : List A) → Out x ys zs → z ∈ zs → z ∈ (x ∷ xs) → z ∈ xs
        behind z zs o m (here e) = absurd (out_none o b (subst (λ (w : A). w ∈ zs) e m))
        behind z zs o m (there k) = k

-- ---- of each class the best

module _ {A : Type 0} (same sooner : A → A → Bool) where
  -- xs has one of each class of those that are in, and none in comes sooner than it
  pub record BestsOf (In : A → Type 0) (xs : List A) : Type 0 where
    pub apart : Apart same xs
    pub from : (x : A) → x ∈ xs → In x
    pub best : (x : A) → x ∈ xs → (y : A) → In y → same x y ≡ true → sooner y x ≡ false
    pub each : (y : A) → In y → (x : A) × (x ∈ xs) × (same y x ≡ true)

  -- `same` is an equivalence, and `sooner` a strict order of what P admits
  pub record Orders (P : A → Type 0) : Type 0 where
    pub itself : (x : A) → same x x ≡ true
    pub turned : (x y : A) → same x y ≡ true → same y x ≡ true
    pub along : (x y z : A) → same x y ≡ true → same y z ≡ true → same x z ≡ true
    pub strict : Strict P sooner

  module _ {P : A → Type 0} (O : Orders P) where
    not_itself : (x : A) → P x → sooner x x ≡ false
    not_itself x p = case (either (sooner x x)) (λ t. O.strict.asym x x p p t) (λ f. f)

    -- a member of the list with k added: it is k, which comes sooner than the one of its class, or it was there, and k does not come sooner
    added_from : (k : A) (xs : List A) → Apart same xs → (y : A) → y ∈ add_to same sooner k xs
        → ((y ≡ k) × ((x : A) → x ∈ xs → same k x ≡ true → sooner k x ≡ true)) ⊎ ((y ∈ xs) × (same k y ≡ true → sooner k y ≡ false))
    added_from k [] a y (here e) = inl (e, λ x m. elim m [ ])
    added_from k [] a y (there m) = elim m [ ]
    added_from k (x ∷ xs) a y w = go (same k x) refl (sooner k x) refl (added_from k xs a.1 y) w
      where
        -- no other is of k's class
        alone : same k x ≡ true → (z : A) → z ∈ xs → same k z ≢ true
        alone e z m t = never (sym (a.0 z m) ∙ O.along z k x (O.turned k z t) e)

        Is : A → Type 0
        Is y = ((y ≡ k) × ((z : A) → z ∈ (x ∷ xs) → same k z ≡ true → sooner k z ≡ true)) ⊎ ((y ∈ (x ∷ xs)) × (same k y ≡ true → sooner k y ≡ false))

        first : same k x ≡ true → sooner k x ≡ true → (z : A) → z ∈ (x ∷ xs) → same k z ≡ true → sooner k z ≡ true
        first e s z (here q) t = ap (sooner k) q ∙ s
        first e s z (there m) t = absurd (alone e z m t)

        not_first : same k x ≡ false → ((z : A) → z ∈ xs → same k z ≡ true → sooner k z ≡ true) → (z : A) → z ∈ (x ∷ xs) → same k z ≡ true → sooner k z ≡ true
        not_first e f z (here q) t = never (sym e ∙ ap (same k) (sym q) ∙ t)
        not_first e f z (there m) t = f z m t

        more : same k x ≡ false → ((y ≡ k) × ((z : A) → z ∈ xs → same k z ≡ true → sooner k z ≡ true)) ⊎ ((y ∈ xs) × (same k y ≡ true → sooner k y ≡ false)) → Is y
        more e (inl (q, f)) = inl (q, not_first e f)
        more e (inr (m, f)) = inr (there m, f)

        go : (b : Bool) → same k x ≡ b → (d : Bool) → sooner k x ≡ d
            → (y ∈ add_to same sooner k xs → ((y ≡ k) × ((z : A) → z ∈ xs → same k z ≡ true → sooner k z ≡ true)) ⊎ ((y ∈ xs) × (same k y ≡ true → sooner k y ≡ false)))
            → y ∈ cond b (cond d k x ∷ xs) (x ∷ add_to same sooner k xs) → Is y
        go true e true s r (here q) = inl (q, first e s)
        go true e false s r (here q) = inr (here q, λ t. ap (sooner k) q ∙ s)
        go true e d s r (there m) = inr (there m, λ t. absurd (alone e y m t))
        go false e d s r (here q) = inr (here q, λ t. never (sym e ∙ ap (same k) (sym q) ∙ t))
        go false e d s r (there m) = more e (r m)

    -- k and what was there have one of their class
    added_each : (k : A) (xs : List A) (y : A) → (y ≡ k) ⊎ (y ∈ xs) → (x : A) × (x ∈ add_to same sooner k xs) × (same y x ≡ true)
    added_each k [] y (inl e) = (k, here refl, ap (λ (w : A). same w k) e ∙ O.itself k)
    added_each k [] y (inr m) = elim m [ ]
    added_each k (x ∷ xs) y w = go (same k x) refl (sooner k x) w (added_each k xs y)
      where
        go : (b : Bool) → same k x ≡ b → (d : Bool) → (y ≡ k) ⊎ (y ∈ (x ∷ xs)) → ((y ≡ k) ⊎ (y ∈ xs) → (z : A) × (z ∈ add_to same sooner k xs) × (same y z ≡ true))
            → (z : A) × (z ∈ cond b (cond d k x ∷ xs) (x ∷ add_to same sooner k xs)) × (same y z ≡ true)
        go true e true (inl q) r = (k, here refl, ap (λ (w : A). same w k) q ∙ O.itself k)
        go true e false (inl q) r = (x, here refl, ap (λ (w : A). same w x) q ∙ e)
        go true e true (inr (here q)) r = (k, here refl, ap (λ (w : A). same w k) q ∙ O.turned k x e)
        go true e false (inr (here q)) r = (x, here refl, ap (λ (w : A). same w x) q ∙ O.itself x)
        go true e d (inr (there m)) r = (y, there m, O.itself y)
        go false e d (inl q) r = let (z, m, t) = r (inl q) in (z, there m, t)
        go false e d (inr (here q)) r = (x, here refl, ap (λ (w : A). same w x) q ∙ O.itself x)
        go false e d (inr (there m)) r = let (z, n, t) = r (inr m) in (z, there n, t)

    added_apart : (k : A) (xs : List A) → Apart same xs → Apart same (add_to same sooner k xs)
    added_apart k [] a = (λ y m. elim m [ ], tt)
    added_apart k (x ∷ xs) a = go (same k x) refl (sooner k x) (added_apart k xs a.1) (added_from k xs a.1)
      where
        other : (z : A) → same k x ≡ true → z ∈ xs → same z k ≡ false
        other z e m = case (either (same z k)) (λ t. never (sym (a.0 z m) ∙ O.along z k x t e)) (λ f. f)

        mine : (z : A) → same k x ≡ false → z ≡ k → same z x ≡ false
        mine z e q = ap (λ (w : A). same w x) q ∙ e

        go : (b : Bool) → same k x ≡ b → (d : Bool) → Apart same (add_to same sooner k xs)
            → ((y : A) → y ∈ add_to same sooner k xs → ((y ≡ k) × ((z : A) → z ∈ xs → same k z ≡ true → sooner k z ≡ true)) ⊎ ((y ∈ xs) × (same k y ≡ true → sooner k y ≡ false)))
            → Apart same (cond b (cond d k x ∷ xs) (x ∷ add_to same sooner k xs))
        go true e true r f = (λ z m. other z e m, a.1)
        go true e false r f = a
        go false e d r f = (λ z m. case (f z m) (λ u. mine z e u.0) (λ u. a.0 z u.0), r)

    module _ {In : A → Type 0} (each_in : (x : A) → In x → P x) {xs : List A} (B : BestsOf In xs) where
      -- one more that is in
      bests_next : (k : A) → P k → BestsOf (λ y. (y ≡ k) ⊎ In y) (add_to same sooner k xs)
      bests_next k pk =
          record {
            apart = added_apart k xs B.apart;
            from = λ x m. case (added_from k xs B.apart x m) (λ u. inl u.0) (λ u. inr (B.from x u.0));
            best = λ x m y i t. case (added_from k xs B.apart x m) (λ u. is_k x u.0 u.1 y i t) (λ u. was_there x u.0 u.1 y i t);
            each = λ y i. case i (λ q. added_each k xs y (inl q)) (λ j. let (x, m, t) = B.each y j in let (z, n, u) = added_each k xs x (inr m) in (z, n, O.along y x z t u));
          }
        where
          was_there : (x : A) → x ∈ xs → (same k x ≡ true → sooner k x ≡ false) → (y : A) → (y ≡ k) ⊎ In y → same x y ≡ true → sooner y x ≡ false
          was_there x m f y (inl q) t = ap (λ (w : A). sooner w x) q ∙ f (O.turned x k (ap (same x) (sym q) ∙ t))
          was_there x m f y (inr i) t = B.best x m y i t

          against : (y : A) → In y → same k y ≡ true → ((z : A) → z ∈ xs → same k z ≡ true → sooner k z ≡ true) → sooner y k ≡ false
          against y i t f =
              let (z, m, u) = B.each y i in
              let pz = each_in z (B.from z m) in
              let s : sooner k z ≡ true = f z m (O.along k y z t u) in
              O.strict.through y z k (each_in y i) pz pk (B.best z m y i (O.turned y z u)) (O.strict.asym k z pk pz s)

          is_k : (x : A) → x ≡ k → ((z : A) → z ∈ xs → same k z ≡ true → sooner k z ≡ true) → (y : A) → (y ≡ k) ⊎ In y → same x y ≡ true → sooner y x ≡ false
          is_k x e f y (inl q) t = ap (sooner y) e ∙ ap (λ (w : A). sooner w k) q ∙ not_itself k pk
          is_k x e f y (inr i) t = ap (sooner y) e ∙ against y i (ap (λ (w : A). same w y) (sym e) ∙ t) f

    bests_as : {In In' : A → Type 0} {xs : List A} → ((x : A) → In x → In' x) → ((x : A) → In' x → In x) → BestsOf In xs → BestsOf In' xs
    bests_as f g B = record { apart = B.apart; from = λ x m. f x (B.from x m); best = λ x m y i t. B.best x m y (g y i) t; each = λ y i. B.each y (g y i) }

    bests_from : {In : A → Type 0} → ((x : A) → In x → P x) → (xs ks : List A) → ((x : A) → x ∈ ks → P x) → BestsOf In xs → BestsOf (λ y. In y ⊎ (y ∈ ks)) (all_from same sooner xs ks)
    bests_from p xs [] q B = bests_as (λ x i. inl i) (λ x w. case w (λ i. i) (λ m. elim m [ ])) B
    bests_from {In} p xs (k ∷ ks) q B =
        bests_as (λ x w. case w (λ i. case i (λ e. inr (here e)) (λ j. inl j)) (λ m. inr (there m))) (λ x w. case w (λ i. inl (inr i)) (λ m. front x m))
        (bests_from {In = λ x. (x ≡ k) ⊎ In x} (λ x i. case i (λ e. subst P (sym e) (q k (here refl))) (p x)) (add_to same sooner k xs) ks (λ x m. q x (there m)) (bests_next p B k (q k (here refl))))
      where
        front : (x : A) → x ∈ (k ∷ ks) → ((x ≡ k) ⊎ In x) ⊎ (x ∈ ks)
        front x (here e) = inl (inl e)
        front x (there m) = inr m

    pub bests_all : (ks : List A) → ((x : A) → x ∈ ks → P x) → BestsOf (λ y. y ∈ ks) (all_from same sooner [] ks)
    bests_all ks q =
        bests_as (λ x w. case w (λ e. absurd e) (λ m. m)) (λ x m. inr m)
        (bests_from {In = λ y. ⊥} (λ x e. absurd e) [] ks q (record { apart = tt; from = λ x m. elim m [ ]; best = λ x m. elim m [ ]; each = λ y e. absurd e }))

    -- the first of each class, sorted
    first_best : (seen xs : List A) → ((x : A) → x ∈ xs → P x) → Sorted sooner xs → (x : A) → x ∈ firsts same seen xs → (y : A) → y ∈ xs → same x y ≡ true → sooner y x ≡ false
    first_best seen [] p s x m y n t = elim n [ ]
    first_best seen (z ∷ xs) p s x m y n t = go (any (same z) seen) refl (first_best seen xs (λ w m. p w (there m)) s.1 x) (first_best (z ∷ seen) xs (λ w m. p w (there m)) s.1 x) m y n t
      where
        Best : Type 0
        Best = (y : A) → y ∈ xs → same x y ≡ true → sooner y x ≡ false

        go : (b : Bool) → any (same z) seen ≡ b → (x ∈ firsts same seen xs → Best) → (x ∈ firsts same (z ∷ seen) xs → Best)
            → x ∈ (elim b as (λ c. List A) [ true ↦ firsts same seen xs | false ↦ z ∷ firsts same (z ∷ seen) xs ]) → (y : A) → y ∈ (z ∷ xs) → same x y ≡ true → sooner y x ≡ false
        go true e f g m y (here q) t = let (o, n, u) = any_some (same z) seen e in never (sym ((firsts_are same seen xs).unseen x m o n) ∙ O.along x z o (ap (same x) (sym q) ∙ t) u)
        go true e f g m y (there n) t = f m y n t
        go false e f g (here q) y (here v) t = ap (sooner y) q ∙ ap (λ (w : A). sooner w z) v ∙ not_itself z (p z (here refl))
        go false e f g (here q) y (there n) t = ap (sooner y) q ∙ s.0 y n
        go false e f g (there m) y (here v) t = never (sym ((firsts_are same (z ∷ seen) xs).unseen x m z (here refl)) ∙ ap (same x) (sym v) ∙ t)
        go false e f g (there m) y (there n) t = g m y n t

    pub bests_sorted : (ks : List A) → ((x : A) → x ∈ ks → P x) → BestsOf (λ y. y ∈ ks) (firsts same [] (sort_by sooner ks))
    bests_sorted ks q =
        record {
          apart = F.apart;
          from = λ x m. sort_from sooner ks x (firsts_from same [] (sort_by sooner ks) x m);
          best = λ x m y i t. first_best [] (sort_by sooner ks) (λ w n. q w (sort_from sooner ks w n)) (sort_sorted P sooner O.strict ks q) x m y (sort_to sooner ks y i) t;
          each = λ y i. case (F.each y (sort_to sooner ks y i)) (λ l. elim l.in_list [ ]) (λ l. (l.one, l.in_list, case l.like (λ e. ap (same y) (sym e) ∙ O.itself y) (λ t. t)));
        }
      where
        F : Firsts same [] (sort_by sooner ks) (firsts same [] (sort_by sooner ks))
        F = firsts_are same [] (sort_by sooner ks)

    -- Where two of one class are level only if they are one, the map has no choice.
    module _ (ks : List A) (q : (x : A) → x ∈ ks → P x) (one : (x y : A) → x ∈ ks → y ∈ ks → same x y ≡ true → sooner x y ≡ false → sooner y x ≡ false → x ≡ y) where
      only : {xs ys : List A} → BestsOf (λ y. y ∈ ks) xs → BestsOf (λ y. y ∈ ks) ys → (x : A) → x ∈ xs → x ∈ ys
      only {xs} {ys} B C x m =
          let i = B.from x m in
          let (y, n, t) = C.each x i in
          let j = C.from y n in
          subst (λ (w : A). w ∈ ys) (sym (one x y i j t (C.best y n x i (O.turned x y t)) (B.best x m y j t))) n

      pub bests_perm : {xs ys : List A} → BestsOf (λ y. y ∈ ks) xs → BestsOf (λ y. y ∈ ks) ys → Perm xs ys
      bests_perm {xs} {ys} B C = apart_perm same O.itself xs ys B.apart C.apart (only B C) (only C B)

      pub all_perm : Perm (all_from same sooner [] ks) (firsts same [] (sort_by sooner ks))
      all_perm = bests_perm (bests_all ks q) (bests_sorted ks q)

-- ---- images

-- a map that keeps both tests, of the elements that Q admits
module _ {A B : Type 0} (f : A → B) (same sooner : A → A → Bool) (same' sooner' : B → B → Bool) (Q : A → Type 0) (same-as : (x y : A) → Q x → Q y → same' (f x) (f y) ≡ same x y) (sooner-as : (x y : A) → Q x → Q y → sooner' (f x) (f y) ≡ sooner x y) where
  add_map : (k : A) (xs : List A) → Q k → ((x : A) → x ∈ xs → Q x) → add_to same' sooner' (f k) (map f xs) ≡ map f (add_to same sooner k xs)
  add_map k [] p q = refl
  add_map k (x ∷ xs) p q =
      go (same' (f k) (f x)) (same k x) (same-as k x p (q x (here refl))) (sooner' (f k) (f x)) (sooner k x) (sooner-as k x p (q x (here refl))) (add_map k xs p (λ y m. q y (there m)))
    where
      go : (a b : Bool) → a ≡ b → (c d : Bool) → c ≡ d → add_to same' sooner' (f k) (map f xs) ≡ map f (add_to same sooner k xs)
          → cond a (cond c (f k) (f x) ∷ map f xs) (f x ∷ add_to same' sooner' (f k) (map f xs)) ≡ map f (cond b (cond d k x ∷ xs) (x ∷ add_to same sooner k xs))
      go true true e true true u r = refl
      go true true e false false u r = refl
      go false false e c d u r = ap (λ (l : List B). f x ∷ l) r
      go true false e c d u r = never (sym e)
      go false true e c d u r = never e
      go true true e true false u r = never (sym u)
      go true true e false true u r = never u

  add_each : (k : A) (xs : List A) → Q k → ((x : A) → x ∈ xs → Q x) → (y : A) → y ∈ add_to same sooner k xs → Q y
  add_each k [] p q y (here e) = subst Q (sym e) p
  add_each k [] p q y (there m) = elim m [ ]
  add_each k (x ∷ xs) p q y w = go (same k x) (sooner k x) (add_each k xs p (λ z m. q z (there m)) y) w
    where
      go : (b d : Bool) → (y ∈ add_to same sooner k xs → Q y) → y ∈ cond b (cond d k x ∷ xs) (x ∷ add_to same sooner k xs) → Q y
      go true true r (here e) = subst Q (sym e) p
      go true false r (here e) = q y (here e)
      go true d r (there m) = q y (there m)
      go false d r (here e) = q y (here e)
      go false d r (there m) = r m

  -- the map of images is the image of the map
  pub all_map : (xs ks : List A) → ((x : A) → x ∈ xs → Q x) → ((x : A) → x ∈ ks → Q x) → all_from same' sooner' (map f xs) (map f ks) ≡ map f (all_from same sooner xs ks)
  all_map xs [] p q = refl
  all_map xs (k ∷ ks) p q =
      ap (λ (l : List B). all_from same' sooner' l (map f ks)) (add_map k xs (q k (here refl)) p) ∙ all_map (add_to same sooner k xs) ks (add_each k xs (q k (here refl)) p) (λ x m. q x (there m))
