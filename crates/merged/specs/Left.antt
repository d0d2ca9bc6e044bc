-- The marks, and what is left of both lists once what was dropped is gone. Assumes nothing.
use Rattle.std.specs.Prelude.{◌≡◌, refl, ℕ, zero, suc, ◌+◌, ◌≤◌, ◌<◌, Bool, true, false, not, ◌&&◌, ◌||◌, cond, List, [], ◌∷◌, ◌++◌, eqb, length, get_or, take, drop, set, replicate}
use Rattle.std.proofs.Common.{sym, ap, ap₂, ◌∙◌, arith, length-set, get_or-set_same, get_or-set_other, get_or-take, length-take-le, eq-eqb, ne_eqb}
use Rattle.std.proofs.lemmas.List.{get_or_append_left, get_or-replicate, length-replicate}
use Rattle.lists.specs.Tests.{case, either, never, eq_or_not, and_both}
use Rattle.lists.specs.Lists.{any, keep_if}
use Rattle.groups.specs.Firsts.{dropped}
use Rattle.merged.specs.Drops.{KeptJudged, kept_stays, kept_goes, OwnJudged, own_stays, own_goes, TwinsDropped}

abbrev pub Cleared : (gone : List ℕ) → (m : ℕ) → Type 0
Cleared gone m = (p : ℕ) → p < m → get_or gone p 0 ≡ 0

pub cleared_next : (gone : List ℕ) (p : ℕ) → p < length gone → Cleared gone p → Cleared (set gone p 0) (p + 1)
cleared_next gone p l C q u = case (eq_or_not q p) (λ e. ap (λ (k : ℕ). get_or (set gone p 0) k 0) e ∙ get_or-set_same gone p 0 0 l) (λ d. get_or-set_other gone p q 0 0 d ∙ C q (omega arith))

pub cleared_all : (gone gone' : List ℕ) (m : ℕ) → gone' ≡ replicate m 0 ++ drop m gone → Cleared gone' m
cleared_all gone gone' m e p l =
    ap (λ (x : List ℕ). get_or x p 0) e ∙ get_or_append_left (replicate m 0) (drop m gone) 0 p (let z = length-replicate {A = ℕ} m 0 in omega arith) ∙ get_or-replicate m p 0 0 l

-- the marked ones are dropped, and every other stays
pub record GoneDropped (own own' gone : List ℕ) (m : ℕ) : Type 0 where
  pub is : (p : ℕ) → p < m → get_or own' p 0 ≡ cond (eqb (get_or gone p 0) 0) (get_or own p 0) dropped

-- the first p are done
pub record GoneTo (own₀ own gone : List ℕ) (p : ℕ) : Type 0 where
  pub same_length : length own ≡ length own₀
  pub is : (q : ℕ) → q < p → get_or own q 0 ≡ cond (eqb (get_or gone q 0) 0) (get_or own₀ q 0) dropped
  pub ahead : (q : ℕ) → p ≤ q → get_or own q 0 ≡ get_or own₀ q 0

pub gone_none : (own gone : List ℕ) → GoneTo own own gone 0
gone_none own gone = record { same_length = refl; is = λ q l. absurd (omega arith); ahead = λ q l. refl }

pub gone_next : {own₀ own own' gone : List ℕ} {p : ℕ} → GoneTo own₀ own gone p → p < length own₀ → own' ≡ cond (eqb (get_or gone p 0) 0) own (set own p dropped) → GoneTo own₀ own' gone (p + 1)
gone_next {own₀} {own} {own'} {gone} {p} G l e = go (eqb (get_or gone p 0) 0) refl e
  where
    go : (b : Bool) → eqb (get_or gone p 0) 0 ≡ b → own' ≡ cond b own (set own p dropped) → GoneTo own₀ own' gone (p + 1)
    go true z e =
        rw e (record {
          same_length = G.same_length;
          is = λ q u. case (eq_or_not q p) (λ w. G.ahead q (omega arith) ∙ sym (ap (λ (b : Bool). cond b (get_or own₀ q 0) dropped) (ap (λ (k : ℕ). eqb (get_or gone k 0) 0) w ∙ z))) (λ w. G.is q (omega arith));
          ahead = λ q u. G.ahead q (omega arith);
        })
    go false z e =
        let s = G.same_length in
        rw e (record {
          same_length = length-set own p dropped ∙ G.same_length;
          is = λ q u. case (eq_or_not q p) (λ w. ap (λ (k : ℕ). get_or (set own p dropped) k 0) w ∙ get_or-set_same own p dropped 0 (omega arith) ∙ sym (ap (λ (b : Bool). cond b (get_or own₀ q 0) dropped) (ap (λ (k : ℕ). eqb (get_or gone k 0) 0) w ∙ z)))
              (λ w. get_or-set_other own p q dropped 0 w ∙ G.is q (omega arith));
          ahead = λ q u. get_or-set_other own p q dropped 0 (λ w. omega arith) ∙ G.ahead q (omega arith);
        })

-- ---- the two lists

-- what is not dropped, of a list in which each either stays or is dropped
closed_keeps : (stays : ℕ → Bool) (xs ys : List ℕ) → length ys ≡ length xs → ((j : ℕ) → j < length xs → (get_or xs j 0 ≡ dropped → ⊥)) → ((j : ℕ) → j < length xs → get_or ys j 0 ≡ cond (stays (get_or xs j 0)) (get_or xs j 0) dropped)
    → keep_if (λ s. not (eqb s dropped)) ys ≡ keep_if stays xs
closed_keeps stays [] [] e d f = refl
closed_keeps stays [] (y ∷ ys) e d f = absurd (omega arith)
closed_keeps stays (x ∷ xs) [] e d f = absurd (omega arith)
closed_keeps stays (x ∷ xs) (y ∷ ys) e d f = go (stays x) refl (f 0 (omega arith)) (closed_keeps stays xs ys (omega arith) (λ j l. d (suc j) (omega arith)) (λ j l. f (suc j) (omega arith)))
  where
    go : (b : Bool) → stays x ≡ b → y ≡ cond (stays x) x dropped → keep_if (λ s. not (eqb s dropped)) ys ≡ keep_if stays xs
        → cond (not (eqb y dropped)) (y ∷ keep_if (λ s. not (eqb s dropped)) ys) (keep_if (λ s. not (eqb s dropped)) ys) ≡ cond (stays x) (x ∷ keep_if stays xs) (keep_if stays xs)
    go true t q r =
        let z : y ≡ x = q ∙ ap (λ (b : Bool). cond b x dropped) t in
        ap (λ (b : Bool). cond (not b) (y ∷ keep_if (λ s. not (eqb s dropped)) ys) (keep_if (λ s. not (eqb s dropped)) ys)) (ne_eqb y dropped (λ w. d 0 (omega arith) (sym z ∙ w))) ∙ ap₂ (λ (h : ℕ) (l : List ℕ). h ∷ l) z r
        ∙ ap (λ (b : Bool). cond b (x ∷ keep_if stays xs) (keep_if stays xs)) (sym t)
    go false t q r =
        let z : y ≡ dropped = q ∙ ap (λ (b : Bool). cond b x dropped) t in
        ap (λ (b : Bool). cond (not b) (y ∷ keep_if (λ s. not (eqb s dropped)) ys) (keep_if (λ s. not (eqb s dropped)) ys)) (eq-eqb y dropped z) ∙ r ∙ ap (λ (b : Bool). cond b (x ∷ keep_if stays xs) (keep_if stays xs)) (sym t)

-- a place whose entry passes
record Placed (f : ℕ → Bool) (zs : List ℕ) : Type 0 where
  at : ℕ
  few : at < length zs
  is : f (get_or zs at 0) ≡ true

any_place : (f : ℕ → Bool) (zs : List ℕ) → any f zs ≡ true → Placed f zs
any_place f [] t = never t
any_place f (z ∷ zs) t = case (either (f z)) (λ e. record { at = 0; few = omega arith; is = e }) (λ e. let P = any_place f zs (sym (ap (λ (b : Bool). b || any f zs) e) ∙ t) in let l = P.few in record { at = suc P.at; few = omega arith; is = P.is })

any_at : (f : ℕ → Bool) (zs : List ℕ) (p : ℕ) → p < length zs → f (get_or zs p 0) ≡ true → any f zs ≡ true
any_at f [] p l e = absurd (omega arith)
any_at f (z ∷ zs) zero l e = ap (λ (b : Bool). b || any f zs) e
any_at f (z ∷ zs) (suc p) l e = go (f z) (any_at f zs p (omega arith) e)
  where
    go : (b : Bool) → any f zs ≡ true → (b || any f zs) ≡ true
    go true t = refl
    go false t = t

-- any place but the first
later : (k : ℕ) (b : Bool) → cond (eqb (suc k) 0) false b ≡ b
later k b = ap (λ (c : Bool). cond c false b) (ne_eqb (suc k) 0 (λ e. omega arith))

-- a kept reading is gone where it reads as the best own group does, or as another that it does not come before
abbrev pub kept_stands : (same first : ℕ → ℕ → Bool) → (own : List ℕ) → (i : ℕ) → Bool
kept_stands same first [] i = true
kept_stands same first (g ∷ own) i = not (same i g || any (λ s. same i s && not (first i s)) own)

-- an own group is gone where a kept reading of its words comes before it
abbrev pub own_stands : (same first : ℕ → ℕ → Bool) → (kept : List ℕ) → (s : ℕ) → Bool
own_stands same first kept s = not (any (λ i. same i s && first i s) kept)

-- the best own group stays
abbrev pub own_still_left : (same first : ℕ → ℕ → Bool) → (kept own : List ℕ) → List ℕ
own_still_left same first kept [] = []
own_still_left same first kept (g ∷ own) = g ∷ keep_if (own_stands same first kept) own

first_stays : (stays : ℕ → Bool) (x y : ℕ) (xs ys : List ℕ) → y ≡ x → (x ≡ dropped → ⊥) → keep_if (λ s. not (eqb s dropped)) ys ≡ keep_if stays xs → keep_if (λ s. not (eqb s dropped)) (y ∷ ys) ≡ x ∷ keep_if stays xs
first_stays stays x y xs ys z d r =
    ap (λ (b : Bool). cond (not b) (y ∷ keep_if (λ s. not (eqb s dropped)) ys) (keep_if (λ s. not (eqb s dropped)) ys)) (ne_eqb y dropped (λ w. d (sym z ∙ w))) ∙ ap₂ (λ (h : ℕ) (l : List ℕ). h ∷ l) z r

module _ (same first : ℕ → ℕ → Bool) (own order : List ℕ) (m n : ℕ) (own_long : m ≤ length own) (order_long : n ≤ length order) (named : (j : ℕ) → j < n → (get_or order j 0 ≡ dropped → ⊥)) where
  -- as the places have them
  abbrev pub same_in : (i p : ℕ) → Bool
  same_in i p = same i (get_or own p 0)

  abbrev pub wins_in : (i p : ℕ) → Bool
  wins_in i p = cond (eqb p 0) false (first i (get_or own p 0))

  stands_all : (zs : List ℕ) (i : ℕ) → ((p : ℕ) → p < length zs → same i (get_or zs p 0) ≡ true → cond (eqb p 0) false (first i (get_or zs p 0)) ≡ true) → kept_stands same first zs i ≡ true
  stands_all [] i f = refl
  stands_all (g ∷ zs) i f =
      ap not (ap₂ ◌||◌ (case (either (same i g)) (λ t. never (f 0 (omega arith) t)) (λ t. t))
      (case (either (any (λ s. same i s && not (first i s)) zs)) (λ t. behind (any_place (λ s. same i s && not (first i s)) zs t)) (λ t. t)))
    where
      behind : Placed (λ s. same i s && not (first i s)) zs → any (λ s. same i s && not (first i s)) zs ≡ false
      behind P =
          let b = and_both (same i (get_or zs P.at 0)) (not (first i (get_or zs P.at 0))) P.is in
          let l = P.few in
          never (sym (ap not (sym (later P.at (first i (get_or zs P.at 0))) ∙ f (suc P.at) (omega arith) b.0)) ∙ b.1)

  stands_not : (zs : List ℕ) (i p : ℕ) → p < length zs → same i (get_or zs p 0) ≡ true → cond (eqb p 0) false (first i (get_or zs p 0)) ≡ false → kept_stands same first zs i ≡ false
  stands_not [] i p l t w = absurd (omega arith)
  stands_not (g ∷ zs) i zero l t w = ap (λ (b : Bool). not (b || any (λ s. same i s && not (first i s)) zs)) t
  stands_not (g ∷ zs) i (suc p) l t w = ap not (or_second (same i g) (any (λ s. same i s && not (first i s)) zs) (any_at (λ s. same i s && not (first i s)) zs p (omega arith) (ap₂ (λ (a b : Bool). a && not b) t (sym (later p (first i (get_or zs p 0))) ∙ w))))
    where
      or_second : (a b : Bool) → b ≡ true → (a || b) ≡ true
      or_second true b e = refl
      or_second false b e = e

  -- what closing up leaves of the kept readings
  pub kept_left : {gone' order' : List ℕ} → TwinsDropped same_in wins_in m gone' order n order' → length order' ≡ length order → keep_if (λ s. not (eqb s dropped)) (take n order') ≡ keep_if (kept_stands same first (take m own)) (take n order)
  kept_left {order' = order'} T e =
      let l = length-take-le n order order_long in
      let l' = length-take-le n order' (omega arith) in
      closed_keeps (kept_stands same first (take m own)) (take n order) (take n order') (omega arith) (λ j u q. named j (omega arith) (sym (get_or-take n order j 0 (omega arith)) ∙ q))
      (λ j u. let v : j < n = omega arith in get_or-take n order' j 0 v ∙ judged (get_or order j 0) (get_or order' j 0) (T.kepts j v) ∙ ap (λ (i : ℕ). cond (kept_stands same first (take m own) i) i dropped) (sym (get_or-take n order j 0 v)))
    where
      in_own : (p : ℕ) → p < m → get_or (take m own) p 0 ≡ get_or own p 0
      in_own p u = get_or-take m own p 0 u

      judged : (i v : ℕ) → KeptJudged same_in wins_in m i v → v ≡ cond (kept_stands same first (take m own) i) i dropped
      judged i v (kept_stays f z) =
          z ∙ ap (λ (b : Bool). cond b i dropped) (sym (stands_all (take m own) i (λ p u t.
          let l = length-take-le m own own_long in
          let w : p < m = omega arith in
          ap (λ (s : ℕ). cond (eqb p 0) false (first i s)) (in_own p w) ∙ f p w (ap (same i) (sym (in_own p w)) ∙ t))))
      judged i v (kept_goes p u t w z) =
          let l = length-take-le m own own_long in
          z ∙ ap (λ (b : Bool). cond b i dropped) (sym (stands_not (take m own) i p (omega arith) (ap (same i) (in_own p u) ∙ t) (ap (λ (s : ℕ). cond (eqb p 0) false (first i s)) (in_own p u) ∙ w)))

  own_stands_lem : (s : ℕ) → ((j : ℕ) → j < n → same (get_or order j 0) s ≡ true → first (get_or order j 0) s ≡ false) → own_stands same first (take n order) s ≡ true
  own_stands_lem s f = ap not (case (either (any (λ i. same i s && first i s) (take n order))) (λ t. behind (any_place (λ i. same i s && first i s) (take n order) t)) (λ t. t))
    where
      behind : Placed (λ i. same i s && first i s) (take n order) → any (λ i. same i s && first i s) (take n order) ≡ false
      behind P =
          let l = length-take-le n order order_long in
          let u = P.few in
          let e = get_or-take n order P.at 0 (omega arith) in
          let b = and_both (same (get_or (take n order) P.at 0) s) (first (get_or (take n order) P.at 0) s) P.is in
          never (sym (f P.at (omega arith) (ap (λ (i : ℕ). same i s) (sym e) ∙ b.0)) ∙ ap (λ (i : ℕ). first i s) (sym e) ∙ b.1)

  own_not : (s j : ℕ) → j < n → same (get_or order j 0) s ≡ true → first (get_or order j 0) s ≡ true → own_stands same first (take n order) s ≡ false
  own_not s j u t w =
      let l = length-take-le n order order_long in
      ap not (any_at (λ i. same i s && first i s) (take n order) j (omega arith) (ap (λ (i : ℕ). same i s && first i s) (get_or-take n order j 0 u) ∙ ap₂ ◌&&◌ t w))

  module _ {gone' order' own' : List ℕ} (T : TwinsDropped same_in wins_in m gone' order n order') (G : GoneDropped own own' gone' m) where
    first_is : 0 < m → get_or own' 0 0 ≡ get_or own 0 0
    first_is l = G.is 0 l ∙ go (T.owns 0 l)
      where
        go : OwnJudged same_in wins_in order n 0 (get_or gone' 0 0) → cond (eqb (get_or gone' 0 0) 0) (get_or own 0 0) dropped ≡ get_or own 0 0
        go (own_stays f z) = ap (λ (b : Bool). cond b (get_or own 0 0) dropped) (eq-eqb (get_or gone' 0 0) 0 z)
        go (own_goes j u t w z) = never w

    later_is : (k : ℕ) → suc k < m → get_or own' (suc k) 0 ≡ cond (own_stands same first (take n order) (get_or own (suc k) 0)) (get_or own (suc k) 0) dropped
    later_is k l = G.is (suc k) l ∙ go (T.owns (suc k) l)
      where
        s : ℕ
        s = get_or own (suc k) 0

        go : OwnJudged same_in wins_in order n (suc k) (get_or gone' (suc k) 0) → cond (eqb (get_or gone' (suc k) 0) 0) s dropped ≡ cond (own_stands same first (take n order) s) s dropped
        go (own_stays f z) =
            ap (λ (b : Bool). cond b s dropped) (eq-eqb (get_or gone' (suc k) 0) 0 z ∙ sym (own_stands_lem s (λ j u t. sym (later k (first (get_or order j 0) s)) ∙ f j u t)))
        go (own_goes j u t w z) =
            ap (λ (b : Bool). cond b s dropped) (ne_eqb (get_or gone' (suc k) 0) 0 (λ e. omega arith) ∙ sym (own_not s j u t (sym (later k (first (get_or order j 0) s)) ∙ w)))

    -- what closing up leaves of the own groups
    pub own_left : length own' ≡ length own → ((p : ℕ) → p < m → (get_or own p 0 ≡ dropped → ⊥)) → keep_if (λ s. not (eqb s dropped)) (take m own') ≡ own_still_left same first (take n order) (take m own)
    own_left e d =
        let l = length-take-le m own own_long in
        let l' = length-take-le m own' (omega arith) in
        go (take m own) (take m own') (omega arith) (λ p u q. d p (omega arith) (sym (get_or-take m own p 0 (omega arith)) ∙ q))
        (λ u. get_or-take m own' 0 0 (omega arith) ∙ first_is (omega arith) ∙ sym (get_or-take m own 0 0 (omega arith)))
        (λ k u. let v : suc k < m = omega arith in get_or-take m own' (suc k) 0 v ∙ later_is k v ∙ ap (λ (s : ℕ). cond (own_stands same first (take n order) s) s dropped) (sym (get_or-take m own (suc k) 0 v)))
      where
        go : (xs ys : List ℕ) → length ys ≡ length xs → ((p : ℕ) → p < length xs → (get_or xs p 0 ≡ dropped → ⊥)) → (0 < length xs → get_or ys 0 0 ≡ get_or xs 0 0) → ((k : ℕ) → suc k < length xs → get_or ys (suc k) 0 ≡ cond (own_stands same first (take n order) (get_or xs (suc k) 0)) (get_or xs (suc k) 0) dropped)
            → keep_if (λ s. not (eqb s dropped)) ys ≡ own_still_left same first (take n order) xs
        go [] [] q d f g = refl
        go [] (y ∷ ys) q d f g = absurd (omega arith)
        go (x ∷ xs) [] q d f g = absurd (omega arith)
        go (x ∷ xs) (y ∷ ys) q d f g =
            first_stays (own_stands same first (take n order)) x y xs ys (f (omega arith)) (d 0 (omega arith)) (closed_keeps (own_stands same first (take n order)) xs ys (omega arith) (λ j u. d (suc j) (omega arith)) (λ j u. g j (omega arith)))

-- first those of the best own group's words go, then those of the others'
pub kept_stands_lem : (same first : ℕ → ℕ → Bool) (g : ℕ) (own kept : List ℕ) → keep_if (kept_stands same first (g ∷ own)) kept ≡ keep_if (λ i. not (any (λ s. same i s && not (first i s)) own)) (keep_if (λ i. not (same i g)) kept)
kept_stands_lem same first g own [] = refl
kept_stands_lem same first g own (i ∷ kept) = go (same i g) (any (λ s. same i s && not (first i s)) own) refl (kept_stands_lem same first g own kept)
  where
    go : (a b : Bool) → any (λ s. same i s && not (first i s)) own ≡ b → keep_if (kept_stands same first (g ∷ own)) kept ≡ keep_if (λ i. not (any (λ s. same i s && not (first i s)) own)) (keep_if (λ i. not (same i g)) kept)
        → cond (not (a || any (λ s. same i s && not (first i s)) own)) (i ∷ keep_if (kept_stands same first (g ∷ own)) kept) (keep_if (kept_stands same first (g ∷ own)) kept)
        ≡ keep_if (λ i. not (any (λ s. same i s && not (first i s)) own)) (cond (not a) (i ∷ keep_if (λ i. not (same i g)) kept) (keep_if (λ i. not (same i g)) kept))
    go true b e r = r
    go false true e r = rw e r
    go false false e r = rw e (ap (λ (l : List ℕ). i ∷ l) r)
