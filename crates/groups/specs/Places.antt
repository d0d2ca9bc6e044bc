-- Places sorted by key, what repeats an earlier place, and one of each class. Assumes nothing.
use Rattle.std.specs.Prelude.{◌≡◌, refl, ◌⊎◌, ℕ, zero, suc, ◌+◌, ◌-◌, ◌≤◌, ◌<◌, Bool, true, false, not, ◌&&◌, ◌||◌, cond, List, [], ◌∷◌, ◌++◌, map, ltb, eqb, length, get_or, take}
use Rattle.std.proofs.Common.{sym, ap, ap₂, ◌∙◌, subst, inl, inr, arith, length-take-le, ltb-true, eqb-true, eq-eqb}
use mathlib.Core.List.Memᴰ.{head as here}
use mathlib.Core.List.Memᴰ.{tail as there}
use Rattle.lists.specs.Tests.{case, lt_or_le, eq_or_not, never, holds, is_true, or_split, and_both}
use Rattle.lists.specs.Lists.{◌∈◌, any, keep_if, firsts, range, sort_by}
use Rattle.lists.specs.Members.{at_member, member_at, any_yes, any_some, map_from, map_to, sort_from}
use Rattle.lists.specs.Order.{Sorted, sort_perm, sort_sorted, perm-length, perm_member}
use Rattle.lists.specs.Count.{Nodup}
use Rattle.lists.specs.Parts.{range_many}
use Rattle.copy_laws.proofs.Minima.{sort_nodup}
use Rattle.sorting.specs.Pairs.{pairs_of, pair_at, pair_before, pairs_at, Any, before_strict, before_total}
use Rattle.sorting.specs.Keyed.{pairs_keyed}
use Rattle.sorting.specs.Moves.{Lent}
use Rattle.sorting.specs.Sorting.{Sorted as SortedBy}

-- ---- ranges

pub range_at : (a n i d : ℕ) → i < n → get_or (range a n) i d ≡ a + i
range_at a zero i d l = absurd (omega arith)
range_at a (suc n) zero d l = omega arith
range_at a (suc n) (suc i) d l = range_at (suc a) n i d (omega arith) ∙ omega arith

pub range_from : (a n x : ℕ) → x ∈ range a n → (a ≤ x) × (x < a + n)
range_from a zero x x3 = elim x3 [ ]
range_from a (suc n) x (here e) = (omega arith, omega arith)
range_from a (suc n) x (there m) = let z = range_from (suc a) n x m in let u = z.0 in let v = z.1 in (omega arith, omega arith)

pub range_to : (a n x : ℕ) → a ≤ x → x < a + n → x ∈ range a n
range_to a zero x l u = absurd (omega arith)
range_to a (suc n) x l u = case (eq_or_not x a) (λ e. here e) (λ d. there (range_to (suc a) n x (omega arith) (omega arith)))

-- ---- one of each class, by places

-- some place before p is the same
abbrev pub earlier : (ℕ → ℕ → Bool) → ℕ → Bool
earlier same p = any (same p) (range 0 p)

abbrev pub Transitive : {A : Type 0} → (A → A → Bool) → Type 0
Transitive {A} same = (x y z : A) → same x y ≡ true → same y z ≡ true → same x z ≡ true

any_more : {A : Type 0} (p : A → Bool) (xs : List A) (y : A) → any p (xs ++ y ∷ []) ≡ (any p xs || p y)
any_more p [] y = or_none (p y)
  where
    or_none : (b : Bool) → (b || false) ≡ b
    or_none true = refl
    or_none false = refl
any_more p (x ∷ xs) y = ap (λ (b : Bool). p x || b) (any_more p xs y) ∙ or_assoc (p x) (any p xs) (p y)
  where
    or_assoc : (a b c : Bool) → (a || (b || c)) ≡ ((a || b) || c)
    or_assoc true b c = refl
    or_assoc false b c = refl

range_last : (a n : ℕ) → range a (suc n) ≡ range a n ++ (a + n) ∷ []
range_last a zero = ap (λ (x : ℕ). x ∷ []) (omega arith)
range_last a (suc n) = ap (λ (xs : List ℕ). a ∷ xs) (range_last (suc a) n ∙ ap (λ (x : ℕ). range (suc a) n ++ x ∷ []) (omega arith))

module _ {A : Type 0} (same : A → A → Bool) (trans : Transitive same) (f : ℕ → A) where
  abbrev at : ℕ → ℕ → Bool
  at p q = same (f p) (f q)

  any-map : (x : A) (ps : List ℕ) → any (same x) (map f ps) ≡ any (λ q. same x (f q)) ps
  any-map x [] = refl
  any-map x (p ∷ ps) = ap (λ (b : Bool). same x (f p) || b) (any-map x ps)

  -- `seen` decides as all places below k do
  abbrev Seen : (k : ℕ) → List A → Type 0
  Seen k seen = (x : A) → any (same x) seen ≡ any (λ q. same x (f q)) (range 0 k)

  or_true : (a b : Bool) → (b ≡ true → a ≡ true) → a ≡ (a || b)
  or_true true b h = refl
  or_true false true h = never (h refl)
  or_true false false h = refl

  or_swap : (a b : Bool) → (a || b) ≡ (b || a)
  or_swap true true = refl
  or_swap true false = refl
  or_swap false true = refl
  or_swap false false = refl

  one_more : (x : A) (k : ℕ) → any (λ q. same x (f q)) (range 0 (suc k)) ≡ (any (λ q. same x (f q)) (range 0 k) || same x (f k))
  one_more x k = ap (any (λ q. same x (f q))) (range_last 0 k) ∙ any_more (λ q. same x (f q)) (range 0 k) (0 + k) ∙ ap (λ (j : ℕ). any (λ q. same x (f q)) (range 0 k) || same x (f j)) (omega arith)

  seen_again : (k : ℕ) (seen : List A) → Seen k seen → earlier at k ≡ true → Seen (suc k) seen
  seen_again k seen s e x = s x ∙ or_true (any (λ q. same x (f q)) (range 0 k)) (same x (f k)) so ∙ sym (one_more x k)
    where
      so : same x (f k) ≡ true → any (λ q. same x (f q)) (range 0 k) ≡ true
      so t = let (j, m, w) = any_some (at k) (range 0 k) e in any_yes (λ q. same x (f q)) (range 0 k) j m (trans x (f k) (f j) t w)

  seen_new : (k : ℕ) (seen : List A) → Seen k seen → Seen (suc k) (f k ∷ seen)
  seen_new k seen s x = ap (λ (b : Bool). same x (f k) || b) (s x) ∙ or_swap (same x (f k)) (any (λ q. same x (f q)) (range 0 k)) ∙ sym (one_more x k)

  firsts_from_place : (k n : ℕ) (seen : List A) → Seen k seen → firsts same seen (map f (range k n)) ≡ map f (keep_if (λ p. not (earlier at p)) (range k n))
  firsts_from_place k zero seen s = refl
  firsts_from_place k (suc n) seen s = go (earlier at k) refl (s (f k)) (firsts_from_place (suc k) n)
    where
      rest : List ℕ
      rest = keep_if (λ p. not (earlier at p)) (range (suc k) n)

      go : (b : Bool) → earlier at k ≡ b → any (same (f k)) seen ≡ earlier at k
          → ((seen : List A) → Seen (suc k) seen → firsts same seen (map f (range (suc k) n)) ≡ map f rest)
          → elim (any (same (f k)) seen) as (λ z. List A) [ true ↦ firsts same seen (map f (range (suc k) n)) | false ↦ f k ∷ firsts same (f k ∷ seen) (map f (range (suc k) n)) ]
          ≡ map f (cond (not (earlier at k)) (k ∷ rest) rest)
      go true e q rec = rw (q, e) (rec seen (seen_again k seen s e))
      go false e q rec = rw (q, e) (ap (λ (xs : List A). f k ∷ xs) (rec (f k ∷ seen) (seen_new k seen s)))

  pub firsts_by_place : (n : ℕ) → firsts same [] (map f (range 0 n)) ≡ map f (keep_if (λ p. not (earlier at p)) (range 0 n))
  firsts_by_place n = firsts_from_place 0 n [] (λ x. refl)

-- ---- places sorted by key

-- The j-th place comes with its key. Before it stand lower keys, and lower places of its own key; every place is there.
pub record PlacesSorted (key : ℕ → ℕ) (n : ℕ) (ks ps : List ℕ) : Type 0 where
  pub inside : (j : ℕ) → j < n → get_or ps j 0 < n
  pub key_is : (j : ℕ) → j < n → get_or ks j 0 ≡ key (get_or ps j 0)
  pub ordered : (i j : ℕ) → i < j → j < n → (get_or ks i 0 < get_or ks j 0) ⊎ ((get_or ks i 0 ≡ get_or ks j 0) × (get_or ps i 0 < get_or ps j 0))
  pub each : (q : ℕ) → q < n → (i : ℕ) × (i < n) × (get_or ps i 0 ≡ q)

by_key : (k k' i i' : ℕ) → pair_before (k, i) (k', i') ≡ true → (k < k') ⊎ ((k ≡ k') × (i < i'))
unfolding pair_before
by_key k k' i i' t = case (or_split (ltb k k') (eqb k k' && ltb i i') (holds t)) (λ a. inl (ltb-true k k' (is_true a)))
    (λ b. let z = and_both (eqb k k') (ltb i i') (is_true b) in inr (eqb-true k k' z.0, ltb-true i i' z.1))

pub take_at : (xs : List ℕ) (n j : ℕ) → j < n → get_or (take n xs) j 0 ≡ get_or xs j 0
take_at [] n j l = ap (λ (ys : List ℕ). get_or ys j 0) (take_nil n)
  where
    take_nil : (n : ℕ) → take {A = ℕ} n [] ≡ []
    take_nil zero = refl
    take_nil (suc n) = refl
take_at (x ∷ xs) zero j l = absurd (omega arith)
take_at (x ∷ xs) (suc n) zero l = refl
take_at (x ∷ xs) (suc n) (suc j) l = take_at xs n j (omega arith)

-- a later one does not come before an earlier one
sorted_at : {A : Type 0} (before : A → A → Bool) (xs : List A) (i j : ℕ) (d : A) → Sorted before xs → i < j → j < length xs → before (get_or xs j d) (get_or xs i d) ≡ false
sorted_at before [] i j d s l u = absurd (omega arith)
sorted_at before (x ∷ xs) i zero d s l u = absurd (omega arith)
sorted_at before (x ∷ xs) zero (suc j) d s l u = s.0 (get_or xs j d) (at_member xs j d (omega arith))
sorted_at before (x ∷ xs) (suc i) (suc j) d s l u = sorted_at before xs i j d s.1 (omega arith) (omega arith)

nodup_at : {A : Type 0} (xs : List A) (i j : ℕ) (d : A) → Nodup xs → i < j → j < length xs → get_or xs i d ≡ get_or xs j d → ⊥
nodup_at [] i j d s l u e = absurd (omega arith)
nodup_at (x ∷ xs) i zero d s l u e = absurd (omega arith)
nodup_at {A} (x ∷ xs) zero (suc j) d s l u e = s.0 (subst (λ (y : A). y ∈ xs) (sym e) (at_member xs j d (omega arith)))
nodup_at (x ∷ xs) (suc i) (suc j) d s l u e = nodup_at xs i j d s.1 (omega arith) (omega arith) e

module _ (key : ℕ → ℕ) (n : ℕ) where
  abbrev keyed : ℕ → ℕ × ℕ
  keyed i = (key i, i)

  keyed_nodup : (a k : ℕ) → Nodup (map keyed (range a k))
  keyed_nodup a zero = tt
  keyed_nodup a (suc k) = (λ m. let (i, l, e) = map_from keyed (range (suc a) k) (keyed a) m in let z = (range_from (suc a) k i l).0 in let q = ap (λ (p : ℕ × ℕ). p.1) e in absurd (omega arith), keyed_nodup (suc a) k)

  abbrev sorted : List (ℕ × ℕ)
  sorted = sort_by pair_before (map keyed (range 0 n))

  sorted_long : length sorted ≡ n
  sorted_long = sym (perm-length (sort_perm pair_before (map keyed (range 0 n)))) ∙ range_many keyed 0 n

  from_range : (j : ℕ) → j < n → (i : ℕ) × (i < n) × (pair_at sorted j ≡ keyed i)
  from_range j l =
      let (i, m, e) = map_from keyed (range 0 n) (pair_at sorted j) (sort_from pair_before (map keyed (range 0 n)) (pair_at sorted j) (at_member sorted j (0, 0) (let z = sorted_long in omega arith))) in
      (i, let z = (range_from 0 n i m).1 in omega arith, e)

  module _ {keys keys' items items' : List ℕ} (ke : take n keys ≡ map key (range 0 n)) (ie : take n items ≡ range 0 n) (long : Lent keys' items' n) (S : SortedBy keys keys' items items' n) where
    pairs_are : pairs_of (take n keys') (take n items') ≡ sorted
    pairs_are = S.pairs ∙ ap (sort_by pair_before) (ap₂ pairs_of ke ie ∙ pairs_keyed key (range 0 n))

    pair_is : (j : ℕ) → j < n → pair_at sorted j ≡ (get_or keys' j 0, get_or items' j 0)
    pair_is j l =
        ap (λ (ps : List (ℕ × ℕ)). pair_at ps j) (sym pairs_are)
        ∙ pairs_at (take n keys') (take n items') j (let z = length-take-le n keys' long.keys_long in omega arith) (let z = length-take-le n items' long.items_long in omega arith)
        ∙ ap₂ (λ (a b : ℕ). (a, b)) (take_at keys' n j l) (take_at items' n j l)

    item_of : (j : ℕ) (l : j < n) → get_or items' j 0 ≡ (from_range j l).0
    item_of j l = ap (λ (p : ℕ × ℕ). p.1) (sym (pair_is j l) ∙ (from_range j l).2)

    in_order : (i j : ℕ) → i < j → j < n → (b : Bool) → pair_before (pair_at sorted i) (pair_at sorted j) ≡ b → b ≡ true
    in_order i j l u true e = refl
    in_order i j l u false e =
        let z = sorted_long in
        absurd (nodup_at sorted i j (0, 0) (sort_nodup pair_before (map keyed (range 0 n)) (keyed_nodup 0 n)) l (omega arith)
        (before_total (pair_at sorted i) (pair_at sorted j) tt tt e (sorted_at pair_before sorted i j (0, 0) (sort_sorted Any pair_before before_strict (map keyed (range 0 n)) (λ x m. tt)) l (omega arith))))

    pub places_sorted : PlacesSorted key n keys' items'
    places_sorted =
        record {
          inside = λ j l. let e = item_of j l in let z = (from_range j l).1 in omega arith;
          key_is = λ j l. ap (λ (p : ℕ × ℕ). p.0) (sym (pair_is j l) ∙ (from_range j l).2) ∙ ap key (sym (item_of j l));
          ordered = λ i j l u. before_by_lem (pair_is i (omega arith)) (pair_is j u) (in_order i j l u (pair_before (pair_at sorted i) (pair_at sorted j)) refl);
          each = found;
        }
      where
        before_by_lem : {a b : ℕ × ℕ} {k k' i i' : ℕ} → a ≡ (k, i) → b ≡ (k', i') → pair_before a b ≡ true → (k < k') ⊎ ((k ≡ k') × (i < i'))
        before_by_lem {a} {b} {k} {k'} {i} {i'} e q t = by_key k k' i i' (subst (λ (x : ℕ × ℕ). pair_before (k, i) x ≡ true) q (subst (λ (x : ℕ × ℕ). pair_before x b ≡ true) e t))

        found : (q : ℕ) → q < n → (i : ℕ) × (i < n) × (get_or items' i 0 ≡ q)
        found q l =
            let m = perm_member (sort_perm pair_before (map keyed (range 0 n))) (keyed q) (map_to keyed (range 0 n) q (range_to 0 n q (omega arith) (omega arith))) in
            let (i, u, e) = member_at sorted (keyed q) (0, 0) m in
            let z = sorted_long in
            let low : i < n = omega arith in
            (i, low, ap (λ (p : ℕ × ℕ). p.1) (sym (pair_is i low) ∙ e))

-- ---- what repeats an earlier place

-- the j-th of the sorted places against those before it with its key, the next one first
pub data Repeats (same : ℕ → ℕ → Bool) (ks ps : List ℕ) (j : ℕ) : Bool → Type 0 where
  repeated : (i : ℕ) → i < j → get_or ks i 0 ≡ get_or ks j 0 → same (get_or ps j 0) (get_or ps i 0) ≡ true → Repeats same ks ps j true
  alone : (k : ℕ) → k ≤ j → ((i : ℕ) → k ≤ i → i < j → same (get_or ps j 0) (get_or ps i 0) ≡ false) → (k ≡ 0) ⊎ ((0 < k) × (get_or ks (k - 1) 0 ≡ get_or ks j 0 → ⊥)) → Repeats same ks ps j false

module _ {key : ℕ → ℕ} {n : ℕ} {ks ps : List ℕ} (S : PlacesSorted key n ks ps) (same : ℕ → ℕ → Bool) (one_key : (p q : ℕ) → p < n → q < n → same p q ≡ true → key p ≡ key q) where
  -- keys do not fall
  no_fall : (i j : ℕ) → i ≤ j → j < n → get_or ks i 0 ≤ get_or ks j 0
  no_fall i j l u = case (eq_or_not i j) (λ e. subst (λ (x : ℕ). get_or ks i 0 ≤ get_or ks x 0) e (omega arith))
      (λ d. case (S.ordered i j (omega arith) u) (λ a. omega arith) (λ b. let e = b.0 in omega arith))

  -- of one key, a lower place stands before
  stands_before : (i j : ℕ) → i < n → j < n → get_or ks i 0 ≡ get_or ks j 0 → get_or ps i 0 < get_or ps j 0 → i < j
  stands_before i j l u e p = case (lt_or_le i j) (λ a. a) (λ a. case (eq_or_not j i)
      (λ q. absurd (let z = ap (λ (x : ℕ). get_or ps x 0) q in omega arith))
      (λ d. case (S.ordered j i (omega arith) l) (λ b. absurd (omega arith)) (λ b. let z = b.1 in absurd (omega arith))))

  pub repeats_is : (j : ℕ) → j < n → (r : Bool) → Repeats same ks ps j r → r ≡ earlier same (get_or ps j 0)
  repeats_is j u r (repeated i l e t) =
      let p = get_or ps i 0 in
      let low : p < get_or ps j 0 = case (S.ordered i j l u) (λ a. absurd (omega arith)) (λ b. b.1) in
      sym (any_yes (same (get_or ps j 0)) (range 0 (get_or ps j 0)) p (range_to 0 (get_or ps j 0) p (omega arith) (omega arith)) t)
  repeats_is j u r (alone k l f e) = sym (none (earlier same (get_or ps j 0)) refl)
    where
      none : (b : Bool) → earlier same (get_or ps j 0) ≡ b → b ≡ false
      none false q = refl
      none true q =
          let (p, m, t) = any_some (same (get_or ps j 0)) (range 0 (get_or ps j 0)) q in
          let low = (range_from 0 (get_or ps j 0) p m).1 in
          let inside = S.inside j u in
          let (i, v, at) = S.each p (omega arith) in
          let keys-same : get_or ks i 0 ≡ get_or ks j 0 = S.key_is i v ∙ ap key at ∙ sym (one_key (get_or ps j 0) p inside (omega arith) t) ∙ sym (S.key_is j u) in
          let before : i < j = stands_before i j v u keys-same (omega arith) in
          never (case (lt_or_le i k)
          (λ a. case e (λ z. absurd (omega arith)) (λ z. absurd (z.1 (let x = no_fall i (k - 1) (omega arith) (omega arith) in let y = no_fall (k - 1) j (omega arith) u in omega arith))))
          (λ a. sym (f i a before) ∙ ap (same (get_or ps j 0)) at ∙ t))

-- ---- the dropped ones leave

module _ (no : ℕ) (drops : ℕ → Bool) (f : ℕ → ℕ) {n : ℕ} (stays : (p : ℕ) → p < n → eqb (f p) no ≡ false) where
  pub kept_from : (a k : ℕ) → a + k ≤ n → keep_if (λ s. not (eqb s no)) (map (λ p. cond (drops p) no (f p)) (range a k)) ≡ map f (keep_if (λ p. not (drops p)) (range a k))
  kept_from a zero l = refl
  kept_from a (suc k) l = go (drops a) (kept_from (suc a) k (omega arith))
    where
      rest : List ℕ
      rest = keep_if (λ p. not (drops p)) (range (suc a) k)

      others : List ℕ
      others = keep_if (λ s. not (eqb s no)) (map (λ p. cond (drops p) no (f p)) (range (suc a) k))

      go : (b : Bool) → others ≡ map f rest → cond (not (eqb (cond b no (f a)) no)) (cond b no (f a) ∷ others) others ≡ map f (cond (not b) (a ∷ rest) rest)
      go true r = rw (eq-eqb no no refl) r
      go false r = rw (stays a (omega arith)) (ap (λ (xs : List ℕ). f a ∷ xs) r)
