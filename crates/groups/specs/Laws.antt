-- Laws of the steps of grouping. Assumes nothing.
use Rattle.std.specs.Prelude.{◌≡◌, refl, ℕ, zero, suc, ◌+◌, ◌-◌, ◌≤◌, ◌<◌, Bool, true, false, not, cond, List, [], ◌∷◌, ◌++◌, map, eqb, ℤ, length, get_or, take, set, Float}
use Rattle.std.proofs.Common.{sym, ap, ap₂, ◌∙◌, subst, inl, inr, arith, length-set, get_or-set_same, get_or-set_other, eq-eqb, ne_eqb}
use Rattle.lists.specs.Tests.{case, below_more, eq_or_not}
use Rattle.lists.specs.Lists.{keep_if, firsts, range}
use Rattle.records.specs.History.{History}
use Rattle.records.specs.Layout.{store}
use Rattle.records.specs.Stands.{Stands}
use Rattle.histories.specs.Reading.{same_reading, KeyIs, SameIs}
use Rattle.histories.specs.Laws.{same_trans, same_key_lem}
use Rattle.summaries.specs.Summed.{key_at as history_key, Keys}
use Rattle.sorting.specs.Moves.{Lent}
use Rattle.sorting.specs.Sorting.{Sorted}
use Rattle.groups.specs.Places.{earlier, Transitive, firsts_by_place, PlacesSorted, places_sorted, Repeats, repeated, alone, repeats_is, kept_from}
use Rattle.groups.specs.Firsts.{link_at, dropped, StateAsks, StatesAsk, same_states, same_places, KeysFilled, RepeatsAsk, RepeatsIs, DropsAsk, DroppedAt, Dropped, KeptAt, not_kept, is_kept, ClosedUp}

-- ---- the keys

-- read from the table of the records' keys
pub key_read : {rs : List ℕ} {ls : List ℤ} {used : ℕ} {to_join_lem : Bool} {hs : List ℕ} → Keys rs ls used used hs → {r link key : ℕ} → r ≤ used → link ≡ r → key ≡ history_key hs to_join_lem link
    → KeyIs rs ls used r to_join_lem key
key_read {to_join_lem = to_join_lem} K {r} l a b = rw (b, a) (K.each to_join_lem r l)

pub record FilledTo (tk rs : List ℕ) (ls : List ℤ) (b used : ℕ) (to_join_lem : Bool) (order ks₀ ps₀ ks ps : List ℕ) (i : ℕ) : Type 0 where
  pub keys_length : length ks ≡ length ks₀
  pub places_length : length ps ≡ length ps₀
  pub keys : (k : ℕ) → k < i → KeyIs rs ls used (link_at tk b (get_or order k 0)) to_join_lem (get_or ks k 0)
  pub places : (k : ℕ) → k < i → get_or ps k 0 ≡ k

module _ {tk rs : List ℕ} {ls : List ℤ} {b used : ℕ} {to_join_lem : Bool} {order ks₀ ps₀ : List ℕ} where
  pub filled_none : FilledTo tk rs ls b used to_join_lem order ks₀ ps₀ ks₀ ps₀ 0
  filled_none = record { keys_length = refl; places_length = refl; keys = λ k l. absurd (omega arith); places = λ k l. absurd (omega arith) }

  pub filled_next : {ks ps : List ℕ} {i : ℕ} → FilledTo tk rs ls b used to_join_lem order ks₀ ps₀ ks ps i → i < length ks₀ → i < length ps₀ → (key : ℕ) → KeyIs rs ls used (link_at tk b (get_or order i 0)) to_join_lem key
      → FilledTo tk rs ls b used to_join_lem order ks₀ ps₀ (set ks i key) (set ps i i) (i + 1)
  filled_next {ks} {ps} {i} F l m key K =
      let u = F.keys_length in
      let v = F.places_length in
      record {
        keys_length = length-set ks i key ∙ u;
        places_length = length-set ps i i ∙ v;
        keys = below_more (λ k. KeyIs rs ls used (link_at tk b (get_or order k 0)) to_join_lem (get_or (set ks i key) k 0)) i
            (λ k a. subst (KeyIs rs ls used (link_at tk b (get_or order k 0)) to_join_lem) (sym (get_or-set_other ks i k key 0 (λ e. omega arith))) (F.keys k a))
            (subst (KeyIs rs ls used (link_at tk b (get_or order i 0)) to_join_lem) (sym (get_or-set_same ks i key 0 (omega arith))) K);
        places = below_more (λ k. get_or (set ps i i) k 0 ≡ k) i (λ k a. get_or-set_other ps i k i 0 (λ e. omega arith) ∙ F.places k a) (get_or-set_same ps i i 0 (omega arith));
      }

-- ---- closing up

-- the first m are those of the first i that were not dropped, and from i on nothing has moved
pub record ClosedTo (order₀ order : List ℕ) (m i : ℕ) : Type 0 where
  pub few : m ≤ i
  pub same_length : length order ≡ length order₀
  pub is : take m order ≡ keep_if (λ s. not (eqb s dropped)) (take i order₀)
  pub ahead : (k : ℕ) → i ≤ k → get_or order k 0 ≡ get_or order₀ k 0

take_next : (xs : List ℕ) (i : ℕ) → i < length xs → take (i + 1) xs ≡ take i xs ++ get_or xs i 0 ∷ []
take_next [] i l = absurd (omega arith)
take_next (x ∷ xs) zero l = ap (λ (ys : List ℕ). x ∷ ys) (take_none xs)
  where
    take_none : (ys : List ℕ) → take 0 ys ≡ []
    take_none [] = refl
    take_none (y ∷ ys) = refl
take_next (x ∷ xs) (suc i) l = ap (λ (k : ℕ). take k (x ∷ xs)) (let e : suc i + 1 ≡ suc (i + 1) = omega arith in e) ∙ ap (λ (ys : List ℕ). x ∷ ys) (take_next xs i (omega arith))

take_set : (xs : List ℕ) (m v : ℕ) → take m (set xs m v) ≡ take m xs
take_set [] m v = refl
take_set (x ∷ xs) zero v = refl
take_set (x ∷ xs) (suc m) v = ap (λ (ys : List ℕ). x ∷ ys) (take_set xs m v)

keep_last : (p : ℕ → Bool) (xs : List ℕ) (y : ℕ) → keep_if p (xs ++ y ∷ []) ≡ keep_if p xs ++ cond (p y) (y ∷ []) []
keep_last p [] y = go (p y)
  where
    go : (b : Bool) → cond b (y ∷ []) [] ≡ [] ++ cond b (y ∷ []) []
    go true = refl
    go false = refl
keep_last p (x ∷ xs) y = go (p x) (keep_last p xs y)
  where
    go : (b : Bool) → keep_if p (xs ++ y ∷ []) ≡ keep_if p xs ++ cond (p y) (y ∷ []) []
        → cond b (x ∷ keep_if p (xs ++ y ∷ [])) (keep_if p (xs ++ y ∷ [])) ≡ cond b (x ∷ keep_if p xs) (keep_if p xs) ++ cond (p y) (y ∷ []) []
    go true r = ap (λ (ys : List ℕ). x ∷ ys) r
    go false r = r

append_none : (xs : List ℕ) → xs ++ [] ≡ xs
append_none [] = refl
append_none (x ∷ xs) = ap (λ (ys : List ℕ). x ∷ ys) (append_none xs)

abbrev stays : ℕ → Bool
stays s = not (eqb s dropped)

module _ {order₀ order : List ℕ} {m i : ℕ} (C : ClosedTo order₀ order m i) (l : i < length order₀) where
  one_more : keep_if stays (take (i + 1) order₀) ≡ keep_if stays (take i order₀) ++ cond (stays (get_or order₀ i 0)) (get_or order₀ i 0 ∷ []) []
  one_more = ap (keep_if stays) (take_next order₀ i l) ∙ keep_last stays (take i order₀) (get_or order₀ i 0)

  pub closed_next : {order' : List ℕ} {r : ℕ} (s : ℕ) → s ≡ get_or order i 0 → KeptAt order order' m s r → ClosedTo order₀ order' r (i + 1)
  closed_next s at (not_kept e q w) =
      let o : get_or order₀ i 0 ≡ dropped = sym (C.ahead i (omega arith)) ∙ sym at ∙ e in
      let f = C.few in
      record {
        few = omega arith;
        same_length = ap length q ∙ C.same_length;
        is = ap₂ take w q ∙ C.is ∙ sym (append_none (keep_if stays (take i order₀))) ∙ ap (λ (b : Bool). keep_if stays (take i order₀) ++ cond (not b) (get_or order₀ i 0 ∷ []) []) (sym (eq-eqb (get_or order₀ i 0) dropped o)) ∙ sym one_more;
        ahead = λ k u. ap (λ (xs : List ℕ). get_or xs k 0) q ∙ C.ahead k (omega arith);
      }
  closed_next s at (is_kept e q w) =
      let o : get_or order₀ i 0 ≡ s = sym (C.ahead i (omega arith)) ∙ sym at in
      let f = C.few in
      let z = C.same_length in
      record {
        few = omega arith;
        same_length = ap length q ∙ length-set order m s ∙ z;
        is = ap₂ take w q ∙ take_next (set order m s) m (let y = length-set order m s in omega arith) ∙ ap₂ (λ (xs : List ℕ) (y : ℕ). xs ++ y ∷ []) (take_set order m s ∙ C.is) (get_or-set_same order m s 0 (omega arith) ∙ sym o)
            ∙ ap (λ (b : Bool). keep_if stays (take i order₀) ++ cond (not b) (get_or order₀ i 0 ∷ []) []) (sym (ne_eqb (get_or order₀ i 0) dropped (λ y. e (sym o ∙ y)))) ∙ sym one_more;
        ahead = λ k u. ap (λ (xs : List ℕ). get_or xs k 0) q ∙ get_or-set_other order m k s 0 (λ y. omega arith) ∙ C.ahead k (omega arith);
      }

pub closed_none : (order : List ℕ) → ClosedTo order order 0 0
closed_none order = record { few = omega arith; same_length = refl; is = both order; ahead = λ k l. refl }
  where
    both : (xs : List ℕ) → take 0 xs ≡ keep_if (λ s. not (eqb s dropped)) (take 0 xs)
    both [] = refl
    both (x ∷ xs) = refl

-- ---- a place against those before it

module _ (tk rs : List ℕ) (ls : List ℤ) (b used : ℕ) (to_join_lem : Bool) (order ks ps : List ℕ) (j : ℕ) where
  -- the record of the k-th of the sorted places
  abbrev link_of : ℕ → ℕ
  link_of k = link_at tk b (get_or order (get_or ps k 0) 0)

  -- from i on none reads the same as the j-th
  pub record AloneTo (i : ℕ) : Type 0 where
    pub low : i ≤ j
    pub none : (gs : List Float) (h : ℕ → History) → Stands (store rs ls gs) used h → (k : ℕ) → i ≤ k → k < j → same_places h tk b to_join_lem order (get_or ps j 0) (get_or ps k 0) ≡ false

  pub alone_none : AloneTo j
  alone_none = record { low = omega arith; none = λ gs h ok k l u. absurd (omega arith) }

  module _ {i : ℕ} (A : AloneTo i) where
    pub other_key : 0 < i → (get_or ks (i - 1) 0 ≡ get_or ks j 0 → ⊥) → RepeatsIs tk rs ls b used to_join_lem order ks ps j false
    other_key l d = record { is = λ gs h ok. alone i A.low (A.none gs h ok) (inr (l, d)) }

    pub no_other : i ≡ 0 → RepeatsIs tk rs ls b used to_join_lem order ks ps j false
    no_other e = record { is = λ gs h ok. alone i A.low (A.none gs h ok) (inl e) }

    module _ (l : 0 < i) (x y : ℕ) (x-is : x ≡ link_of j) (y-is : y ≡ link_of (i - 1)) where
      same_is : {r : Bool} → SameIs rs ls used x y to_join_lem r → (gs : List Float) (h : ℕ → History) → Stands (store rs ls gs) used h → same_places h tk b to_join_lem order (get_or ps j 0) (get_or ps (i - 1) 0) ≡ r
      same_is S gs h ok = sym (S.is gs h ok ∙ ap₂ (λ (u v : ℕ). same_reading to_join_lem (h u) (h v)) x-is y-is)

      pub same_found : get_or ks (i - 1) 0 ≡ get_or ks j 0 → SameIs rs ls used x y to_join_lem true → RepeatsIs tk rs ls b used to_join_lem order ks ps j true
      same_found e S = record { is = λ gs h ok. repeated (i - 1) (let z = A.low in omega arith) e (same_is S gs h ok) }

      pub alone_next : SameIs rs ls used x y to_join_lem false → AloneTo (i - 1)
      alone_next S =
          record {
            low = let z = A.low in omega arith;
            none = λ gs h ok k a c. case (eq_or_not k (i - 1)) (λ e. ap (λ (m : ℕ). same_places h tk b to_join_lem order (get_or ps j 0) (get_or ps m 0)) e ∙ same_is S gs h ok) (λ d. A.none gs h ok k (omega arith) c);
          }

-- ---- the places that are dropped

-- the verdict depends on what stands in the places up to the j-th
repeats_alike : {same same' : ℕ → ℕ → Bool} {ks ps : List ℕ} {j : ℕ} {r : Bool} → ((i : ℕ) → i < j → same (get_or ps j 0) (get_or ps i 0) ≡ same' (get_or ps j 0) (get_or ps i 0)) → Repeats same ks ps j r → Repeats same' ks ps j r
repeats_alike e (repeated i l k t) = repeated i l k (sym (e i l) ∙ t)
repeats_alike e (alone k l f z) = alone k l (λ i a c. sym (e i c) ∙ f i a c) z

-- those from the j-th on are judged
pub record DroppedTo (tk rs : List ℕ) (ls : List ℤ) (b used : ℕ) (to_join_lem : Bool) (order₀ : List ℕ) (n : ℕ) (ks ps order : List ℕ) (j : ℕ) : Type 0 where
  pub low : j ≤ n
  pub same_length : length order ≡ length order₀
  pub judged : (k : ℕ) → j ≤ k → k < n → DroppedAt tk rs ls b used to_join_lem order₀ order ks ps k
  pub ahead : (k : ℕ) → k < j → get_or order (get_or ps k 0) 0 ≡ get_or order₀ (get_or ps k 0) 0

module _ {tk rs : List ℕ} {ls : List ℤ} {b used : ℕ} {to_join_lem : Bool} {order₀ : List ℕ} {n : ℕ} {ks ps : List ℕ} where
  pub dropped_none : DroppedTo tk rs ls b used to_join_lem order₀ n ks ps order₀ n
  dropped_none = record { low = omega arith; same_length = refl; judged = λ k l u. absurd (omega arith); ahead = λ k l. refl }

  module _ (D : DropsAsk tk rs ls b used order₀ n ks ps) {order : List ℕ} {j : ℕ} (T : DroppedTo tk rs ls b used to_join_lem order₀ n ks ps order j) (l : 0 < j) where
    pub repeats_asks : RepeatsAsk tk rs ls b used order ks ps (j - 1)
    repeats_asks =
        let z = T.low in
        record {
          side = D.side;
          chains = D.chains;
          keys_long = let y = D.keys_long in omega arith;
          places_long = let y = D.places_long in omega arith;
          inside = λ i u. let y = D.inside i (omega arith) in let x = T.same_length in omega arith;
          each = λ i u. subst (StateAsks tk b used) (sym (T.ahead i (omega arith))) (D.each i (omega arith));
        }

    pub dropped_next : (r : Bool) → RepeatsIs tk rs ls b used to_join_lem order ks ps (j - 1) r → (order' : List ℕ) → order' ≡ cond r (set order (get_or ps (j - 1) 0) dropped) order → DroppedTo tk rs ls b used to_join_lem order₀ n ks ps order' (j - 1)
    dropped_next r R order' e =
        record { low = omega arith; same_length = ap length e ∙ cut-length r ∙ T.same_length; judged = judge; ahead = λ k u. elsewhere k (omega arith) (λ q. D.apart k (j - 1) u (omega arith) q) ∙ T.ahead k (omega arith) }
      where
        p : ℕ
        p = get_or ps (j - 1) 0

        lows : j ≤ n
        lows = T.low

        cut-length : (r : Bool) → length (cond r (set order p dropped) order) ≡ length order
        cut-length true = length-set order p dropped
        cut-length false = refl

        off : (r : Bool) (k : ℕ) → (k ≡ p → ⊥) → get_or (cond r (set order p dropped) order) k 0 ≡ get_or order k 0
        off true k d = get_or-set_other order p k dropped 0 d
        off false k d = refl

        elsewhere : (k : ℕ) → k < n → (get_or ps k 0 ≡ p → ⊥) → get_or order' (get_or ps k 0) 0 ≡ get_or order (get_or ps k 0) 0
        elsewhere k u d = ap (λ (xs : List ℕ). get_or xs (get_or ps k 0) 0) e ∙ off r (get_or ps k 0) d

        on : (r : Bool) → get_or (cond r (set order p dropped) order) p 0 ≡ cond r dropped (get_or order p 0)
        on true = get_or-set_same order p dropped 0 (let y = D.inside (j - 1) (let x = T.low in omega arith) in let x = T.same_length in omega arith)
        on false = refl

        newest : DroppedAt tk rs ls b used to_join_lem order₀ order' ks ps (j - 1)
        newest =
            record {
              r = r;
              repeats = record {
                is = λ gs h ok. repeats_alike
                    (λ i u. ap₂ (λ (s t : ℕ). same_reading to_join_lem (h (link_at tk b s)) (h (link_at tk b t))) (T.ahead (j - 1) (omega arith)) (T.ahead i (omega arith))) (R.is gs h ok);
              };
              is = ap (λ (xs : List ℕ). get_or xs p 0) e ∙ on r ∙ ap (cond r dropped) (T.ahead (j - 1) (omega arith));
            }

        judge : (k : ℕ) → j - 1 ≤ k → k < n → DroppedAt tk rs ls b used to_join_lem order₀ order' ks ps k
        judge k a u = case (eq_or_not k (j - 1)) (λ q. subst (DroppedAt tk rs ls b used to_join_lem order₀ order' ks ps) (sym q) newest)
            (λ d. let J = T.judged k (omega arith) u in record { r = J.r; repeats = J.repeats; is = elsewhere k u (λ q. D.apart (j - 1) k (omega arith) u (sym q)) ∙ J.is })

-- ---- the whole

take_range : (xs : List ℕ) (n : ℕ) → n ≤ length xs → take n xs ≡ map (λ (p : ℕ). get_or xs p 0) (range 0 n)
take_range xs n l = go xs n l
  where
    shift : (x : ℕ) (xs : List ℕ) (a n : ℕ) → map (λ (p : ℕ). get_or (x ∷ xs) p 0) (range (suc a) n) ≡ map (λ (p : ℕ). get_or xs p 0) (range a n)
    shift x xs a zero = refl
    shift x xs a (suc n) = ap (λ (ys : List ℕ). get_or xs a 0 ∷ ys) (shift x xs (suc a) n)

    go : (xs : List ℕ) (n : ℕ) → n ≤ length xs → take n xs ≡ map (λ (p : ℕ). get_or xs p 0) (range 0 n)
    go [] zero l = refl
    go [] (suc n) l = absurd (omega arith)
    go (x ∷ xs) zero l = refl
    go (x ∷ xs) (suc n) l = ap (λ (ys : List ℕ). x ∷ ys) (go xs n (omega arith) ∙ sym (shift x xs 0 n))

module _ {tk rs : List ℕ} {ls : List ℤ} {b used : ℕ} {to_join_lem : Bool} {order : List ℕ} {n : ℕ} (A : StatesAsk tk rs ls b used order n)
    {ks ps : List ℕ} (F : KeysFilled tk rs ls b used to_join_lem order n ks ps) (ks-long : n ≤ length ks) (ps-long : n ≤ length ps)
    {ks' ps' : List ℕ} (L : Lent ks' ps' n) (S : Sorted ks ks' ps ps' n) where
  abbrev key_at : ℕ → ℕ
  key_at p = get_or ks p 0

  places_are : take n ps ≡ range 0 n
  places_are = take_range ps n ps-long ∙ all_same 0 n (λ k l. F.places k (omega arith))
    where
      all_same : (a m : ℕ) → ((k : ℕ) → k < a + m → get_or ps k 0 ≡ k) → map (λ (p : ℕ). get_or ps p 0) (range a m) ≡ range a m
      all_same a zero e = refl
      all_same a (suc m) e = ap₂ (λ (x : ℕ) (xs : List ℕ). x ∷ xs) (e a (omega arith)) (all_same (suc a) m (λ k l. e k (omega arith)))

  pub sorted_places : PlacesSorted key_at n ks' ps'
  sorted_places = places_sorted key_at n (take_range ks n ks-long) places_are L S

  pub drops_asks : DropsAsk tk rs ls b used order n ks' ps'
  drops_asks =
      record {
        side = A.side;
        chains = A.chains;
        keys_long = L.keys_long;
        places_long = L.items_long;
        inside = λ i l. let z = sorted_places.inside i l in let y = A.long in omega arith;
        apart = λ i j l u e. case (sorted_places.ordered i j l u) (λ a. absurd (let x = sorted_places.key_is i (omega arith) in let y = sorted_places.key_is j u in let z = ap key_at e in omega arith)) (λ a. let z = a.1 in absurd (omega arith));
        each = λ i l. A.each (get_or ps' i 0) (sorted_places.inside i l);
      }

  module _ {order' : List ℕ} (D : Dropped tk rs ls b used to_join_lem order order' n ks' ps') (long : n ≤ length order') {order'' : List ℕ} {m : ℕ} (C : ClosedUp order' order'' n m) (gs : List Float) (h : ℕ → History) (ok : Stands (store rs ls gs) used h) where
    abbrev same : ℕ → ℕ → Bool
    same = same_places h tk b to_join_lem order

    one_key : (p q : ℕ) → p < n → q < n → same p q ≡ true → key_at p ≡ key_at q
    one_key p q l u t = same_key_lem gs h ok (F.keys p l) (F.keys q u) (A.each p l).low (A.each q u).low t

    -- every place, by the one of the sorted places that it is
    holds_so : (p : ℕ) → p < n → get_or order' p 0 ≡ cond (earlier same p) dropped (get_or order p 0)
    holds_so p l =
        let (j, u, e) = sorted_places.each p l in
        let J = D.each j u in
        let r : J.r ≡ earlier same (get_or ps' j 0) = repeats_is sorted_places same one_key j u J.r (J.repeats.is gs h ok) in
        subst (λ (q : ℕ). get_or order' q 0 ≡ cond (earlier same q) dropped (get_or order q 0)) e (J.is ∙ ap (λ (x : Bool). cond x dropped (get_or order (get_or ps' j 0) 0)) r)

    alike : (a k : ℕ) → a + k ≤ n → map (λ (p : ℕ). get_or order' p 0) (range a k) ≡ map (λ (p : ℕ). cond (earlier same p) dropped (get_or order p 0)) (range a k)
    alike a zero l = refl
    alike a (suc k) l = ap₂ (λ (x : ℕ) (xs : List ℕ). x ∷ xs) (holds_so a (omega arith)) (alike (suc a) k (omega arith))

    trans : Transitive (same_states h tk b to_join_lem)
    trans x y z = same_trans to_join_lem (h (link_at tk b x)) (h (link_at tk b y)) (h (link_at tk b z))

    pub firsts_are : take m order'' ≡ firsts (same_states h tk b to_join_lem) [] (take n order)
    firsts_are =
        C.is
        ∙ ap (keep_if stays) (take_range order' n long ∙ alike 0 n (omega arith))
        ∙ kept_from dropped (earlier same) (λ p. get_or order p 0) (λ p l. (A.each p l).named) 0 n (omega arith)
        ∙ sym (firsts_by_place (same_states h tk b to_join_lem) trans (λ p. get_or order p 0) n)
        ∙ ap (firsts (same_states h tk b to_join_lem) []) (sym (take_range order n A.long))
