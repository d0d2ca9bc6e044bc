-- Costs do not fall along what is listed below a history, and they are from 0 to the margin where those that joins kept are. Assumes nothing.
use Rattle.std.specs.Prelude.{◌≡◌, ℕ, zero, suc, ◌≤◌, ◌<◌, true, false, cond, ℤ, length, get_or, take, Float}
use Rattle.std.proofs.Math.Path.{refl, subst}
use Rattle.std.proofs.Common.{sym, ap, ◌∙◌}
use native.Mathlib.Omega.{arith}
use Rattle.std.proofs.Math.Bool.{Bool, not}
use mathlib.Core.List.Memᴰ
use mathlib.Core.List.Memᴰ.{head as here}
use mathlib.Core.List.Memᴰ.{tail as there}
use mathlib.Core.List.{List, [], ◌∷◌, ◌++◌, map}
use Rattle.std.proofs.Math.Dec.{T}
use Rattle.std.proofs.lemmas.List.{length-map}
use Rattle.std.specs.Float.{nan, inf, fin}
use Rattle.std.specs.Float.Ieee.{binary32, fits, add, lt, le}
use Rattle.std.specs.Float.Ieee.Scale.{finite}
use Rattle.std.specs.Float.Ieee.Fits.{add-fits}
use Rattle.lists.specs.Tests.{case, holds, fails, is_true, is_false}
use Rattle.lists.specs.Lists.{◌∈◌, any, keep_if, sort_by, firsts}
use Rattle.lists.specs.Members.{at_member, take_from, keep_from, keep_to, sort_from, firsts_from, map_from, map_to}
use Rattle.lists.specs.Order.{Sorted, Strict, sort_sorted, sort_to}
use Rattle.real32.specs.Order.{real, le_refl, le_trans, lt→le, lt_trans, le_lt_trans, lt_inf, not_lt→le, le→not_lt, lt_asym, lt_real_l, between}
use Rattle.real32.specs.Sum.{add_comm, add_real, add_le, add_mono, add_mono_r, zp, zn}
use Rattle.real32.specs.Exact.{add_zp, add_zn, zp_zn}
use Rattle.real32.specs.Small.{huge}
use Rattle.model.specs.Basics.{◌≺◌, ◌≼◌, ◌⊕◌, 0f, ∞, nonzero}
use Rattle.model.specs.Hash.{hash_word}
use Rattle.model.specs.Readings.{Below, at_start, on_top, by_way, same_key, cheapest}
use Rattle.records.specs.History.{Beside, History, no_history, link_onto, join_on}
use Rattle.below.specs.Lists.{below_of, Dearer}
use Rattle.below.specs.Each.{Downward, below_each}

-- words on top cost nothing
pub on_top_cost : (w : ℤ) (b : Below) → (on_top w b).cost ≡ b.cost
unfolding on_top
on_top_cost w b = go (nonzero w)
  where
    go : (c : Bool) → (cond c (record { hash = hash_word w b.hash; len = suc b.len; cost = b.cost; graph = b.graph; route = b.route }) b).cost ≡ b.cost
    go true = refl
    go false = refl

zero_fits : T (fits binary32 0f)
unfolding fits
zero_fits = tt

zero_zero : 0f ⊕ 0f ≡ 0f
zero_zero = add_zp binary32 0f zero_fits tt

-- ---- costs do not fall

-- none costs more than one behind it
abbrev pub Ascending : List Below → Type 0
Ascending [] = Unit {0}
Ascending (b ∷ bs) = ((c : Below) → c ∈ bs → T (b.cost ≼ c.cost)) × Ascending bs

-- none is a NaN
abbrev pub Reals : List Below → Type 0
Reals bs = (b : Below) → b ∈ bs → T (real b.cost)

-- nor +∞
abbrev pub Lows : List Below → Type 0
Lows bs = (b : Below) → b ∈ bs → T (b.cost ≺ ∞)

-- so they are real
pub lows_reals : (bs : List Below) → Lows bs → Reals bs
lows_reals bs l b m = lt_real_l b.cost ∞ (l b m)

-- said by places
pub ascending_at : (bs : List Below) → Ascending bs → Reals bs → (d : Below) (i j : ℕ) → i ≤ j → j < length bs → T ((get_or bs i d).cost ≼ (get_or bs j d).cost)
ascending_at [] s r d i j l u = absurd (omega arith)
ascending_at (b ∷ bs) s r d zero zero l u = le_refl b.cost (r b (here refl))
ascending_at (b ∷ bs) s r d zero (suc j) l u = s.0 (get_or bs j d) (at_member bs j d (omega arith))
ascending_at (b ∷ bs) s r d (suc i) zero l u = absurd (omega arith)
ascending_at (b ∷ bs) s r d (suc i) (suc j) l u = ascending_at bs s.1 (λ c m. r c (there m)) d i j (omega arith) (omega arith)

-- a sum of such is no NaN
sum_real : (x y : Float) → T (x ≺ ∞) → T (y ≺ ∞) → T (real (x ⊕ y))
unfolding lt add
sum_real nan y p q = absurd p
sum_real (inf true) nan p q = absurd q
sum_real (inf true) (inf true) p q = tt
sum_real (inf true) (inf false) p q = absurd q
sum_real (inf true) (fin t n d) p q = tt
sum_real (inf false) y p q = absurd p
sum_real (fin s m e) y p q = add_real binary32 (fin s m e) y tt (lt_real_l y ∞ q)

-- a map that keeps the order
ascending_map : (f : Below → Below) (bs : List Below) → ((b c : Below) → b ∈ bs → c ∈ bs → T (b.cost ≼ c.cost) → T ((f b).cost ≼ (f c).cost)) → Ascending bs → Ascending (map f bs)
ascending_map f [] e s = tt
ascending_map f (b ∷ bs) e s =
    (λ c m. let (o, i, q) = map_from f bs c m in subst (λ (x : Below). T ((f b).cost ≼ x.cost)) (sym q) (e b o (here refl) (there i) (s.0 o i)), ascending_map f bs (λ x y i j. e x y (there i) (there j)) s.1)

-- words on top keep the order
pub on_top_ascending : (w : ℤ) (bs : List Below) → Ascending bs → Ascending (map (on_top w) bs)
on_top_ascending w bs s = ascending_map (on_top w) bs (λ b c i j l. rw (on_top_cost w b, on_top_cost w c) l) s

-- so does a way
pub by_way_ascending : (c gr : Float) (via : List ℕ) → T (c ≺ ∞) → (bs : List Below) → Lows bs → Ascending bs → Ascending (map (by_way c gr via) bs)
unfolding by_way
by_way_ascending c gr via f bs r s = ascending_map (by_way c gr via) bs (λ x y i j l. add_mono_r binary32 c x.cost y.cost (sum_real c x.cost f (r x i)) (sum_real c y.cost f (r y j)) l) s

-- words on top cost nothing more
pub on_top_lows : (w : ℤ) (bs : List Below) → Lows bs → Lows (map (on_top w) bs)
on_top_lows w bs r b m = let (o, i, e) = map_from (on_top w) bs b m in subst (λ (x : Float). T (x ≺ ∞)) (sym (ap (λ (x : Below). x.cost) e ∙ on_top_cost w o)) (r o i)

-- and it makes no NaN
pub by_way_reals : (c gr : Float) (via : List ℕ) → T (c ≺ ∞) → (bs : List Below) → Lows bs → Reals (map (by_way c gr via) bs)
unfolding by_way
by_way_reals c gr via f bs r b m = let (o, i, e) = map_from (by_way c gr via) bs b m in subst (λ (x : Below). T (real x.cost)) (sym e) (sum_real c o.cost f (r o i))

abbrev cheaper : Below → Below → Bool
cheaper a b = a.cost ≺ b.cost

by_cost : Strict (λ (b : Below). T (real b.cost)) cheaper
by_cost =
    record {
      asym = λ x y p q e. is_false (λ t. lt_asym x.cost y.cost (holds e) t);
      through = λ x y z p q r e g.
          is_false (λ t. absurd_of x.cost z.cost t (le_trans z.cost y.cost x.cost (not_lt→le y.cost z.cost q r (fails g)) (not_lt→le x.cost y.cost p q (fails e))));
    }
  where
    absurd_of : (x z : Float) → T (x ≺ z) → T (z ≼ x) → ⊥
    absurd_of x z t l = not_both (x ≺ z) t (le→not_lt x z l)
      where
        not_both : (c : Bool) → T c → T (not c) → ⊥
        not_both true a b = b
        not_both false a b = a

sorted_ascending : (bs : List Below) → Reals bs → Sorted cheaper bs → Ascending bs
sorted_ascending [] r s = tt
sorted_ascending (b ∷ bs) r s =
    (λ c m. not_lt→le c.cost b.cost (r c (there m)) (r b (here refl)) (fails (s.0 c m)), sorted_ascending bs (λ c m. r c (there m)) s.1)

firsts_ascending : (seen bs : List Below) → Ascending bs → Ascending (firsts same_key seen bs)
firsts_ascending seen [] s = tt
firsts_ascending seen (b ∷ bs) s = go (any (same_key b) seen) (firsts_ascending seen bs s.1) (firsts_ascending (b ∷ seen) bs s.1)
  where
    go : (c : Bool) → Ascending (firsts same_key seen bs) → Ascending (firsts same_key (b ∷ seen) bs) → Ascending (elim c as (λ z. List Below) [ true ↦ firsts same_key seen bs | false ↦ b ∷ firsts same_key (b ∷ seen) bs ])
    go true f g = f
    go false f g = (λ c m. s.0 c (firsts_from same_key (b ∷ seen) bs c m), g)

take_ascending : (n : ℕ) (bs : List Below) → Ascending bs → Ascending (take n bs)
take_ascending zero [] s = tt
take_ascending zero (b ∷ bs) s = tt
take_ascending (suc n) [] s = tt
take_ascending (suc n) (b ∷ bs) s = (λ c m. s.0 c (take_from n bs c m), take_ascending n bs s.1)

cheapest_ascending : (cap : ℕ) (bs : List Below) → Reals bs → Ascending (cheapest cap bs)
unfolding cheapest
cheapest_ascending cap bs r =
    take_ascending cap _
    (firsts_ascending [] (sort_by cheaper bs) (sorted_ascending (sort_by cheaper bs) (λ b m. r b (sort_from cheaper bs b m)) (sort_sorted (λ (b : Below). T (real b.cost)) cheaper by_cost bs r)))

take_few : (n : ℕ) (bs : List Below) → length (take n bs) ≤ n
take_few zero [] = omega arith
take_few zero (b ∷ bs) = omega arith
take_few (suc n) [] = omega arith
take_few (suc n) (b ∷ bs) = let z = take_few n bs in omega arith

firsts_some : (n : ℕ) → 0 < n → (bs : List Below) (b : Below) → b ∈ bs → 0 < length (take n (firsts same_key [] bs))
firsts_some (suc n) l [] c m = elim m [ ]
firsts_some zero l bs b m = absurd (omega arith)
firsts_some (suc n) l (b ∷ bs) c m = omega arith

-- ---- the lists of any history: no cost is a NaN, and they do not fall

module _ (margin : Float) (margin-small : T (margin ≺ huge)) where
  margin_low : T (margin ≺ ∞)
  margin_low = lt_trans margin huge ∞ margin-small (lt_inf huge tt)

  -- what costs no more
  pub cost_low : (c : Float) → T (c ≼ margin) → T (c ≺ ∞)
  cost_low c l = le_lt_trans c margin ∞ l margin_low

  -- down a way, where the margin does not cut it
  uncut : (c gr : Float) (via : List ℕ) (b : Below) → T (c ≺ ∞) → (margin ≺ (by_way c gr via b).cost) ≡ false → T (b.cost ≺ ∞) → T ((by_way c gr via b).cost ≼ margin)
  unfolding by_way
  uncut c gr via b f e d = not_lt→le margin (c ⊕ b.cost) (lt_real_l margin ∞ margin_low) (sum_real c b.cost f d) (fails e)

  pub low_on_top : (w : ℤ) (b : Below) → T (b.cost ≺ ∞) → T ((on_top w b).cost ≺ ∞)
  low_on_top w b d = subst (λ (x : Float). T (x ≺ ∞)) (sym (on_top_cost w b)) d

  -- no cost is a NaN or +∞
  pub below_lows : (cap : ℕ) (x : History) → Lows (below_of margin cap x)
  below_lows cap =
      below_each margin cap (λ x b. T (b.cost ≺ ∞))
      (record {
        start = lt_inf 0f tt;
        link = λ n f w s t b r. low_on_top w b r;
        own = λ n f x k t b e r. cost_low _ (uncut 0f 0f [] b (lt_inf 0f tt) e r);
        kept = λ n f x k t b q e r. cost_low _ (uncut x.cost x.graph (n ∷ []) (on_top x.word b) (cost_low x.cost (holds q)) e (low_on_top x.word b r));
      })

  pub below_ascending : (cap : ℕ) (x : History) → Ascending (below_of margin cap x)
  unfolding below_of
  below_ascending cap no_history = (λ c m. elim m [ ], tt)
  below_ascending cap (link_onto n f w s t) = on_top_ascending w (below_of margin cap t) (below_ascending cap t)
  below_ascending cap (join_on n f x k t) =
      cheapest_ascending cap (keep_if fit (owns ++ taken (x.cost ≼ margin)))
      (λ b m. case (Memᴰ.append_cases owns (keep_from fit (owns ++ taken (x.cost ≼ margin)) b m)) (own_real b) (kept_real (x.cost ≼ margin) refl b))
    where
      fit : Below → Bool
      fit b = not (margin ≺ b.cost)

      owns : List Below
      owns = map (by_way 0f 0f []) (below_of margin cap t)

      taken : Bool → List Below
      taken c = cond c (map (by_way x.cost x.graph (n ∷ [])) (map (on_top x.word) (below_of margin cap k))) []

      own_real : Reals owns
      own_real = by_way_reals 0f 0f [] (lt_inf 0f tt) (below_of margin cap t) (below_lows cap t)

      kept_real : (c : Bool) → (x.cost ≼ margin) ≡ c → Reals (taken c)
      kept_real true q = by_way_reals x.cost x.graph (n ∷ []) (cost_low x.cost (holds q)) (map (on_top x.word) (below_of margin cap k)) (on_top_lows x.word (below_of margin cap k) (below_lows cap k))
      kept_real false q = λ b m. elim m [ ]

  -- costs do not fall along the list
  pub below_rising : (cap : ℕ) (x : History) (i j : ℕ) → i ≤ j → j < length (below_of margin cap x) → T ((get_or (below_of margin cap x) i at_start).cost ≼ (get_or (below_of margin cap x) j at_start).cost)
  below_rising cap x i j l u = ascending_at (below_of margin cap x) (below_ascending cap x) (lows_reals (below_of margin cap x) (below_lows cap x)) at_start i j l u

  -- ---- under a margin from 0 on

  module _ (margin-up : T (0f ≼ margin)) where
    under_downward : (cap : ℕ) → Downward margin cap (λ x b. T (b.cost ≼ margin) × T (fits binary32 b.cost))
    unfolding by_way
    under_downward cap =
        record {
          start = (margin-up, zero_fits);
          link = λ n f w s t b r. subst (λ (x : Float). T (x ≼ margin) × T (fits binary32 x)) (sym (on_top_cost w b)) r;
          own = λ n f x k t b e r. (uncut 0f 0f [] b (lt_inf 0f tt) e (cost_low b.cost r.0), add-fits binary32 0f b.cost);
          kept = λ n f x k t b q e r. (uncut x.cost x.graph (n ∷ []) (on_top x.word b) (cost_low x.cost (holds q)) e (low_on_top x.word b (cost_low b.cost r.0)), add-fits binary32 x.cost (on_top x.word b).cost);
        }

    -- every cost is an f32 that is not above the margin
    pub below_under : (cap : ℕ) (x : History) (b : Below) → b ∈ below_of margin cap x → T (b.cost ≼ margin) × T (fits binary32 b.cost)
    below_under cap = below_each margin cap (λ x b. T (b.cost ≼ margin) × T (fits binary32 b.cost)) (under_downward cap)

    cost_finite : (c : Float) → T (0f ≼ c) → T (c ≼ margin) → T (finite c)
    cost_finite c u l = between 0f c margin tt (between 0f margin huge tt tt margin-up (lt→le margin huge margin-small)) u l

    pub up_by : (c gr : Float) (via : List ℕ) (b : Below) → T (0f ≼ c) → T (c ≺ ∞) → T (b.cost ≺ ∞) → T (0f ≼ b.cost) → T (0f ≼ (by_way c gr via b).cost)
    unfolding by_way
    up_by c gr via b u f l d =
        le_trans 0f (c ⊕ 0f) (c ⊕ b.cost) (subst (λ (x : Float). T (x ≼ c ⊕ 0f)) zero_zero (add_le binary32 0f c 0f tt u))
        (add_mono_r binary32 c 0f b.cost (sum_real c 0f f (lt_inf 0f tt)) (sum_real c b.cost f l) d)

    -- nor below 0, where what joins kept cost no less than the winners
    pub below_up : (cap : ℕ) (x : History) → Dearer x → (b : Below) → b ∈ below_of margin cap x → T (0f ≼ b.cost)
    below_up cap x d b m =
        (below_each margin cap (λ x b. T (b.cost ≺ ∞) × (Dearer x → T (0f ≼ b.cost)))
        (record {
          start = (lt_inf 0f tt, λ d. unfold le in tt);
          link = λ n f w s t b r. (low_on_top w b r.0, λ d. subst (λ (x : Float). T (0f ≼ x)) (sym (on_top_cost w b)) (r.1 d));
          own = λ n f x k t b e r. (cost_low _ (uncut 0f 0f [] b (lt_inf 0f tt) e r.0), λ d. up_by 0f 0f [] b (unfold le in tt) (lt_inf 0f tt) r.0 (r.1 d.2));
          kept = λ n f x k t b q e r.
              let l = low_on_top x.word b r.0 in
              let c = cost_low x.cost (holds q) in
              (cost_low _ (uncut x.cost x.graph (n ∷ []) (on_top x.word b) c e l), λ d. up_by x.cost x.graph (n ∷ []) (on_top x.word b) d.0 c l (subst (λ (y : Float). T (0f ≼ y)) (sym (on_top_cost x.word b)) (r.1 d.1)));
        }) x b m).1 d

    -- so every cost is finite
    pub below_finite : (cap : ℕ) (x : History) → Dearer x → (b : Below) → b ∈ below_of margin cap x → T (finite b.cost)
    below_finite cap x d b m = cost_finite b.cost (below_up cap x d b m) (below_under cap x b m).0

    -- ---- how many there are

    -- a path that the margin does not cut is not cut down the own way
    own_fits : (b : Below) → T (b.cost ≼ margin) → T (fits binary32 b.cost) → T (0f ⊕ b.cost ≼ margin)
    own_fits b u d =
        let l = cost_low b.cost u in
        le_trans (0f ⊕ b.cost) b.cost margin
        (subst (λ (x : Float). T (0f ⊕ b.cost ≼ x)) (add_comm binary32 zn b.cost ∙ add_zn binary32 b.cost d) (add_mono binary32 zp zn b.cost (sum_real zp b.cost (lt_inf zp tt) l) (sum_real zn b.cost (lt_inf zn tt) l) zp_zn)) u

    -- there is at least one
    pub below_some : (cap : ℕ) → 0 < cap → (x : History) → 0 < length (below_of margin cap x)
    unfolding below_of cheapest by_way
    below_some cap l no_history = omega arith
    below_some cap l (link_onto n f w s t) = rw (length-map (below_of margin cap t) (on_top w)) (below_some cap l t)
    below_some cap l (join_on n f x k t) = taken_some (below_some cap l t)
      where
        owns : List Below
        owns = map (by_way 0f 0f []) (below_of margin cap t)

        kepts : List Below
        kepts = cond (x.cost ≼ margin) (map (by_way x.cost x.graph (n ∷ [])) (map (on_top x.word) (below_of margin cap k))) []

        fit : Below → Bool
        fit b = not (margin ≺ b.cost)

        sorted : List Below
        sorted = sort_by cheaper (keep_if fit (owns ++ kepts))

        taken_some : 0 < length (below_of margin cap t) → 0 < length (take cap (firsts same_key [] sorted))
        taken_some u =
            let b = get_or (below_of margin cap t) 0 at_start in
            let m = at_member (below_of margin cap t) 0 at_start u in
            let v = below_under cap t b m in
            let fits-own = is_true (le→not_lt margin (0f ⊕ b.cost) (own_fits b v.0 v.1)) in
            let one = keep_to fit (owns ++ kepts) (by_way 0f 0f [] b) (Memᴰ.append_left kepts (map_to (by_way 0f 0f []) (below_of margin cap t) b m)) fits-own in
            firsts_some cap l sorted (by_way 0f 0f [] b) (sort_to cheaper (keep_if fit (owns ++ kepts)) (by_way 0f 0f [] b) one)

-- and at most `cap` of them: at a join
pub join_few : (margin : Float) (cap n f : ℕ) (x : Beside) (k t : History) → length (below_of margin cap (join_on n f x k t)) ≤ cap
unfolding below_of cheapest
join_few margin cap n f x k t = take_few cap _

-- anywhere
pub below_few : (margin : Float) (cap : ℕ) → 0 < cap → (x : History) → length (below_of margin cap x) ≤ cap
unfolding below_of
below_few margin cap l no_history = l
below_few margin cap l (link_onto n f w s t) = rw (length-map (below_of margin cap t) (on_top w)) (below_few margin cap l t)
below_few margin cap l (join_on n f x k t) = join_few margin cap n f x k t
