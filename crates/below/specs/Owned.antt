-- The first of a list is the path on which the join stands, which takes no kept path and costs nothing; every other takes some. Assumes nothing.
use Rattle.std.specs.Prelude.{◌≡◌, true, false, T, Float}
use Rattle.std.proofs.Math.Path.{refl, ap, subst}
use Rattle.std.proofs.Common.{sym, ◌∙◌, arith}
use Prim.Native.Nat.{ℕ, zero, suc, ◌<◌}
use Rattle.std.proofs.Math.Bool.{Bool, not, cond}
use mathlib.Core.List.Memᴰ
use mathlib.Core.List.Memᴰ.{head as here}
use mathlib.Core.List.Memᴰ.{tail as there}
use mathlib.Core.List.{List, [], ◌∷◌, ◌++◌, map}
use Rattle.std.proofs.Math.ListN.{take}
use Rattle.std.specs.Float.Ieee.{add, of_bits, le, lt}
use Rattle.lists.specs.Tests.{case, holds, is_false}
use Rattle.lists.specs.Lists.{◌∈◌, keep_if, insert_by, sort_by, firsts}
use Rattle.lists.specs.Members.{take_from, keep_from, sort_from, firsts_from, map_from}
use Rattle.real32.specs.Order.{lt_not_le}
use Rattle.real32.specs.Small.{huge}
use Rattle.model.specs.Basics.{◌≺◌, ◌≼◌, ◌⊕◌, 0f, ∞}
use Rattle.model.specs.Readings.{Below, on_top, by_way, same_key, cheapest}
use Rattle.records.specs.History.{History, no_history, link_onto, join_on}
use Rattle.below.specs.Lists.{below_of, Dearer}
use Rattle.below.specs.Lengths.{on_top_route}
use Rattle.below.specs.Rising.{on_top_cost, low_on_top, cost_low, below_lows, up_by, below_up}

pub record OwnFirst (bs : List Below) : Type 0 where
  pub own : Below
  pub rest : List Below
  pub is : bs ≡ own ∷ rest
  pub no_route : own.route ≡ []
  pub free : own.cost ≡ 0f
  pub routed : (b : Below) → b ∈ rest → b.route ≡ [] → ⊥

-- what nothing comes before stays in front
insert_first : (x : Below) (ys : List Below) → ((y : Below) → y ∈ ys → (y.cost ≺ x.cost) ≡ false) → insert_by (λ (a b : Below). a.cost ≺ b.cost) x ys ≡ x ∷ ys
insert_first x [] f = refl
insert_first x (y ∷ ys) f = rw (f y (here refl))

zero_sum : 0f ⊕ 0f ≡ 0f
unfolding add of_bits
zero_sum = refl

below_inf : T (0f ≺ ∞)
unfolding lt of_bits
below_inf = tt

module _ (margin : Float) (margin-small : T (margin ≺ huge)) (margin-up : T (0f ≼ margin)) where
  -- the first of what the margin leaves, where no other costs less and each takes a kept path
  cheapest_first : (n : ℕ) (x : Below) (ys : List Below) → x.route ≡ [] → x.cost ≡ 0f → ((y : Below) → y ∈ ys → T (0f ≼ y.cost)) → ((y : Below) → y ∈ ys → y.route ≡ [] → ⊥)
      → OwnFirst (cheapest (suc n) (keep_if (λ (b : Below). not (margin ≺ b.cost)) (x ∷ ys)))
  unfolding cheapest
  cheapest_first n x ys r z up routed =
      record {
        own = x;
        rest = take n (firsts same_key (x ∷ []) (sort_by cheaper (keep_if fit ys)));
        is = ap (λ (bs : List Below). take (suc n) (firsts same_key [] bs)) (ap (sort_by cheaper) kept ∙ insert_first x (sort_by cheaper (keep_if fit ys)) behind);
        no_route = r;
        free = z;
        routed = λ b m. routed b (keep_from fit ys b (sort_from cheaper (keep_if fit ys) b (firsts_from same_key (x ∷ []) (sort_by cheaper (keep_if fit ys)) b (take_from n _ b m))));
      }
    where
      fit : Below → Bool
      fit b = not (margin ≺ b.cost)

      cheaper : Below → Below → Bool
      cheaper a b = a.cost ≺ b.cost

      kept : keep_if fit (x ∷ ys) ≡ x ∷ keep_if fit ys
      kept =
          let e : (margin ≺ x.cost) ≡ false = ap (λ (c : Float). margin ≺ c) z ∙ is_false (λ t. lt_not_le margin 0f t margin-up) in
          ap (λ (b : Bool). cond (not b) (x ∷ keep_if fit ys) (keep_if fit ys)) e

      behind : (y : Below) → y ∈ sort_by cheaper (keep_if fit ys) → (y.cost ≺ x.cost) ≡ false
      behind y m = ap (λ (c : Float). y.cost ≺ c) z ∙ is_false (λ t. lt_not_le y.cost 0f t (up y (keep_from fit ys y (sort_from cheaper (keep_if fit ys) y m))))

  pub below_own_first : (cap : ℕ) → 0 < cap → (x : History) → Dearer x → OwnFirst (below_of margin cap x)
  unfolding below_of by_way
  below_own_first cap l no_history d = record { own = _; rest = []; is = refl; no_route = refl; free = refl; routed = λ b m. elim m [ ] }
  below_own_first cap l (link_onto n f w s t) d =
      let o = below_own_first cap l t d in
      record {
        own = on_top w o.own;
        rest = map (on_top w) o.rest;
        is = ap (map (on_top w)) o.is;
        no_route = on_top_route w o.own ∙ o.no_route;
        free = on_top_cost w o.own ∙ o.free;
        routed = λ b m e. let (c, i, q) = map_from (on_top w) o.rest b m in o.routed c i (sym (on_top_route w c) ∙ ap (λ (y : Below). y.route) (sym q) ∙ e);
      }
  below_own_first zero l (join_on n f b k t) d = absurd (omega arith)
  below_own_first (suc cap) l (join_on n f b k t) d =
      let o = below_own_first (suc cap) l t d.2 in
      let down : Below → Below = by_way 0f 0f [] in
      subst (λ (bs : List Below). OwnFirst (cheapest (suc cap) (keep_if (λ (x : Below). not (margin ≺ x.cost)) (map down bs ++ kepts (b.cost ≼ margin))))) (sym o.is)
      (cheapest_first cap (down o.own) (map down o.rest ++ kepts (b.cost ≼ margin)) o.no_route (ap (λ (c : Float). 0f ⊕ c) o.free ∙ zero_sum)
      (λ y m. case (Memᴰ.append_cases (map down o.rest) m) (own_up o y) (kept_up (b.cost ≼ margin) refl y))
      (λ y m. case (Memᴰ.append_cases (map down o.rest) m) (own_routed o y) (kept_routed (b.cost ≼ margin) y)))
    where
      kepts : Bool → List Below
      kepts c = cond c (map (by_way b.cost b.graph (n ∷ [])) (map (on_top b.word) (below_of margin (suc cap) k))) []

      own_up : (o : OwnFirst (below_of margin (suc cap) t)) (y : Below) → y ∈ map (by_way 0f 0f []) o.rest → T (0f ≼ y.cost)
      own_up o y m =
          let (c, i, q) = map_from (by_way 0f 0f []) o.rest y m in
          let j : c ∈ below_of margin (suc cap) t = subst (λ (bs : List Below). c ∈ bs) (sym o.is) (there i) in
          subst (λ (z : Below). T (0f ≼ z.cost)) (sym q)
          (up_by margin margin-small margin-up 0f 0f [] c (unfold le in tt) below_inf (below_lows margin margin-small (suc cap) t c j) (below_up margin margin-small margin-up (suc cap) t d.2 c j))

      kept_up : (c : Bool) → (b.cost ≼ margin) ≡ c → (y : Below) → y ∈ kepts c → T (0f ≼ y.cost)
      kept_up true g y m =
          let (c, i, q) = map_from (by_way b.cost b.graph (n ∷ [])) (map (on_top b.word) (below_of margin (suc cap) k)) y m in
          let (a, j, r) = map_from (on_top b.word) (below_of margin (suc cap) k) c i in
          subst (λ (z : Below). T (0f ≼ z.cost)) (sym (q ∙ ap (by_way b.cost b.graph (n ∷ [])) r))
          (up_by margin margin-small margin-up b.cost b.graph (n ∷ []) (on_top b.word a) d.0 (cost_low margin margin-small b.cost (holds g)) (low_on_top margin margin-small b.word a (below_lows margin margin-small (suc cap) k a j))
          (subst (λ (z : Float). T (0f ≼ z)) (sym (on_top_cost b.word a)) (below_up margin margin-small margin-up (suc cap) k d.1 a j)))
      kept_up false g y m = elim m [ ]

      own_routed : (o : OwnFirst (below_of margin (suc cap) t)) (y : Below) → y ∈ map (by_way 0f 0f []) o.rest → y.route ≡ [] → ⊥
      own_routed o y m e = let (c, i, q) = map_from (by_way 0f 0f []) o.rest y m in o.routed c i (ap (λ (z : Below). z.route) (sym q) ∙ e)

      kept_routed : (c : Bool) (y : Below) → y ∈ kepts c → y.route ≡ [] → ⊥
      kept_routed true y m e =
          let (c, i, q) = map_from (by_way b.cost b.graph (n ∷ [])) (map (on_top b.word) (below_of margin (suc cap) k)) y m in
          never_empty c.route (ap (λ (z : Below). z.route) (sym q) ∙ e)
        where
          never_empty : (ns : List ℕ) → n ∷ ns ≡ [] → ⊥
          never_empty ns e = let z : ◌≡◌ {A = ℕ} 0 1 = cc in omega arith
      kept_routed false y m e = elim m [ ]
