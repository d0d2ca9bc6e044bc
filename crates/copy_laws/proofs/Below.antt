-- What is listed below a path: one induction for every law of `below`. Its hash and length are those of the words along its route. Assumes nothing.
use Rattle.std.specs.Prelude.{◌≡◌, ℕ, suc, ◌<◌, ◌≤◌, Bool, true, false, not, ◌||◌, cond, length, eqb, ℤ, Float}
use Rattle.std.proofs.Math.Path.{refl, subst}
use Rattle.std.proofs.Common.{sym, ap, ◌∙◌, arith, eq-eqb, ne_eqb}
use mathlib.Core.List.Memᴰ
use mathlib.Core.List.Memᴰ.{head as here}
use mathlib.Core.List.Memᴰ.{tail as there}
use mathlib.Core.List.{List, [], ◌∷◌, ◌++◌, map, reverse, reverse-append}
use Rattle.std.proofs.lemmas.Bool.{not-true}
use Rattle.lists.specs.Tests.{case, never}
use Rattle.lists.specs.Lists.{◌∈◌, keep_if}
use Rattle.lists.specs.Members.{take_from, keep_from, keep_passes, sort_from, firsts_from, map_from}
use Rattle.model.specs.Basics.{◌≺◌, ◌≼◌, 0f, nonzero}
use Rattle.model.specs.Graph.{Arc}
use Rattle.model.specs.Path.{Step, Merge, Path, empty_path, arc_onto, branch_on, word, with_word, memℕ}
use Rattle.model.specs.Hash.{hash_word, hash_words}
use Rattle.model.specs.Readings.{Below, at_start, on_top, by_way, same_key, cheapest, below}
use Rattle.copy_laws.specs.Walks.{words_along}
use Rattle.copy_laws.proofs.Walks.{words_append}
use Rattle.copy_laws.specs.Routes.{along}
use Rattle.copy_laws.specs.Shapes.{Falling}
use Rattle.copy_laws.proofs.Shapes.{falling_more}
use Rattle.copy_laws.specs.Below.{words_back_along, Under, Keyed}

-- ---- one induction

module _ (margin : Float) (cap : ℕ) (P : Path → Below → Type 0) where
  pub record Downward : Type 0 where
    pub start : P empty_path at_start
    pub arc : (x : Step) (p : Path) (b : Below) → P p b → P (arc_onto x p) (on_top (word x) b)
    pub own : (m : Merge) (k p : Path) (b : Below) → (margin ≺ (by_way 0f 0f [] b).cost) ≡ false → P p b → P (branch_on m k p) (by_way 0f 0f [] b)
    pub kept : (m : Merge) (k p : Path) (b : Below) → (m.cost ≼ margin) ≡ true → (margin ≺ (by_way m.cost m.graph (m.number ∷ []) b).cost) ≡ false → P k b → P (branch_on m k p) (by_way m.cost m.graph (m.number ∷ []) b)

  pub below_each : Downward → (p : Path) (b : Below) → b ∈ below margin cap p → P p b
  unfolding below cheapest
  below_each d empty_path b (here e) = subst (P empty_path) (sym e) d.start
  below_each d empty_path b (there m) = elim m [ ]
  below_each d (arc_onto x p) b m = let (o, n, e) = map_from (on_top (word x)) (below margin cap p) b m in subst (P (arc_onto x p)) (sym e) (d.arc x p o (below_each d p o n))
  below_each d (branch_on m k p) b n = case (Memᴰ.append_cases owns (keep_from fits (owns ++ kepts) b in_kept)) (λ i. by_own (below_each d p) i) (λ i. by_kept (m.cost ≼ margin) refl (below_each d k) i)
    where
      owns : List Below
      owns = map (by_way 0f 0f []) (below margin cap p)

      taken : Bool → List Below
      taken c = cond c (map (by_way m.cost m.graph (m.number ∷ [])) (below margin cap k)) []

      kepts : List Below
      kepts = taken (m.cost ≼ margin)

      fits : Below → Bool
      fits x = not (margin ≺ x.cost)

      in_kept : b ∈ keep_if fits (owns ++ kepts)
      in_kept = sort_from (λ (a b : Below). a.cost ≺ b.cost) (keep_if fits (owns ++ kepts)) b (firsts_from same_key [] _ b (take_from cap _ b n))

      fit : (margin ≺ b.cost) ≡ false
      fit = not-true (margin ≺ b.cost) (keep_passes fits (owns ++ kepts) b in_kept)

      by_own : ((o : Below) → o ∈ below margin cap p → P p o) → b ∈ owns → P (branch_on m k p) b
      by_own rec i = let (o, j, e) = map_from (by_way 0f 0f []) (below margin cap p) b i in subst (P (branch_on m k p)) (sym e) (d.own m k p o (subst (λ (x : Below). (margin ≺ x.cost) ≡ false) e fit) (rec o j))

      by_kept : (c : Bool) → (m.cost ≼ margin) ≡ c → ((o : Below) → o ∈ below margin cap k → P k o) → b ∈ taken c → P (branch_on m k p) b
      by_kept true q rec i =
          let (o, j, e) = map_from (by_way m.cost m.graph (m.number ∷ [])) (below margin cap k) b i in
          subst (P (branch_on m k p)) (sym e) (d.kept m k p o q (subst (λ (x : Below). (margin ≺ x.cost) ≡ false) e fit) (rec o j))
      by_kept false q rec i = elim i [ ]

under_more : (f f' : ℕ) (route : List ℕ) → f ≤ f' → Under f route → Under f' route
under_more f f' [] i u = tt
under_more f f' (n ∷ route) i u = (let z = u.0 in omega arith, under_more f f' route i u.1)

-- a number that is above them all is not among them
not_among : (f n : ℕ) (route : List ℕ) → f ≤ n → Under f route → memℕ n route ≡ false
not_among f n [] i u = refl
not_among f n (k ∷ route) i u = rw (ne_eqb n k (λ e. let z = u.0 in omega arith)) (not_among f n route i u.1)

-- a number that no branch has makes no difference
along_fresh : (n : ℕ) (route : List ℕ) (p : Path) → Falling n p → along (n ∷ route) p ≡ along route p
unfolding along
along_fresh n route empty_path d = refl
along_fresh n route (arc_onto x p) d = ap (λ (l : List Arc). l ++ (x.arc ∷ [])) (along_fresh n route p (falling_more x.number n p (let z = d.0 in omega arith) d.1))
along_fresh n route (branch_on m k p) d = go (eqb m.number n) (memℕ m.number route) (ne_eqb m.number n (λ e. let z = d.0 in omega arith)) (along_fresh n route k (more k d.1)) (along_fresh n route p (more p d.2))
  where
    more : (q : Path) → Falling m.number q → Falling n q
    more q = falling_more m.number n q (let z = d.0 in omega arith)

    go : (b c : Bool) → b ≡ false → along (n ∷ route) k ≡ along route k → along (n ∷ route) p ≡ along route p
        → ◌≡◌ {A = List Arc} (elim (b || c) as (λ x. List Arc) [ true ↦ along (n ∷ route) k | false ↦ along (n ∷ route) p ]) (elim c as (λ x. List Arc) [ true ↦ along route k | false ↦ along route p ])
    go true c q e f = never (sym q)
    go false true q e f = e
    go false false q e f = f

one_word : (route : List ℕ) (x : Step) (p : Path) → words_back_along route (arc_onto x p) ≡ with_word (word x) (words_back_along route p)
unfolding along
one_word route x p = ap reverse (words_append (along route p) (x.arc ∷ [])) ∙ reverse-append (words_along (along route p)) (with_word (word x) []) ∙ go (nonzero (word x))
  where
    go : (b : Bool) → reverse (cond b (word x ∷ []) []) ++ words_back_along route p ≡ cond b (word x ∷ words_back_along route p) (words_back_along route p)
    go true = refl
    go false = refl

own_along : (m : Merge) (k p : Path) (route : List ℕ) → Under m.number route → along route (branch_on m k p) ≡ along route p
unfolding along
own_along m k p route u = ap (λ (c : Bool). elim c as (λ x. List Arc) [ true ↦ along route k | false ↦ along route p ]) (not_among m.number m.number route (omega arith) u)

kept_along : (m : Merge) (k p : Path) (route : List ℕ) → Falling m.number k → along (m.number ∷ route) (branch_on m k p) ≡ along route k
unfolding along
kept_along m k p route d = ap (λ (c : Bool). elim (c || memℕ m.number route) as (λ x. List Arc) [ true ↦ along (m.number ∷ route) k | false ↦ along (m.number ∷ route) p ]) (eq-eqb m.number m.number refl) ∙ along_fresh m.number route k d

keyed_arc : (f : ℕ) (x : Step) (p : Path) (b : Below) → Keyed f p b → Keyed f (arc_onto x p) (on_top (word x) b)
unfolding on_top hash_words
keyed_arc f x p b d = go (nonzero (word x)) (one_word b.route x p)
  where
    ws : List ℤ
    ws = words_back_along b.route p

    go : (c : Bool) → words_back_along b.route (arc_onto x p) ≡ cond c (word x ∷ ws) ws → Keyed f (arc_onto x p) (cond c (record { hash = hash_word (word x) b.hash; len = suc b.len; cost = b.cost; graph = b.graph; route = b.route }) b)
    go true e = record { hash = ap (hash_word (word x)) d.hash ∙ ap hash_words (sym e); len = ap suc d.len ∙ ap length (sym e); under = d.under }
    go false e = record { hash = d.hash ∙ ap hash_words (sym e); len = d.len ∙ ap length (sym e); under = d.under }

below_downward : (margin : Float) (cap : ℕ) → Downward margin cap (λ p b. (f : ℕ) → Falling f p → Keyed f p b)
unfolding along hash_words by_way
below_downward margin cap =
    record {
      start = λ f d. record { hash = refl; len = refl; under = tt };
      arc = λ x p b r f d. keyed_arc f x p b (under_arc x p b f d.0 (r x.number d.1));
      own = λ m k p b i r f d.
          let z = r m.number d.2 in
          let e = ap (λ (l : List Arc). reverse (words_along l)) (own_along m k p b.route z.under) in
          record { hash = z.hash ∙ ap hash_words (sym e); len = z.len ∙ ap length (sym e); under = under_more m.number f b.route (let y = d.0 in omega arith) z.under };
      kept = λ m k p b j i r f d.
          let z = r m.number d.1 in
          let e = ap (λ (l : List Arc). reverse (words_along l)) (kept_along m k p b.route d.1) in
          record { hash = z.hash ∙ ap hash_words (sym e); len = z.len ∙ ap length (sym e); under = (d.0, under_more m.number f b.route (let y = d.0 in omega arith) z.under) };
    }
  where
    under_arc : (x : Step) (p : Path) (b : Below) (f : ℕ) → x.number < f → Keyed x.number p b → Keyed f p b
    under_arc x p b f i z = record { hash = z.hash; len = z.len; under = under_more x.number f b.route (omega arith) z.under }

-- Where numbers fall down a path, the key of what is listed below it is that of the words along its route.
pub below_keyed : (margin : Float) (cap f : ℕ) (p : Path) → Falling f p → (b : Below) → b ∈ below margin cap p → Keyed f p b
below_keyed margin cap f p d b m = below_each margin cap (λ p b. (f : ℕ) → Falling f p → Keyed f p b) (below_downward margin cap) p b m f d
