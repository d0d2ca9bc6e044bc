-- One induction for every law of what is listed below a history. Assumes nothing.
use Rattle.std.specs.Prelude.{◌≡◌, ℕ, Bool, true, false, not, cond, ℤ, Float}
use Rattle.std.proofs.Math.Path.{refl, subst}
use Rattle.std.proofs.Common.{sym}
use mathlib.Core.List.Memᴰ
use mathlib.Core.List.Memᴰ.{head as here}
use mathlib.Core.List.Memᴰ.{tail as there}
use mathlib.Core.List.{List, [], ◌∷◌, ◌++◌, map}
use Rattle.std.proofs.lemmas.Bool.{not-true}
use Rattle.lists.specs.Tests.{case}
use Rattle.lists.specs.Lists.{◌∈◌, keep_if}
use Rattle.lists.specs.Members.{take_from, keep_from, keep_passes, sort_from, firsts_from, map_from}
use Rattle.model.specs.Basics.{◌≺◌, ◌≼◌, 0f}
use Rattle.model.specs.Readings.{Below, at_start, on_top, by_way, same_key, cheapest}
use Rattle.records.specs.History.{Beside, History, no_history, link_onto, join_on}
use Rattle.below.specs.Lists.{below_of}

module _ (margin : Float) (cap : ℕ) (P : History → Below → Type 0) where
  pub record Downward : Type 0 where
    pub start : P no_history at_start
    pub link : (n f : ℕ) (w s : ℤ) (t : History) (b : Below) → P t b → P (link_onto n f w s t) (on_top w b)
    pub own : (n f : ℕ) (x : Beside) (k t : History) (b : Below) → (margin ≺ (by_way 0f 0f [] b).cost) ≡ false → P t b → P (join_on n f x k t) (by_way 0f 0f [] b)
    pub kept : (n f : ℕ) (x : Beside) (k t : History) (b : Below) → (x.cost ≼ margin) ≡ true → (margin ≺ (by_way x.cost x.graph (n ∷ []) (on_top x.word b)).cost) ≡ false → P k b
        → P (join_on n f x k t) (by_way x.cost x.graph (n ∷ []) (on_top x.word b))

  -- what holds at the start and is handed on down every way holds of all that is listed
  pub below_each : Downward → (x : History) (b : Below) → b ∈ below_of margin cap x → P x b
  unfolding below_of cheapest
  below_each d no_history b (here e) = subst (P no_history) (sym e) d.start
  below_each d no_history b (there m) = elim m [ ]
  below_each d (link_onto n f w s t) b m = let (o, i, e) = map_from (on_top w) (below_of margin cap t) b m in subst (P (link_onto n f w s t)) (sym e) (d.link n f w s t o (below_each d t o i))
  below_each d (join_on n f x k t) b m = case (Memᴰ.append_cases owns (keep_from fits (owns ++ kepts) b in_kept)) (λ i. by_own (below_each d t) i) (λ i. by_kept (x.cost ≼ margin) refl (below_each d k) i)
    where
      owns : List Below
      owns = map (by_way 0f 0f []) (below_of margin cap t)

      way : Below → Below
      way = by_way x.cost x.graph (n ∷ [])

      taken : Bool → List Below
      taken c = cond c (map way (map (on_top x.word) (below_of margin cap k))) []

      kepts : List Below
      kepts = taken (x.cost ≼ margin)

      fits : Below → Bool
      fits x = not (margin ≺ x.cost)

      in_kept : b ∈ keep_if fits (owns ++ kepts)
      in_kept = sort_from (λ (a b : Below). a.cost ≺ b.cost) (keep_if fits (owns ++ kepts)) b (firsts_from same_key [] _ b (take_from cap _ b m))

      fit : (margin ≺ b.cost) ≡ false
      fit = not-true (margin ≺ b.cost) (keep_passes fits (owns ++ kepts) b in_kept)

      by_own : ((o : Below) → o ∈ below_of margin cap t → P t o) → b ∈ owns → P (join_on n f x k t) b
      by_own rec i = let (o, j, e) = map_from (by_way 0f 0f []) (below_of margin cap t) b i in subst (P (join_on n f x k t)) (sym e) (d.own n f x k t o (subst (λ (y : Below). (margin ≺ y.cost) ≡ false) e fit) (rec o j))

      by_kept : (c : Bool) → (x.cost ≼ margin) ≡ c → ((o : Below) → o ∈ below_of margin cap k → P k o) → b ∈ taken c → P (join_on n f x k t) b
      by_kept true q rec i =
          let (o, j, e) = map_from way (map (on_top x.word) (below_of margin cap k)) b i in
          let (v, u, g) = map_from (on_top x.word) (below_of margin cap k) o j in
          subst (P (join_on n f x k t)) (sym e) (subst (λ (y : Below). P (join_on n f x k t) (way y)) (sym g) (d.kept n f x k t v q (subst (λ (y : Below). (margin ≺ (way y).cost) ≡ false) g (subst (λ (y : Below). (margin ≺ y.cost) ≡ false) e fit)) (rec v u)))
      by_kept false q rec i = elim i [ ]
