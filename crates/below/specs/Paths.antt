-- What is listed below a path is listed below its history. Assumes nothing.
use Rattle.std.specs.Prelude.{◌≡◌, Bool, true, false, ◌&&◌, ℤ, pos, Float}
use Rattle.std.proofs.Math.Path.{refl, sym, ap, ap₂}
use Rattle.std.proofs.Common.{◌∙◌}
use Prim.Native.Nat.{ℕ}
use Rattle.std.proofs.Math.Bool.{not, cond}
use mathlib.Core.List.Memᴰ.{head as here}
use mathlib.Core.List.Memᴰ.{tail as there}
use mathlib.Core.List.{List, [], ◌∷◌, ◌++◌, map}
use Rattle.std.proofs.Math.ListN.{length}
use Rattle.lists.specs.Tests.{case, either, or_neither}
use Rattle.lists.specs.Lists.{◌∈◌, keep_if}
use Rattle.model.specs.Basics.{◌≺◌, ◌≼◌, 0f, nonzero}
use Rattle.model.specs.Path.{Step, Merge, Path, empty_path, arc_onto, branch_on, is_link, word}
use Rattle.model.specs.Readings.{Below, at_start, on_top, by_way, cheapest, below, visited, visited_all}
use Rattle.model.specs.Reads.{Ranked}
use Rattle.records.specs.History.{History, history_of, plain, beside_word, history_link, history_quiet, history_beside}
use Rattle.stores.specs.Shown.{beside_in, timed, none_beside}
use Rattle.joins.specs.Paths.{own_arc, plain_rest}
use Rattle.copy_laws.specs.Shapes.{Differences}
use Rattle.below.specs.Lists.{below_of, visited_of, Dearer}
use Rattle.below.specs.Filling.{visited_below}

-- no word on top changes nothing
none_on_top : (w : ℤ) → nonzero w ≡ false → (bs : List Below) → map (on_top w) bs ≡ bs
unfolding on_top
none_on_top w e [] = refl
none_on_top w e (b ∷ bs) = ap₂ ◌∷◌ (rw e) (none_on_top w e bs)

module _ (margin : Float) (cap : ℕ) where
  abbrev Plain : Path → Type 0
  Plain p = below margin cap p ≡ below_of margin cap (history_of p)

  -- with the word that is held beside the join on top
  abbrev Beside : Path → Type 0
  Beside p = below margin cap p ≡ map (on_top (beside_word p)) (below_of margin cap (history_of p))

  plain_arc : (s : Step) (p : Path) → s.beside ≡ false → Plain p → Plain (arc_onto s p)
  unfolding below below_of
  plain_arc s p b e =
      case (either (is_link s))
      (λ l. ap (map (on_top (word s))) e ∙ ap (below_of margin cap) (sym (history_link s p l b)))
      (λ l. none_on_top (word s) (or_neither (nonzero (word s)) (nonzero s.starts) l).0 (below margin cap p) ∙ e ∙ ap (below_of margin cap) (sym (history_quiet s p l)))

  beside_arc : (s : Step) (p : Path) → Plain p → Beside (arc_onto s p)
  unfolding below beside_word
  beside_arc s p e =
      case (either s.beside)
      (λ b. ap (map (on_top (word s))) e ∙ ap₂ (λ (c : Bool) (x : History). map (on_top (cond c (word s) (pos 0))) (below_of margin cap x)) (sym b) (sym (history_beside s p b)))
      (λ b. plain_arc s p b e ∙ sym (none_on_top (pos 0) refl (below_of margin cap (history_of (arc_onto s p)))) ∙ ap (λ (c : Bool). map (on_top (cond c (word s) (pos 0))) (below_of margin cap (history_of (arc_onto s p)))) (sym b))

  plain_branch : (m : Merge) (k p : Path) → Beside k → Plain p → Plain (branch_on m k p)
  unfolding below below_of history_of
  plain_branch m k p e f =
      ap₂ (λ (own kept : List Below). cheapest cap (keep_if (λ (b : Below). not (margin ≺ b.cost)) (map (by_way 0f 0f []) own ++ cond (m.cost ≼ margin) (map (by_way m.cost m.graph (m.number ∷ [])) kept) []))) f e

  both : (p : Path) → timed p → (plain p ≡ true → Plain p) × ((f : ℕ) → beside_in f p → Beside p)
  unfolding below below_of history_of plain beside_word
  both empty_path t = (λ e. refl, λ f b. sym (none_on_top (pos 0) refl (at_start ∷ [])))
  both (arc_onto s p) t =
      let r = both p t in
      (λ e. plain_arc s p (own_arc s p e) (r.0 (plain_rest s p e)), λ f b. beside_arc s p (r.0 b.1))
  both (branch_on m k p) t =
      let k' = (both k t.1).1 m.frame t.0 in
      let r = (both p t.2).0 in
      (λ e. plain_branch m k p k' (r e), λ f b. plain_branch m k p k' (r b) ∙ sym (none_on_top (pos 0) refl (below_of margin cap (history_of (branch_on m k p)))))

  -- of a token's path
  pub below_history : (p : Path) → plain p ≡ true → timed p → below margin cap p ≡ below_of margin cap (history_of p)
  below_history p e t = (both p t).0 e

  visited_beside : (f : ℕ) (p : Path) → beside_in f p → timed p → visited margin cap p ≡ visited_of margin cap (history_of p)
  unfolding visited visited_of history_of plain
  visited_beside f empty_path b t = refl
  visited_beside f (arc_onto s p) b t =
      let r = visited_beside f p (none_beside f p b.1) t in
      case (either (is_link s && not s.beside)) (λ l. rw l r) (λ l. rw l r)
  visited_beside f (branch_on m k p) b t =
      let i = visited_beside m.frame k t.0 t.1 in
      let j = visited_beside f p (none_beside f p b) t.2 in
      let l = ap length (below_history (branch_on m k p) b t) in
      ap₂ (λ (v : ℕ × ℕ) (vs : List (ℕ × ℕ)). v ∷ vs) (ap (λ (n : ℕ). (m.number, n)) l) (ap₂ (λ (vs us : List (ℕ × ℕ)). vs ++ cond (m.cost ≼ margin) us []) j i)

  -- so are the joins that it visits
  pub visited_history : (p : Path) → plain p ≡ true → timed p → visited margin cap p ≡ visited_of margin cap (history_of p)
  visited_history p e t = visited_beside 0 p (none_beside 0 p e) t

  -- of the paths of several tokens
  pub visited_histories : (ts : List Ranked) → ((t : Ranked) → t ∈ ts → (plain t.token.path ≡ true) × timed t.token.path) → visited_all margin cap ts ≡ visited_below margin cap (map (λ (t : Ranked). history_of t.token.path) ts)
  visited_histories [] d = refl
  visited_histories (t ∷ ts) d = let z = d t (here refl) in ap₂ (λ (vs us : List (ℕ × ℕ)). vs ++ us) (visited_history t.token.path z.0 z.1) (visited_histories ts (λ u m. d u (there m)))

-- what joins kept cost no less than the winners
pub dearer_of : (p : Path) → Differences p → Dearer (history_of p)
unfolding history_of
dearer_of empty_path d = tt
dearer_of (arc_onto s p) d = let r = dearer_of p d in case (either (is_link s && not s.beside)) (λ l. rw l r) (λ l. rw l r)
dearer_of (branch_on m k p) d = (d.0.cost_up, dearer_of k d.1, dearer_of p d.2)
