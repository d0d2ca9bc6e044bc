-- The joins that are visited below some records, and how many entries their lists have. Assumes nothing.
use Rattle.std.specs.Prelude.{◌≡◌, refl, ℕ, ◌-◌, ◌≤◌, ◌<◌, Bool, true, cond, List, [], ◌∷◌, map, ℤ, eqb, length, Float}
use Rattle.std.proofs.Common.{sym, ap, ◌∙◌, subst, arith, eqb-true, eq-eqb}
use mathlib.Core.List.Memᴰ
use mathlib.Core.List.Memᴰ.{head as here}
use mathlib.Core.List.Memᴰ.{tail as there}
use Rattle.std.proofs.lemmas.Simd.{map-map}
use Rattle.lists.specs.Tests.{case, never}
use Rattle.lists.specs.Lists.{◌∈◌, firsts, sum}
use Rattle.lists.specs.Members.{firsts_from, map_from, map_to}
use Rattle.lists.specs.Firsts.{Apart, Like, firsts_are}
use Rattle.lists.specs.Count.{Nodup}
use Rattle.model.specs.Basics.{◌≼◌}
use Rattle.records.specs.History.{History, tag}
use Rattle.records.specs.Layout.{store, prev_at, kept_at, cost_at}
use Rattle.records.specs.Stands.{Stands}
use Rattle.histories.specs.Reading.{join_tag, is_join_at}
use Rattle.below.specs.Lists.{below_of, visited_of}
use Rattle.below.specs.Filling.{visited_below, entries_below}
use Rattle.below.specs.Sums.{sum_same}
use Rattle.below.specs.Visited.{listed, OfRecord, same_number, join_visited, visited_least, visited_record, newest_visited}
use Rattle.below.specs.Steps.{prev_below, kept_below_lem}

-- record j is visited below one of these
abbrev pub IsVisited : (margin : Float) → (cap : ℕ) → (ℕ → History) → (links : List ℕ) → (j : ℕ) → Type 0
IsVisited margin cap h links j = (tag (h j) - 1) ∈ map (λ (v : ℕ × ℕ). v.0) (visited_below margin cap (map h links))

module _ (margin : Float) (cap : ℕ) (h : ℕ → History) where
  -- one that is visited is visited below some record of the list
  pub visited_from : (links : List ℕ) (v : ℕ × ℕ) → v ∈ visited_below margin cap (map h links) → (l : ℕ) × (l ∈ links) × (v ∈ visited_of margin cap (h l))
  visited_from [] v m = elim m [ ]
  visited_from (l ∷ links) v m = case (Memᴰ.append_cases (visited_of margin cap (h l)) m) (λ i. (l, here refl, i)) (λ i. let (k, x, y) = visited_from links v i in (k, there x, y))

  -- and conversely
  pub visited_into : (links : List ℕ) (l : ℕ) (v : ℕ × ℕ) → l ∈ links → v ∈ visited_of margin cap (h l) → v ∈ visited_below margin cap (map h links)
  visited_into (k ∷ links) l v (here e) m = Memᴰ.append_left (visited_below margin cap (map h links)) (subst (λ (i : ℕ). v ∈ visited_of margin cap (h i)) e m)
  visited_into [] l v x'' m = elim x'' [ ]
  visited_into (k ∷ links) l v (there i) m = Memᴰ.append_right (visited_of margin cap (h k)) (visited_into links l v i m)

apart_once : (vs : List (ℕ × ℕ)) → Apart (λ (a b : ℕ × ℕ). eqb a.0 b.0) vs → Nodup vs
apart_once [] d = tt
apart_once (v ∷ vs) d = (λ m. never (sym (d.0 v m) ∙ eq-eqb v.0 v.0 refl), apart_once vs d.1)

module _ {rs : List ℕ} {ls : List ℤ} {gs : List Float} {n : ℕ} {h : ℕ → History} (ok : Stands (store rs ls gs) n h) (margin : Float) (cap : ℕ) (links : List ℕ) (low : (l : ℕ) → l ∈ links → l ≤ n) where
  -- with one that is visited, all that is visited below it
  visited_all_lem : (r : ℕ) → 0 < r → r ≤ n → IsVisited margin cap h links r → (is_join_at rs ls (r - 1) ≡ true) × ((u : ℕ × ℕ) → u ∈ visited_of margin cap (h r) → u ∈ visited_below margin cap (map h links))
  visited_all_lem r a u m =
      let (v, i, e) = map_from (λ (v : ℕ × ℕ). v.0) (visited_below margin cap (map h links)) (tag (h r) - 1) m in
      let (l, x, y) = visited_from margin cap h links v i in
      let o = visited_record ok margin cap l (low l x) v y in
      let q : r ≡ o.j = same_number ok margin cap r o.j a o.low u o.few (e ∙ ap (λ (v : ℕ × ℕ). v.0) o.is) in
      (subst (λ (k : ℕ). is_join_at rs ls (k - 1) ≡ true) (sym q) o.join, λ w z. visited_into margin cap h links l w x (o.inside w (subst (λ (k : ℕ). w ∈ visited_of margin cap (h k)) q z)))

  -- ---- which are visited: the newest joins, the joins that their ways lead to, and no other

  -- the newest join
  pub visited_root : (l j : ℕ) → l ∈ links → 0 < j → j ≤ n → tag (h j) ≡ join_tag (h l) → IsVisited margin cap h links j
  visited_root l j m a u t = map_to (λ (v : ℕ × ℕ). v.0) (visited_below margin cap (map h links)) (listed h margin cap j) (visited_into margin cap h links l (listed h margin cap j) m (newest_visited ok margin cap l j (low l m) a u t))

  -- where a join's own way leads
  pub visited_own : (r : ℕ) → 0 < r → r ≤ n → IsVisited margin cap h links r → (j : ℕ) → 0 < j → j ≤ n → tag (h j) ≡ join_tag (h (prev_at rs (r - 1))) → IsVisited margin cap h links j
  visited_own r a u m j b w t =
      let x = prev_below ok r a u in
      let (i, f) = visited_all_lem r a u m in
      map_to (λ (v : ℕ × ℕ). v.0) (visited_below margin cap (map h links)) (listed h margin cap j)
      (f (listed h margin cap j) (subst (λ (l : List (ℕ × ℕ)). listed h margin cap j ∈ l) (sym (join_visited ok margin cap r a u i)) (there (Memᴰ.append_left _ (newest_visited ok margin cap (prev_at rs (r - 1)) j (omega arith) b w t)))))

  -- where its kept way leads, within the margin
  pub visited_kept : (r : ℕ) → 0 < r → r ≤ n → IsVisited margin cap h links r → (cost_at gs (r - 1) ≼ margin) ≡ true → (j : ℕ) → 0 < j → j ≤ n → tag (h j) ≡ join_tag (h (kept_at rs (r - 1))) → IsVisited margin cap h links j
  visited_kept r a u m c j b w t =
      let x = kept_below_lem ok r a u in
      let (i, f) = visited_all_lem r a u m in
      let k = newest_visited ok margin cap (kept_at rs (r - 1)) j (omega arith) b w t in
      map_to (λ (v : ℕ × ℕ). v.0) (visited_below margin cap (map h links)) (listed h margin cap j)
      (f (listed h margin cap j) (subst (λ (l : List (ℕ × ℕ)). listed h margin cap j ∈ l) (sym (join_visited ok margin cap r a u i))
      (there (Memᴰ.append_right (visited_of margin cap (h (prev_at rs (r - 1)))) (subst (λ (d : Bool). listed h margin cap j ∈ cond d (visited_of margin cap (h (kept_at rs (r - 1)))) []) (sym c) k)))))

  -- what all of these have and hand on, every visited one has
  pub visited_only : (Q : ℕ → Type 0) → ((l j : ℕ) → l ∈ links → 0 < j → j ≤ n → tag (h j) ≡ join_tag (h l) → Q j)
      → ((r : ℕ) → 0 < r → r ≤ n → Q r → (j : ℕ) → 0 < j → j ≤ n → tag (h j) ≡ join_tag (h (prev_at rs (r - 1))) → Q j)
      → ((r : ℕ) → 0 < r → r ≤ n → Q r → (cost_at gs (r - 1) ≼ margin) ≡ true → (j : ℕ) → 0 < j → j ≤ n → tag (h j) ≡ join_tag (h (kept_at rs (r - 1))) → Q j)
      → (j : ℕ) → 0 < j → j ≤ n → IsVisited margin cap h links j → Q j
  visited_only Q root own kept j a u m =
      let (v, i, e) = map_from (λ (v : ℕ × ℕ). v.0) (visited_below margin cap (map h links)) (tag (h j) - 1) m in
      let (l, x, y) = visited_from margin cap h links v i in
      moved v e (h l) (visited_least ok margin cap Q own kept l (low l x) (λ k b c t. root l k x b c t) v y)
    where
      moved : (v : ℕ × ℕ) → tag (h j) - 1 ≡ v.0 → (x : History) → OfRecord rs ls n h margin cap x Q v → Q j
      moved v e x o = subst Q (sym (same_number ok margin cap j o.j a o.low u o.few (e ∙ ap (λ (v : ℕ × ℕ). v.0) o.is))) o.holds

  -- those are joins
  pub visited_join : (j : ℕ) → 0 < j → j ≤ n → IsVisited margin cap h links j → is_join_at rs ls (j - 1) ≡ true
  visited_join j a u m = (visited_all_lem j a u m).0

  -- ---- how many entries

  -- W are the records that are visited, each once
  pub entries_are : (W : List ℕ) → Nodup W → ((j : ℕ) → j ∈ W → (0 < j) × (j ≤ n) × IsVisited margin cap h links j) → ((j : ℕ) → 0 < j → j ≤ n → IsVisited margin cap h links j → j ∈ W)
      → sum (map (λ (j : ℕ). length (below_of margin cap (h j))) W) ≡ entries_below margin cap (map h links)
  entries_are W once is all =
      ap sum (sym (map-map (λ (v : ℕ × ℕ). v.1) (listed h margin cap) W)) ∙ sum_same (λ (v : ℕ × ℕ). v.1) (map (listed h margin cap) W) F (listed_once W once (λ j m. ((is j m).0, (is j m).1))) (apart_once F (firsts_are like [] vs).apart) to from
    where
      vs : List (ℕ × ℕ)
      vs = visited_below margin cap (map h links)

      like : ℕ × ℕ → ℕ × ℕ → Bool
      like a b = eqb a.0 b.0

      F : List (ℕ × ℕ)
      F = firsts like [] vs

      -- one of the firsts is a record's
      record_of : (v : ℕ × ℕ) → v ∈ F → (j : ℕ) × (0 < j) × (j ≤ n) × (v ≡ listed h margin cap j)
      record_of v m =
          let (l, x, y) = visited_from margin cap h links v (firsts_from like [] vs v m) in
          let o = visited_record ok margin cap l (low l x) v y in
          (o.j, o.low, o.few, o.is)

      listed_once : (js : List ℕ) → Nodup js → ((j : ℕ) → j ∈ js → (0 < j) × (j ≤ n)) → Nodup (map (listed h margin cap) js)
      listed_once [] d p = tt
      listed_once (j ∷ js) d p = (
        λ m.
            let (k, i, e) = map_from (listed h margin cap) js (listed h margin cap j) m in
            let q : j ≡ k = same_number ok margin cap j k (p j (here refl)).0 (p k (there i)).0 (p j (here refl)).1 (p k (there i)).1 (ap (λ (v : ℕ × ℕ). v.0) e) in
            d.0 (subst (λ (x : ℕ). x ∈ js) (sym q) i),
        listed_once js d.1 (λ k m. p k (there m)),
      )

      -- the first that is like a visited one is the same record's
      found : (j : ℕ) (v : ℕ × ℕ) → 0 < j → j ≤ n → tag (h j) - 1 ≡ v.0 → Like like v F → listed h margin cap j ∈ F
      found j v a u e l =
          let (k, b, w, q) = record_of l.one l.in_list in
          let t : v.0 ≡ l.one.0 = case l.like (λ x. ap (λ (v : ℕ × ℕ). v.0) x) (λ x. eqb-true v.0 l.one.0 x) in
          let s : j ≡ k = same_number ok margin cap j k a b u w (e ∙ t ∙ ap (λ (v : ℕ × ℕ). v.0) q) in
          subst (λ (x : ℕ × ℕ). x ∈ F) (q ∙ ap (listed h margin cap) (sym s)) l.in_list

      to : (z : ℕ × ℕ) → z ∈ map (listed h margin cap) W → z ∈ F
      to z m =
          let (j, i, e) = map_from (listed h margin cap) W z m in
          let (v, k, q) = map_from (λ (v : ℕ × ℕ). v.0) vs (tag (h j) - 1) (is j i).2 in
          subst (λ (x : ℕ × ℕ). x ∈ F) (sym e) (case ((firsts_are like [] vs).each v k) (λ l. elim l.in_list [ ]) (λ l. found j v (is j i).0 (is j i).1 q l))

      from : (z : ℕ × ℕ) → z ∈ F → z ∈ map (listed h margin cap) W
      from z m =
          let (j, a, u, e) = record_of z m in
          let i = firsts_from like [] vs z m in
          let k = map_to (λ (v : ℕ × ℕ). v.0) vs z i in
          subst (λ (x : ℕ × ℕ). x ∈ map (listed h margin cap) W) (sym e) (map_to (listed h margin cap) W j (all j a u (subst (λ (x : ℕ). x ∈ map (λ (v : ℕ × ℕ). v.0) vs) (ap (λ (v : ℕ × ℕ). v.0) e) k)))
