-- The joins that are visited below a history are those of records: its newest join, and from each the newest join of either way. Assumes nothing.
use Rattle.std.specs.Prelude.{◌≡◌, refl, Bool, true, false, ℤ, Float}
use Rattle.std.proofs.Math.Path.{sym, ap}
use Rattle.std.proofs.Common.{◌∙◌, subst}
use Prim.Native.Nat.{ℕ, zero, suc, ◌-◌, ◌≤◌, ◌<◌}
use native.Mathlib.Omega.{arith}
use Rattle.std.proofs.Math.Bool.{not, cond}
use mathlib.Core.List.Memᴰ
use mathlib.Core.List.Memᴰ.{head as here}
use mathlib.Core.List.Memᴰ.{tail as there}
use mathlib.Core.List.{List, [], ◌∷◌, ◌++◌}
use Rattle.std.proofs.Math.ListN.{length}
use Rattle.lists.specs.Tests.{case, lt_or_le}
use Rattle.lists.specs.Lists.{◌∈◌}
use Rattle.model.specs.Basics.{◌≼◌}
use Rattle.records.specs.History.{History, no_history, link_onto, join_on, tag}
use Rattle.records.specs.Layout.{store, Rec, rec_at, is_link_rec, prev_at, kept_at, cost_at}
use Rattle.records.specs.Stands.{Stands, top_by}
use Rattle.histories.specs.Reading.{join_tag, is_join_at}
use Rattle.histories.specs.Laws.{tag_one}
use Rattle.below.specs.Lists.{below_of, visited_of, to_join}
use Rattle.below.specs.Down.{newest_join, to_join_lem}
use Rattle.below.specs.Steps.{join_is, prev_below, kept_below_lem}

-- a record's number in the model, and the length of its list
abbrev pub listed : (ℕ → History) → (margin : Float) → (cap j : ℕ) → ℕ × ℕ
listed h margin cap j = (tag (h j) - 1, length (below_of margin cap (h j)))

-- one that is visited below a history is a record's, with all that is visited below that
pub record OfRecord (rs : List ℕ) (ls : List ℤ) (n : ℕ) (h : ℕ → History) (margin : Float) (cap : ℕ) (x : History) (Q : ℕ → Type 0) (v : ℕ × ℕ) : Type 0 where
  pub j : ℕ
  pub low : 0 < j
  pub few : j ≤ n
  pub join : is_join_at rs ls (j - 1) ≡ true
  pub is : v ≡ listed h margin cap j
  pub inside : (u : ℕ × ℕ) → u ∈ visited_of margin cap (h j) → u ∈ visited_of margin cap x
  pub holds : Q j

-- a link is no newest join
abbrev is_link : History → Bool
is_link no_history = false
is_link (link_onto n f w s t) = true
is_link (join_on n f b k t) = false

no_link : (x : History) → is_link (to_join x) ≡ false
unfolding to_join
no_link no_history = refl
no_link (link_onto n f w s t) = no_link t
no_link (join_on n f b k t) = refl

link_top : (b : Bool) (r : Rec) (m : ℕ) (t k : History) → is_link (top_by b r m t k) ≡ b
link_top true r m t k = refl
link_top false r m t k = refl

visited_down : (margin : Float) (cap : ℕ) (x : History) → visited_of margin cap x ≡ visited_of margin cap (to_join x)
unfolding visited_of to_join
visited_down margin cap no_history = refl
visited_down margin cap (link_onto n f w s t) = visited_down margin cap t
visited_down margin cap (join_on n f b k t) = refl

module _ {rs : List ℕ} {ls : List ℤ} {gs : List Float} {n : ℕ} {h : ℕ → History} (ok : Stands (store rs ls gs) n h) (margin : Float) (cap : ℕ) where
  number_positive : (j : ℕ) → 0 < j → j ≤ n → 0 < tag (h j)
  number_positive j l u = let z = ok.ascends 0 j l u in omega arith

  -- records with one number are one
  pub same_number : (j k : ℕ) → 0 < j → 0 < k → j ≤ n → k ≤ n → tag (h j) - 1 ≡ tag (h k) - 1 → j ≡ k
  same_number j k a b l u e = let z = number_positive j a l in let y = number_positive k b u in tag_one ok j k l u (omega arith)

  -- a join visits itself, what its own path visits, and within the margin what its kept path does
  pub join_visited : (r : ℕ) → 0 < r → r ≤ n → is_join_at rs ls (r - 1) ≡ true
      → visited_of margin cap (h r) ≡ listed h margin cap r ∷ (visited_of margin cap (h (prev_at rs (r - 1))) ++ cond (cost_at gs (r - 1) ≼ margin) (visited_of margin cap (h (kept_at rs (r - 1)))) [])
  unfolding visited_of
  join_visited r l u j =
      let e = join_is ok r l u j in
      ap (visited_of margin cap) e ∙ ap (λ (m : ℕ). (tag (h r) - 1, m) ∷ (visited_of margin cap (h (prev_at rs (r - 1))) ++ cond (cost_at gs (r - 1) ≼ margin) (visited_of margin cap (h (kept_at rs (r - 1)))) [])) (ap (λ (x : History). length (below_of margin cap x)) (sym e))

  -- any record visits what its newest join does
  pub visited_to : (r e : ℕ) → r ≤ n → e ≤ n → tag (h e) ≡ join_tag (h r) → visited_of margin cap (h r) ≡ visited_of margin cap (h e)
  visited_to r e l u t = visited_down margin cap (h r) ∙ ap (visited_of margin cap) (to_join_lem ok r e l u t)

  -- a record other than 0 with the tag of a newest join is that join
  pub join_of : (r j : ℕ) → r ≤ n → 0 < j → j ≤ n → tag (h j) ≡ join_tag (h r) → is_join_at rs ls (j - 1) ≡ true
  unfolding rec_at
  join_of r j l a u t =
      let k = j - 1 in
      let e : suc k ≡ j = omega arith in
      let i : k < n = omega arith in
      let x = ok.each k i in
      ap not (sym (link_top (is_link_rec (rec_at (store rs ls gs) k)) (rec_at (store rs ls gs) k) x.number (h (prev_at rs k)) (h (kept_at rs k))) ∙ ap is_link (sym x.is ∙ ap h e ∙ sym (to_join_lem ok r j l u t)) ∙ no_link (h r))

  -- ---- every one that is visited

  -- it has what the newest join has, and what each way hands on
  module _ (Q : ℕ → Type 0) (own : (r : ℕ) → 0 < r → r ≤ n → Q r → (j : ℕ) → 0 < j → j ≤ n → tag (h j) ≡ join_tag (h (prev_at rs (r - 1))) → Q j)
      (kept : (r : ℕ) → 0 < r → r ≤ n → Q r → (cost_at gs (r - 1) ≼ margin) ≡ true → (j : ℕ) → 0 < j → j ≤ n → tag (h j) ≡ join_tag (h (kept_at rs (r - 1))) → Q j) where
    abbrev Root : ℕ → Type 0
    Root r = (j : ℕ) → 0 < j → j ≤ n → tag (h j) ≡ join_tag (h r) → Q j

    abbrev Each : ℕ → Type 0
    Each r = Root r → (v : ℕ × ℕ) → v ∈ visited_of margin cap (h r) → OfRecord rs ls n h margin cap (h r) Q v

    none_visited : (r : ℕ) → visited_of margin cap (h r) ≡ visited_of margin cap (h 0) → (v : ℕ × ℕ) → v ∈ visited_of margin cap (h r) → ⊥
    unfolding visited_of
    none_visited r e v m = elim (subst (λ (l : List (ℕ × ℕ)). v ∈ l) (e ∙ ap (visited_of margin cap) ok.none) m) [ ]

    -- the same below a join
    at_join : (e : ℕ) → 0 < e → e ≤ n → is_join_at rs ls (e - 1) ≡ true → Q e → Each (prev_at rs (e - 1)) → Each (kept_at rs (e - 1)) → (v : ℕ × ℕ) → v ∈ visited_of margin cap (h e) → OfRecord rs ls n h margin cap (h e) Q v
    at_join e a u j q p k v m = go (subst (λ (l : List (ℕ × ℕ)). v ∈ l) (join_visited e a u j) m)
      where
        owns : List (ℕ × ℕ)
        owns = visited_of margin cap (h (prev_at rs (e - 1)))

        kepts : Bool → List (ℕ × ℕ)
        kepts c = cond c (visited_of margin cap (h (kept_at rs (e - 1)))) []

        more : (t : History) → OfRecord rs ls n h margin cap t Q v → ((w : ℕ × ℕ) → w ∈ visited_of margin cap t → w ∈ visited_of margin cap (h e)) → OfRecord rs ls n h margin cap (h e) Q v
        more t o f = record { j = o.j; low = o.low; few = o.few; join = o.join; is = o.is; inside = λ w i. f w (o.inside w i); holds = o.holds }

        back : (w : ℕ × ℕ) → w ∈ (listed h margin cap e ∷ (owns ++ kepts (cost_at gs (e - 1) ≼ margin))) → w ∈ visited_of margin cap (h e)
        back w i = subst (λ (l : List (ℕ × ℕ)). w ∈ l) (sym (join_visited e a u j)) i

        by_kept : (c : Bool) → (cost_at gs (e - 1) ≼ margin) ≡ c → v ∈ kepts c → OfRecord rs ls n h margin cap (h e) Q v
        by_kept true t i = more (h (kept_at rs (e - 1))) (k (kept e a u q t) v i) (λ w x. back w (there (Memᴰ.append_right owns (subst (λ (c : Bool). w ∈ kepts c) (sym t) x))))
        by_kept false t i = elim i [ ]

        go : v ∈ (listed h margin cap e ∷ (owns ++ kepts (cost_at gs (e - 1) ≼ margin))) → OfRecord rs ls n h margin cap (h e) Q v
        go (here i) = record { j = e; low = a; few = u; join = j; is = i; inside = λ w x. x; holds = q }
        go (there i) = case (Memᴰ.append_cases owns i) (λ x. more (h (prev_at rs (e - 1))) (p (own e a u q) v x) (λ w y. back w (there (Memᴰ.append_left (kepts (cost_at gs (e - 1) ≼ margin)) y)))) (by_kept (cost_at gs (e - 1) ≼ margin) refl)

    -- by induction on a bound of the record's number
    least_upto : (b r : ℕ) → r ≤ b → r ≤ n → Each r
    least_upto zero r l u q v m = let e : r ≡ 0 = omega arith in absurd (none_visited r (ap (λ (i : ℕ). visited_of margin cap (h i)) e) v m)
    least_upto (suc b) r l u q v m = let (e, i, t, g) = newest_join ok r u in
        case (lt_or_le 0 e)
        (λ a.
        let s = visited_to r e u (omega arith) (sym g) in
        let j = join_of r e u a (omega arith) (sym g) in
        let x = prev_below ok e a (omega arith) in
        let y = kept_below_lem ok e a (omega arith) in
        let o = at_join e a (omega arith) j (q e a (omega arith) (sym g)) (least_upto b (prev_at rs (e - 1)) (omega arith) (omega arith)) (least_upto b (kept_at rs (e - 1)) (omega arith) (omega arith)) v (subst (λ (l : List (ℕ × ℕ)). v ∈ l) s m) in
        record { j = o.j; low = o.low; few = o.few; join = o.join; is = o.is; inside = λ w z. subst (λ (l : List (ℕ × ℕ)). w ∈ l) (sym s) (o.inside w z); holds = o.holds })
        (λ a. let z : e ≡ 0 = omega arith in absurd (none_visited r (visited_to r e u (omega arith) (sym g) ∙ ap (λ (i : ℕ). visited_of margin cap (h i)) z) v m))

    -- so each one that is visited has it
    pub visited_least : (r : ℕ) → r ≤ n → Root r → (v : ℕ × ℕ) → v ∈ visited_of margin cap (h r) → OfRecord rs ls n h margin cap (h r) Q v
    visited_least r l = least_upto r r (omega arith) l

  -- whatever it is
  pub visited_record : (r : ℕ) → r ≤ n → (v : ℕ × ℕ) → v ∈ visited_of margin cap (h r) → OfRecord rs ls n h margin cap (h r) (λ j. Unit {0}) v
  visited_record r l = visited_least (λ j. Unit {0}) (λ r a b c j d e f. tt) (λ r a b c g j d e f. tt) r l (λ j a b c. tt)

  -- the newest join is visited
  pub newest_visited : (r j : ℕ) → r ≤ n → 0 < j → j ≤ n → tag (h j) ≡ join_tag (h r) → listed h margin cap j ∈ visited_of margin cap (h r)
  newest_visited r j l a u t = subst (λ (l : List (ℕ × ℕ)). listed h margin cap j ∈ l) (sym (visited_to r j l u t ∙ join_visited j a u (join_of r j l a u t))) (here refl)
