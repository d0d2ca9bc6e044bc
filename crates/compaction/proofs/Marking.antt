-- Marking, one mark at a time. Assumes nothing.
use mathlib.Core.Path.{◌≡◌, refl, sym, ◌∙◌, ap, subst}
use mathlib.Core.Logic.{◌⊎◌, inl, inr}
use Prim.Native.Nat.{ℕ, zero, suc, ◌+◌, ◌-◌, ◌*◌, ◌≤◌, ◌<◌}
use native.Mathlib.Omega.{arith}
use native.Mathlib.Numerals.{add-one}
use mathlib.Core.List.{List, []}
use lib.IntN.{pos}
use lib.ListN.{length, get_or, set}
use lib.Seq.{get_or-set_same, get_or-set_other}
use Rattle.lists.specs.Tests.{case, lt_or_le, eq_or_not}
use Rattle.tokens.specs.Layout.{held_at}
use Rattle.records.specs.Layout.{store, Rec, rec_at, prev_at, kept_at, mark_at}
use Rattle.compaction.specs.Marks.{new_of, Marked, Held, Root, Reach, from_root, through_prev, through_kept, SameRecords, Cleared, MarksPut, Named, LiveMarked}

-- ---- one mark

module _ (rs : List ℕ) (k v : ℕ) where
  abbrev marked : List ℕ
  marked = set rs (k * 8 + 7) v

  field_same : (j i : ℕ) → j * 8 ≤ i → i < j * 8 + 7 → get_or marked i 0 ≡ get_or rs i 0
  field_same j i a b = get_or-set_other rs (k * 8 + 7) i v 0 (λ e. omega arith)

  set_same : SameRecords rs marked
  unfolding rec_at
  set_same ls gs j =
      let at : (c : ℕ) → c < 7 → get_or marked (j * 8 + c) 0 ≡ get_or rs (j * 8 + c) 0 = λ c l. field_same j (j * 8 + c) (omega arith) (omega arith) in
      let r = rec_at (store rs ls gs) j in
      λ i. record {
        prev = field_same j (j * 8) (omega arith) (omega arith) i;
        frame = at 1 (omega arith) i;
        kept = at 3 (omega arith) i;
        word = r.word;
        starts = pos (at 2 (omega arith) i);
        beside = record {
          word = r.beside.word;
          starts = pos (at 4 (omega arith) i);
          cost = r.beside.cost;
          graph = r.beside.graph;
          phone = pos (at 5 (omega arith) i);
          winner = pos (at 6 (omega arith) i);
        };
      }

  set_on : k * 8 + 8 ≤ length rs → new_of marked (suc k) ≡ v
  unfolding new_of
  set_on room = get_or-set_same rs (k * 8 + 7) v 0 (omega arith)

  set_off : (r : ℕ) → (r ≡ suc k → ⊥) → new_of marked r ≡ new_of rs r
  unfolding new_of
  set_off zero d = refl
  set_off (suc i) d = get_or-set_other rs (k * 8 + 7) (i * 8 + 7) v 0 (λ e. d (omega arith))

-- ---- the mark of a record, as the code reads it

pub new_none : (rs : List ℕ) (r : ℕ) → r ≡ 0 → 0 ≡ new_of rs r
unfolding new_of
new_none rs r e = ap (new_of rs) (sym e)

pub new_some : (rs : List ℕ) (r : ℕ) → (r ≡ 0 → ⊥) → mark_at rs (r - 1) ≡ new_of rs r
unfolding new_of
new_some rs zero d = absurd (d refl)
new_some rs (suc k) d = ap (mark_at rs) (omega arith)

-- ---- clearing

pub cleared_none : (rs : List ℕ) → Cleared rs rs 0
unfolding new_of
cleared_none rs = record { same = λ ls gs k. refl; none = λ r l. let e : r ≡ 0 = omega arith in ap (new_of rs) e }

pub cleared_more : (rs₀ rs : List ℕ) (k : ℕ) → k * 8 + 8 ≤ length rs → Cleared rs₀ rs k → Cleared rs₀ (set rs (k * 8 + 7) 0) (k + 1)
cleared_more rs₀ rs k room c =
    record {
      same = λ ls gs j. set_same rs k 0 ls gs j ∙ c.same ls gs j;
      none = λ r l. case (eq_or_not r (suc k)) (λ e. ap (new_of (set rs (k * 8 + 7) 0)) e ∙ set_on rs k 0 room) (λ d. set_off rs k 0 r d ∙ c.none r (omega (arith, d)));
    }

-- ---- marks on one record, on no record, on those of two sets

marked_pos : (rs : List ℕ) (r : ℕ) → Marked rs r → 0 < r
unfolding new_of
marked_pos rs zero w = w
marked_pos rs (suc k) w = omega arith

pub mark_none : (rs : List ℕ) (P : ℕ → Type 0) → ((r : ℕ) → 0 < r → P r → ⊥) → MarksPut P rs rs
mark_none rs P f = record { same = λ ls gs k. refl; old = λ r w. w; new = λ r l p. absurd (f r l p); only = λ r w. inl w }

mark_one : (rs : List ℕ) (k : ℕ) → k * 8 + 8 ≤ length rs → MarksPut (λ r. r ≡ suc k) rs (set rs (k * 8 + 7) 1)
mark_one rs k room =
    let on : Marked (set rs (k * 8 + 7) 1) (suc k) = rw (set_on rs k 1 room) (omega arith) in
    record {
      same = set_same rs k 1;
      old = λ r w. case (eq_or_not r (suc k)) (λ e. rw e on) (λ d. rw (set_off rs k 1 r d) w);
      new = λ r l e. rw e on;
      only = λ r w. case (eq_or_not r (suc k)) inr (λ d. inl (rw (set_off rs k 1 r d) at w));
    }

pub mark_some : (rs : List ℕ) (r : ℕ) → (r ≡ 0 → ⊥) → r * 8 ≤ length rs → MarksPut (λ j. j ≡ r) rs (set rs ((r - 1) * 8 + 7) 1)
mark_some rs r d room = let e : suc (r - 1) ≡ r = omega (arith, d) in rw e at (mark_one rs (r - 1) (omega (arith, d)))

module _ (P Q : ℕ → Type 0) where
  pub mark_then : (rs rs' rs'' : List ℕ) → MarksPut P rs rs' → MarksPut Q rs' rs'' → MarksPut (λ r. P r ⊎ Q r) rs rs''
  mark_then rs rs' rs'' a b =
      record {
        same = λ ls gs k. b.same ls gs k ∙ a.same ls gs k;
        old = λ r w. b.old r (a.old r w);
        new = λ r l s. case s (λ p. b.old r (a.new r l p)) (b.new r l);
        only = λ r w. case (b.only r w) (λ v. case (a.only r v) inl (λ p. inr (inl p))) (λ q. inr (inr q));
      }

  -- the same set, said otherwise
  pub mark_like : (rs rs' : List ℕ) → ((r : ℕ) → P r → Q r) → ((r : ℕ) → Q r → P r) → MarksPut P rs rs' → MarksPut Q rs rs'
  mark_like rs rs' f g m = record { same = m.same; old = m.old; new = λ r l q. m.new r l (g r q); only = λ r w. case (m.only r w) inl (λ p. inr (f r p)) }

-- ---- the tokens' records

pub held_none : (tk rs : List ℕ) → MarksPut (Held tk 0) rs rs
held_none tk rs = mark_none rs (Held tk 0) (λ r l h. let b = h.1 in omega arith)

module _ (tk rs₀ rs : List ℕ) (p : ℕ) (m : MarksPut (Held tk p) rs₀ rs) where
  wider : (r : ℕ) → Held tk p r → Held tk (p + 1) r
  wider r h = (h.0, omega (arith, h.1), h.2)

  last_or : (r : ℕ) → Held tk (p + 1) r → Held tk p r ⊎ (held_at tk p ≡ suc r)
  last_or r h = case (eq_or_not h.0 p) (λ e. inr (ap (held_at tk) (sym e) ∙ h.2)) (λ d. inl (h.0, omega (arith, h.1, d), h.2))

  pub held_skip : held_at tk p ≡ 0 → MarksPut (Held tk (p + 1)) rs₀ rs
  held_skip e = mark_like (Held tk p) (Held tk (p + 1)) rs₀ rs wider (λ r h. case (last_or r h) (λ a. a) (λ b. absurd (omega arith))) m

  pub held_more : (r : ℕ) (rs' : List ℕ) → held_at tk p ≡ suc r → MarksPut (λ j. j ≡ r) rs rs' → MarksPut (Held tk (p + 1)) rs₀ rs'
  held_more r rs' e n =
      mark_like (λ j. Held tk p j ⊎ (j ≡ r)) (Held tk (p + 1)) rs₀ rs' (λ j s. case s (wider j) (λ q. (p, omega arith, rw q e)))
      (λ j h. case (last_or j h) inl (λ b. inr (omega arith))) (mark_then (Held tk p) (λ j. j ≡ r) rs₀ rs rs' m n)

-- ---- what the marked ones reach

pub same_prev : (rs rs' : List ℕ) → SameRecords rs rs' → (k : ℕ) → prev_at rs' k ≡ prev_at rs k
unfolding rec_at
same_prev rs rs' same k = ap (λ (r : Rec). r.prev) (same [] [] k)

pub same_kept_lem : (rs rs' : List ℕ) → SameRecords rs rs' → (k : ℕ) → kept_at rs' k ≡ kept_at rs k
unfolding rec_at
same_kept_lem rs rs' same k = ap (λ (r : Rec). r.kept) (same [] [] k)

-- one record hands its mark on
module _ (rs : List ℕ) (r n : ℕ) (is : n ≡ new_of rs r) where
  pub hand_none : n ≡ 0 → MarksPut (Named rs r) rs rs
  hand_none z = mark_none rs (Named rs r) (λ j l s. let w = s.0 in omega arith)

  pub hand_some : (n ≡ 0 → ⊥) → (p q : ℕ) (rs' rs'' : List ℕ) → p ≡ prev_at rs (r - 1) → q ≡ kept_at rs (r - 1) → MarksPut (λ j. j ≡ p) rs rs' → MarksPut (λ j. j ≡ q) rs' rs'' → MarksPut (Named rs r) rs rs''
  hand_some d p q rs' rs'' ep eq a b =
      mark_like (λ j. (j ≡ p) ⊎ (j ≡ q)) (Named rs r) rs rs'' (λ j s. (omega (arith, d), case s (λ e. inl (e ∙ ep)) (λ e. inr (e ∙ eq))))
      (λ j s. case s.1 (λ e. inl (e ∙ sym ep)) (λ e. inr (e ∙ sym eq))) (mark_then (λ j. j ≡ p) (λ j. j ≡ q) rs rs' rs'' a b)

-- The records above k have handed their marks on.
pub record Handed (rs₀ rs : List ℕ) (used k : ℕ) : Type 0 where
  pub same : SameRecords rs₀ rs
  pub old : (r : ℕ) → Marked rs₀ r → Marked rs r
  pub only : (r : ℕ) → Marked rs r → Reach rs₀ used (Marked rs₀) r
  pub on : (i : ℕ) → k ≤ i → i < used → Marked rs (suc i) → (r : ℕ) → 0 < r → (r ≡ prev_at rs₀ i) ⊎ (r ≡ kept_at rs₀ i) → Marked rs r

pub handed_none : (rs : List ℕ) (used : ℕ) → Handed rs rs used used
handed_none rs used = record { same = λ ls gs k. refl; old = λ r w. w; only = λ r w. from_root w; on = λ i a b w r l s. absurd (omega arith) }

module _ (rs₀ rs rs' : List ℕ) (used k : ℕ) (h : Handed rs₀ rs used (k + 1)) (lt : k < used) (pl : prev_at rs₀ k ≤ k) (kl : kept_at rs₀ k ≤ k) (m : MarksPut (Named rs (k + 1)) rs rs') where
  -- what record k + 1 names, by the records as they were
  named : (r : ℕ) → Named rs (k + 1) r → Marked rs (suc k) × ((r ≡ prev_at rs₀ k) ⊎ (r ≡ kept_at rs₀ k))
  named r n =
      let e : k + 1 - 1 ≡ k = omega arith in
      (subst (Marked rs) (add-one k) n.0, case n.1 (λ q. inl (q ∙ ap (prev_at rs) e ∙ same_prev rs₀ rs h.same k)) (λ q. inr (q ∙ ap (kept_at rs) e ∙ same_kept_lem rs₀ rs h.same k)))

  naming : (r : ℕ) → Marked rs (suc k) → (r ≡ prev_at rs₀ k) ⊎ (r ≡ kept_at rs₀ k) → Named rs (k + 1) r
  naming r w s =
      let e : k ≡ k + 1 - 1 = omega arith in
      (subst (Marked rs) (sym (add-one k)) w, case s (λ q. inl (q ∙ sym (same_prev rs₀ rs h.same k) ∙ ap (prev_at rs) e)) (λ q. inr (q ∙ sym (same_kept_lem rs₀ rs h.same k) ∙ ap (kept_at rs) e)))

  -- none above k gets a mark
  above : (r : ℕ) → k < r → Marked rs' r → Marked rs r
  above r l w = case (m.only r w) (λ v. v) (λ n. case (named r n).1 (λ q. absurd (omega arith)) (λ q. absurd (omega arith)))

  reached : (r : ℕ) → Marked rs' r → Reach rs₀ used (Marked rs₀) r
  reached r w =
      case (m.only r w) (h.only r)
      (λ n.
      let t = h.only (suc k) (named r n).0 in
      case (named r n).1 (λ q. rw q (through_prev k lt t)) (λ q. rw q (through_kept k lt t)))

  handed_more : Handed rs₀ rs' used k
  handed_more =
      record {
        same = λ ls gs j. m.same ls gs j ∙ h.same ls gs j;
        old = λ r w. m.old r (h.old r w);
        only = reached;
        on = λ i a b w r l s.
            let v = above (suc i) (omega arith) w in
            case (lt_or_le k i) (λ c. m.old r (h.on i (omega arith) b v r l s)) (λ c. let e : i ≡ k = omega arith in m.new r l (naming r (subst (λ (j : ℕ). Marked rs (suc j)) e v) (subst (λ (j : ℕ). (r ≡ prev_at rs₀ j) ⊎ (r ≡ kept_at rs₀ j)) e s)));
      }

pub handed_next : (rs₀ rs rs' : List ℕ) (used k : ℕ) → 0 < k → k ≤ used → prev_at rs₀ (k - 1) ≤ k - 1 → kept_at rs₀ (k - 1) ≤ k - 1 → Handed rs₀ rs used k → MarksPut (Named rs k) rs rs' → Handed rs₀ rs' used (k - 1)
handed_next rs₀ rs rs' used k a l pl kl h m = let e : k - 1 + 1 ≡ k = omega arith in handed_more rs₀ rs rs' used (k - 1) (rw e h) (omega arith) pl kl (rw e m)

module _ (rs rs' : List ℕ) (used : ℕ) (h : Handed rs rs' used 0) where
  all_reached : (r : ℕ) → 0 < r → Reach rs used (Marked rs) r → Marked rs' r
  all_reached r l (from_root w) = h.old r w
  all_reached r l (through_prev k lt t) = h.on k (omega arith) lt (all_reached (suc k) (omega arith) t) (prev_at rs k) l (inl refl)
  all_reached r l (through_kept k lt t) = h.on k (omega arith) lt (all_reached (suc k) (omega arith) t) (kept_at rs k) l (inr refl)

  pub handed_all : MarksPut (Reach rs used (Marked rs)) rs rs'
  handed_all = record { same = h.same; old = h.old; new = all_reached; only = λ r w. inr (h.only r w) }

-- ---- all of it

module _ (rs rs' : List ℕ) (used : ℕ) (R S : ℕ → Type 0) (same : SameRecords rs rs') (f : (r : ℕ) → 0 < r → r ≤ used → R r → S r) where
  reach_map : (r : ℕ) → 0 < r → r ≤ used → Reach rs used R r → Reach rs' used S r
  reach_map r a l (from_root w) = from_root (f r a l w)
  reach_map r a l (through_prev k lt t) = subst (Reach rs' used S) (same_prev rs rs' same k) (through_prev k lt (reach_map (suc k) (omega arith) lt t))
  reach_map r a l (through_kept k lt t) = subst (Reach rs' used S) (same_kept_lem rs rs' same k) (through_kept k lt (reach_map (suc k) (omega arith) lt t))

module _ (rs rs₁ rs₂ rs₃ rs₄ tk : List ℕ) (places used x : ℕ) (c : Cleared rs rs₁ used) (m : MarksPut (Held tk places) rs₁ rs₂) (n : MarksPut (λ r. r ≡ x) rs₂ rs₃) (s : MarksPut (Reach rs₃ used (Marked rs₃)) rs₃ rs₄) where
  put : MarksPut (Root tk places x) rs₁ rs₃
  put = mark_then (Held tk places) (λ r. r ≡ x) rs₁ rs₂ rs₃ m n

  same₃ : SameRecords rs rs₃
  same₃ ls gs k = put.same ls gs k ∙ c.same ls gs k

  is_root : (r : ℕ) → 0 < r → r ≤ used → Marked rs₃ r → Root tk places x r
  is_root r a l w = case (put.only r w) (λ v. absurd (omega (arith, c.none r l))) (λ t. t)

  pub live_marked : LiveMarked (Root tk places x) rs rs₄ used
  live_marked =
      record {
        same = λ ls gs k. s.same ls gs k ∙ same₃ ls gs k;
        only = λ r l w.
            reach_map rs₃ rs used (Marked rs₃) (Root tk places x) (λ ls gs k. sym (same₃ ls gs k)) is_root r (marked_pos rs₄ r w) l
            (case (s.only r w) (λ v. from_root v) (λ t. t));
        all = λ r a l t. s.new r a (reach_map rs rs₃ used (Root tk places x) (Marked rs₃) same₃ (λ j b d u. put.new j b u) r a l t);
      }
