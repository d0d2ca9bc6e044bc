-- The slide, one record at a time, and what the slid store stands for. Assumes nothing.
use mathlib.Core.Path.{◌≡◌, refl, sym, ◌∙◌, ap, subst}
use mathlib.Core.Logic.{◌⊎◌, inl, inr}
use Prim.Native.Nat.{ℕ, suc, ◌+◌, ◌-◌, ◌*◌, ◌≤◌, ◌<◌}
use native.Mathlib.Omega.{arith}
use native.Mathlib.Numerals.{add-one}
use mathlib.Core.Bool.{cond}
use mathlib.Core.List.{List}
use lib.Dec.{eqb}
use lib.ListN.{length}
use borrow.Author.Tests.{eq-eqb, ne_eqb}
use Rattle.lists.specs.Tests.{case, lt_or_le}
use Rattle.records.specs.Layout.{Store, Rec, rec_at, prev_at, kept_at}
use Rattle.records.specs.Shape.{Shape}
use Rattle.compaction.specs.Marks.{new_of, Marked}
use Rattle.compaction.specs.Slide.{renumbered, Slid, SlidOne}
use Rattle.compaction.proofs.Moves.{mark_on, mark_off, after_move, record_on, record_off}

-- ---- a table of old numbers with one more

with_one : (ℕ → ℕ) → ℕ → ℕ → ℕ → ℕ
with_one f k v j = cond (eqb j k) v (f j)

with_same : (f : ℕ → ℕ) (k v : ℕ) → with_one f k v k ≡ v
unfolding with_one
with_same f k v = rw (eq-eqb k k refl)

with_other : (f : ℕ → ℕ) (k v j : ℕ) → (j ≡ k → ⊥) → with_one f k v j ≡ f j
unfolding with_one
with_other f k v j d = rw (ne_eqb j k d)

upto_suc : (r k : ℕ) → r ≤ suc k → (r ≤ k) ⊎ (r ≡ suc k)
upto_suc r k l = case (lt_or_le k r) (λ a. inr (omega arith)) inl

-- ---- one record

none_marked : (rs : List ℕ) → new_of rs 0 ≡ 0
unfolding new_of
none_marked rs = refl

pub slid_none : (s : Store) → Slid s s 0 0
slid_none s =
    record {
      old = λ j. 0;
      few = omega arith;
      none = refl;
      upto = λ j l. omega arith;
      ascends = λ i j l u. absurd (omega arith);
      forth = λ j l. none_marked s.records ∙ omega arith;
      small = λ r l. let e : r ≡ 0 = omega arith in rw (e, none_marked s.records) (omega arith);
      back = λ r l w. omega arith;
      live = λ j a b. absurd (omega arith);
      moved = λ j l. absurd (omega arith);
      marks_left = λ r l. refl;
      records_left = λ i l. refl;
    }

module _ (s s' : Store) (k n : ℕ) (S : Slid s s' k n) where
  pub slid_skip : new_of s'.records (suc k) ≡ 0 → Slid s s' (suc k) n
  slid_skip h =
      record {
        old = S.old;
        few = omega (arith, S.few);
        none = S.none;
        upto = λ j l. omega (arith, S.upto j l);
        ascends = S.ascends;
        forth = S.forth;
        small = λ r l. case (upto_suc r k l) (S.small r) (λ e. rw (e, h) (omega arith));
        back = λ r l w. case (upto_suc r k l) (λ a. S.back r a w) (λ e. absurd (omega (arith, h, S.marks_left (suc k) (omega arith), subst (Marked s.records) e w)));
        live = S.live;
        moved = S.moved;
        marks_left = λ r l. S.marks_left r (omega arith);
        records_left = λ i l. S.records_left i (omega arith);
      }

  module _ (low : (i : ℕ) → i ≤ k → ((rec_at s i).prev ≤ i) × ((rec_at s i).kept ≤ i)) (hit : Marked s'.records (suc k)) (rr : k * 8 + 8 ≤ length s'.records) (rl : k * 2 + 2 ≤ length s'.labels)
      (rg : k * 2 + 2 ≤ length s'.gaps) where
    abbrev p : ℕ
    p = new_of s'.records (rec_at s' k).prev

    abbrev q : ℕ
    q = new_of s'.records (rec_at s' k).kept

    next : Store
    next = after_move s' k n p q

    old' : ℕ → ℕ
    old' = with_one S.old (suc n) (suc k)

    old_new : old' (suc n) ≡ suc k
    unfolding old'
    old_new = with_same S.old (suc n) (suc k)

    old_old : (j : ℕ) → j ≤ n → old' j ≡ S.old j
    unfolding old'
    old_old j l = with_other S.old (suc n) (suc k) j (λ e. omega arith)

    m_new : new_of next.records (suc k) ≡ suc n
    unfolding next
    m_new = mark_on s'.records k n p q rr

    m_old : (r : ℕ) → (r ≡ suc k → ⊥) → new_of next.records r ≡ new_of s'.records r
    unfolding next
    m_old = mark_off s'.records k n p q

    was : Marked s.records (suc k)
    was = rw (S.marks_left (suc k) (omega arith)) at hit

    -- the numbers of what lies at or below k stand
    number_same : (i : ℕ) → i ≤ k → renumbered next.records (rec_at s i) ≡ renumbered s'.records (rec_at s i)
    number_same i l =
        let b = low i l in
        rw (m_old (rec_at s i).prev (λ e. omega (arith, b.0)), m_old (rec_at s i).kept (λ e. omega (arith, b.1)))

    record_new : rec_at next n ≡ renumbered next.records (rec_at s k)
    unfolding next
    record_new =
        let few = S.few in
        record_on s' k n p q (omega arith) (omega arith) (omega arith) ∙ ap (renumbered s'.records) (S.records_left k (omega arith)) ∙ sym (number_same k (omega arith))

    record_old : (j : ℕ) → (j ≡ n → ⊥) → rec_at next j ≡ rec_at s' j
    unfolding next
    record_old = record_off s' k n p q

    moved' : (j : ℕ) → j < suc n → rec_at next j ≡ renumbered next.records (rec_at s (old' (suc j) - 1))
    moved' j l =
        case (lt_or_le j n)
        (λ a.
        let o = S.upto (suc j) a in
        record_old j (λ e. omega arith) ∙ S.moved j a ∙ sym (number_same (S.old (suc j) - 1) (omega arith)) ∙ ap (λ (x : ℕ). renumbered next.records (rec_at s (x - 1))) (sym (old_old (suc j) a)))
        (λ a.
        let e : j ≡ n = omega arith in
        let b : suc k - 1 ≡ k = omega arith in
        rw (e, old_new, b) record_new)

    pub slid_more : Slid s (after_move s' k n p q) (suc k) (suc n)
    unfolding next
    slid_more =
        record {
          old = old';
          few = omega (arith, S.few);
          none = old_old 0 (omega arith) ∙ S.none;
          upto = λ j l. case (upto_suc j n l) (λ a. rw (old_old j a) (omega (arith, S.upto j a))) (λ e. rw (e, old_new) (omega arith));
          ascends = λ i j a l. case (upto_suc j n l) (λ b. rw (old_old i (omega arith), old_old j b) (S.ascends i j a b))
              (λ e. rw (e, old_new, old_old i (omega arith)) (omega (arith, S.upto i (omega arith))));
          forth = λ j l. case (upto_suc j n l) (λ b. rw (old_old j b, m_old (S.old j) (λ e. omega (arith, S.upto j b))) (S.forth j b)) (λ e. rw (e, old_new, m_new));
          small = λ r l. case (upto_suc r k l) (λ a. rw (m_old r (λ e. omega arith)) (omega (arith, S.small r a))) (λ e. rw (e, m_new) (omega arith));
          back = λ r l w. case (upto_suc r k l) (λ a. rw (m_old r (λ e. omega arith)) (old_old (new_of s'.records r) (S.small r a) ∙ S.back r a w)) (λ e. rw (e, m_new, old_new));
          live = λ j a l. case (upto_suc j n l) (λ b. rw (old_old j b) (S.live j a b)) (λ e. rw (e, old_new) was);
          moved = moved';
          marks_left = λ r l. m_old r (λ e. omega arith) ∙ S.marks_left r (omega arith);
          records_left = λ i l. record_old i (λ e. omega (arith, S.few)) ∙ S.records_left i (omega arith);
        }

-- ---- as the code has it

lows : (s : Store) (used : ℕ) → Shape s used → (i : ℕ) → i < used → ((rec_at s i).prev ≤ i) × ((rec_at s i).kept ≤ i)
unfolding rec_at
lows s used sh i l = (sh.prev_low i l, sh.kept_low i l)

module _ (s : Store) (k n : ℕ) (few : n ≤ k) where
  pub one_stays : new_of s.records (k + 1) ≡ 0 → SlidOne s s k n n
  one_stays h = record { few = omega arith; next = λ s₀ used lt sh S. rw (add-one k) (slid_skip s₀ s k n S (rw (← add-one k) h)) }

  pub one_moves : (p q a b : ℕ) → (new_of s.records (k + 1) ≡ 0 → ⊥) → k * 8 + 8 ≤ length s.records → k * 2 + 2 ≤ length s.labels → k * 2 + 2 ≤ length s.gaps
      → a ≡ prev_at s.records (k + 1 - 1) → b ≡ kept_at s.records (k + 1 - 1) → p ≡ new_of s.records a → q ≡ new_of s.records b → (s' : Store) → s' ≡ after_move s k n p q → SlidOne s s' k n (n + 1)
  unfolding rec_at
  one_moves p q a b hit rr rl rg ea eb ep eq s' is =
      record {
        few = omega arith;
        next = λ s₀ used lt sh S.
            let back : k + 1 - 1 ≡ k = omega arith in
            let w : Marked s.records (suc k) = omega (arith, ap (new_of s.records) (add-one k), hit) in
            let ip : p ≡ new_of s.records (prev_at s.records k) = ep ∙ ap (new_of s.records) (ea ∙ ap (prev_at s.records) back) in
            let iq : q ≡ new_of s.records (kept_at s.records k) = eq ∙ ap (new_of s.records) (eb ∙ ap (kept_at s.records) back) in
            rw (is, ip, iq, add-one k, add-one n) (slid_more s₀ s k n S (λ i l. lows s₀ used sh i (omega arith)) w rr rl rg);
      }

-- the next record is as it was
pub next_low : (s s' : Store) (used k n : ℕ) → Slid s s' k n → Shape s used → k < used → (prev_at s'.records k ≤ k) × (kept_at s'.records k ≤ k)
unfolding rec_at
next_low s s' used k n S sh l =
    let e : rec_at s' k ≡ rec_at s k = S.records_left k (omega arith) in
    (rw (ap (λ (r : Rec). r.prev) e) (sh.prev_low k l), rw (ap (λ (r : Rec). r.kept) e) (sh.kept_low k l))
