-- A table of how many words the records' histories have down to the start: record number k + 1 stands at k, and 0 is no record. Assumes nothing.
use Rattle.std.specs.Prelude.{◌≡◌, Bool, true, false, ◌&&◌, cond, ℤ, length, get_or, set}
use Rattle.std.proofs.Math.Path.{refl, ap}
use Rattle.std.proofs.Common.{sym, ◌∙◌, subst, arith, length-set}
use Prim.Native.Nat.{ℕ, zero, suc, ◌+◌, ◌-◌, ◌≤◌, ◌<◌}
use mathlib.Core.List.{List, [], ◌∷◌}
use Rattle.std.proofs.Math.Seq.{get_or-set_same, get_or-set_other}
use Rattle.lists.specs.Tests.{case, lt_or_le}
use Rattle.model.specs.Basics.{nonzero}
use Rattle.model.specs.Path.{with_word}
use Rattle.records.specs.Layout.{prev_at, word_at}
use Rattle.histories.specs.Reading.{is_join_at}
use Rattle.traceback.specs.declared.Step.{Step}
use Rattle.traceback.specs.Chain.{own_step, Walkable}
use Rattle.traceback.specs.Walk.{step_own}
use Rattle.routes.specs.Back.{back_along}
use Rattle.routes.specs.Words.{back_next, back_none}

unfoldable pub count_at : List ℕ → (r : ℕ) → ℕ
count_at hs zero = 0
count_at hs (suc k) = get_or hs k 0

-- of record r's history; no route is taken
pub record CountOf (rs : List ℕ) (ls : List ℤ) (r n : ℕ) : Type 0 where
  pub low : n ≤ r
  pub is : n ≡ length (back_along rs ls [] r)

-- of the first k of n records
pub record Counts (rs : List ℕ) (ls : List ℤ) (n k : ℕ) (hs : List ℕ) : Type 0 where
  pub room : n ≤ length hs
  pub each : (r : ℕ) → r ≤ k → CountOf rs ls r (count_at hs r)

-- ---- as the code reads it

pub count_0 : (hs : List ℕ) (r : ℕ) → r ≡ 0 → 0 ≡ count_at hs r
unfolding count_at
count_0 hs r e = ap (count_at hs) (sym e)

pub count_some : (hs : List ℕ) (r : ℕ) → (r ≡ 0 → ⊥) → get_or hs (r - 1) 0 ≡ count_at hs r
unfolding count_at
count_some hs zero d = absurd (d refl)
count_some hs (suc k) d = ap (λ (j : ℕ). get_or hs j 0) (omega arith)

-- ---- one record more

pub counts_none : {rs : List ℕ} {ls : List ℤ} {n : ℕ} {hs : List ℕ} → n ≤ length hs → Counts rs ls n 0 hs
unfolding count_at
counts_none {rs} {ls} {hs = hs} l =
    let none : CountOf rs ls 0 0 = record { low = omega arith; is = ap length (sym (back_none rs ls [])) } in
    record { room = l; each = λ r a. let e : r ≡ 0 = omega arith in rw e none }

word_more : (z : ℤ) (ws : List ℤ) → length (with_word z ws) ≡ length ws + cond (nonzero z) 1 0
word_more z ws = go (nonzero z)
  where
    go : (b : Bool) → length (cond b (z ∷ ws) ws) ≡ length ws + cond b 1 0
    go true = omega arith
    go false = omega arith

one_most : (b : Bool) → cond b 1 0 ≤ 1
one_most true = omega arith
one_most false = omega arith

no_route : (b : Bool) → (b && false) ≡ false
no_route true = refl
no_route false = refl

module _ (hs : List ℕ) (k m : ℕ) where
  count_old : (r : ℕ) → r ≤ k → count_at (set hs k m) r ≡ count_at hs r
  unfolding count_at
  count_old zero l = refl
  count_old (suc i) l = get_or-set_other hs k i m 0 (λ e. omega arith)

  count_new : k < length hs → count_at (set hs k m) (suc k) ≡ m
  unfolding count_at
  count_new l = get_or-set_same hs k m 0 l

module _ {rs : List ℕ} {ls : List ℤ} {n k : ℕ} (w : Walkable rs ls n) (l : k < n) where
  -- its own word stands on those of the record before it
  back_own : back_along rs ls [] (suc k) ≡ with_word (word_at ls k) (back_along rs ls [] (prev_at rs k))
  unfolding own_step
  back_own = back_next [] w k l ∙ ap (λ (s : Step). with_word s.word (back_along rs ls [] s.next)) (sym (step_own rs ls [] k 0 (no_route (is_join_at rs ls k))))

  count_more : {m : ℕ} → CountOf rs ls (prev_at rs k) m → CountOf rs ls (suc k) (m + cond (nonzero (word_at ls k)) 1 0)
  count_more {m} c =
      let a = one_most (nonzero (word_at ls k)) in
      let b = ap length back_own ∙ word_more (word_at ls k) (back_along rs ls [] (prev_at rs k)) in
      record { low = omega (arith, c.low, w.prev_low k l); is = omega (arith, c.is) }

  module _ {hs : List ℕ} (i : Counts rs ls n k hs) where
    -- the record before it is in the table
    pub prev_counted : {j p : ℕ} → j ≡ k → p ≡ prev_at rs j → (p ≤ k) × (p ≤ length hs) × (count_at hs p ≤ p)
    prev_counted {j} {p} e u =
        let a : p ≤ k = let z : p ≡ prev_at rs k = u ∙ ap (prev_at rs) e in omega (arith, w.prev_low k l) in
        (a, omega (arith, i.room), (i.each p a).low)

    pub counts_more : {j p o m : ℕ} {z : ℤ} → j ≡ k → p ≡ prev_at rs j → z ≡ word_at ls j → o ≡ count_at hs p → m ≡ o + cond (nonzero z) 1 0 → Counts rs ls n (k + 1) (set hs k m)
    counts_more {j} {p} {o} {m} {z} e u v d q =
        record {
          room = rw (length-set hs k m) i.room;
          each = λ r a. case (lt_or_le k r) (λ b. subst (λ (x : ℕ). CountOf rs ls x (count_at (set hs k m) x)) (omega arith) own) (λ b. rw (count_old hs k m r b) (i.each r b));
        }
      where
        own : CountOf rs ls (suc k) (count_at (set hs k m) (suc k))
        own = rw (count_new hs k m (omega (arith, i.room)), q, d, u, v, e) (count_more (i.each (prev_at rs k) (w.prev_low k l)))

-- ---- read where it is full

module _ {rs : List ℕ} {ls : List ℤ} {n : ℕ} {hs : List ℕ} (i : Counts rs ls n n hs) {r : ℕ} (l : r ≤ n) where
  pub count_room : (r ≤ length hs) × (count_at hs r ≤ r)
  count_room = (omega (arith, i.room), (i.each r l).low)

  -- the words along an empty route
  pub count_along : (route : List ℕ) {m : ℕ} → length route ≡ 0 → m ≡ count_at hs r → m ≡ length (back_along rs ls route r)
  count_along [] e q = q ∙ (i.each r l).is
  count_along (j ∷ js) e q = absurd (omega arith)
