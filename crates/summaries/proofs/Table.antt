-- The table, one record more. Assumes nothing.
use mathlib.Core.Path.{◌≡◌, refl, sym, ap, ◌∙◌}
use Prim.Native.Nat.{ℕ, zero, suc, ◌+◌, ◌-◌, ◌*◌, ◌^◌, ◌≤◌, ◌<◌}
use native.Mathlib.Omega.{arith}
use native.Mathlib.Nat.{mod-add-mod}
use mathlib.Core.Bool.{Bool, true, false, ◌||◌, cond}
use mathlib.Core.List.{List}
use lib.IntN.{ℤ}
use lib.ListN.{length, get_or, set, length-set}
use lib.Seq.{get_or-set_same, get_or-set_other}
use lib.Ieee.{Float}
use Rattle.lists.specs.Tests.{case, either, lt_or_le}
use Rattle.model.specs.Basics.{nonzero, unsigned}
use Rattle.model.specs.Hash.{hash_base, hash_words, shift_past}
use Rattle.records.specs.History.{History, tag}
use Rattle.records.specs.Layout.{store, prev_at, word_at}
use Rattle.records.specs.Stands.{Stands}
use Rattle.joins.specs.Worth.{words_of, above_of}
use Rattle.joins.specs.Walk.{words_to, Chains}
use Rattle.histories.specs.Reading.{join_tag, end_tag, is_join_at, newer, EndIs, key_of, KeyIs}
use Rattle.summaries.specs.Summed.{key_at, skip_at, join_at, tells_at, here, down, SkipOf, Keys, Skips, SummedTo}
use Rattle.summaries.specs.Key.{key_over, key_over_lem, key_end}
use Rattle.histories.specs.Laws.{join_at_lem, link_at_lem}
use Rattle.summaries.specs.Laws.{down_none, words_on}

-- ---- two more numbers

module _ (xs : List ℕ) (k v w : ℕ) where
  abbrev put_two : List ℕ
  put_two = set (set xs (k * 2) v) (k * 2 + 1) w

  put-length : length put_two ≡ length xs
  put-length = length-set (set xs (k * 2) v) (k * 2 + 1) w ∙ length-set xs (k * 2) v

  -- those below stay
  put_old : (i : ℕ) → i < k * 2 → get_or put_two i 0 ≡ get_or xs i 0
  put_old i l = get_or-set_other (set xs (k * 2) v) (k * 2 + 1) i w 0 (λ e. omega arith) ∙ get_or-set_other xs (k * 2) i v 0 (λ e. omega arith)

  key_old : (j : Bool) (r : ℕ) → r ≤ k → key_at put_two j r ≡ key_at xs j r
  unfolding key_at
  key_old j zero l = refl
  key_old true (suc i) l = put_old (i * 2 + 1) (omega arith)
  key_old false (suc i) l = put_old (i * 2 + 0) (omega arith)

  skip_old : (r : ℕ) → r ≤ k → skip_at put_two r ≡ skip_at xs r
  unfolding skip_at
  skip_old zero l = refl
  skip_old (suc i) l = put_old (i * 2) (omega arith)

  join_old : (r : ℕ) → r ≤ k → join_at put_two r ≡ join_at xs r
  unfolding join_at
  join_old zero l = refl
  join_old (suc i) l = put_old (i * 2 + 1) (omega arith)

  module _ (l : k * 2 + 1 < length xs) where
    first_new : get_or put_two (k * 2) 0 ≡ v
    first_new = get_or-set_other (set xs (k * 2) v) (k * 2 + 1) (k * 2) w 0 (λ e. omega arith) ∙ get_or-set_same xs (k * 2) v 0 (omega arith)

    second_new : get_or put_two (k * 2 + 1) 0 ≡ w
    second_new = get_or-set_same (set xs (k * 2) v) (k * 2 + 1) w 0 (rw (length-set xs (k * 2) v) l)

    key_new : (j : Bool) → key_at put_two j (suc k) ≡ cond j w v
    unfolding key_at
    key_new true = second_new
    key_new false = ap (λ (i : ℕ). get_or put_two i 0) (omega arith) ∙ first_new

    skip_new : skip_at put_two (suc k) ≡ v
    unfolding skip_at
    skip_new = first_new

    join_new : join_at put_two (suc k) ≡ w
    unfolding join_at
    join_new = second_new

-- one more place
upto_more : (P : ℕ → Type 0) (k : ℕ) → ((r : ℕ) → r ≤ k → P r) → P (suc k) → (r : ℕ) → r ≤ suc k → P r
upto_more P k f p r l = case (lt_or_le k r) (λ a. let e : r ≡ suc k = omega arith in rw e p) (f r)

-- ---- nothing yet

skip_none : {rs : List ℕ} {ls : List ℤ} → SkipOf rs ls 0 0
skip_none = record { low = omega arith; quiet = here 0; tells = λ a. absurd (omega arith) }

module _ {rs : List ℕ} {ls : List ℤ} {n : ℕ} where
  end_none : (j : Bool) → EndIs rs ls n 0 j 0
  unfolding join_tag tag
  end_none true = record { low = omega arith; is = λ gs h ok. rw ok.none refl }
  end_none false = record { low = omega arith; is = λ gs h ok. rw ok.none refl }

  key_none : (j : Bool) → KeyIs rs ls n 0 j 0
  unfolding words_of above_of hash_words shift_past
  key_none j = record { e = 0; end = end_none j; is = λ gs h ok. rw ok.none refl }

  pub summed_none : {hs cs : List ℕ} → n * 2 ≤ length hs → n * 2 ≤ length cs → SummedTo rs ls n 0 hs cs
  unfolding key_at skip_at join_at
  summed_none {hs} {cs} a b =
      record {
        keys = record { room = a; each = λ j r l. let e : r ≡ 0 = omega arith in rw e (key_none j) };
        skips = record { room = b; skips = λ r l. let e : r ≡ 0 = omega arith in rw e skip_none; joins = λ r l. let e : r ≡ 0 = omega arith in rw e (end_none true) };
      }

-- ---- record k + 1

module _ {rs : List ℕ} {ls : List ℤ} {n k : ℕ} (C : Chains rs ls n) (l : k < n) where
  abbrev p : ℕ
  p = prev_at rs k

  -- its reading ends where that of the record before it ends
  abbrev Stays : (to_join_lem : Bool) → Type 0
  Stays j = (gs : List Float) (h : ℕ → History) → Stands (store rs ls gs) n h → end_tag j (h (suc k)) ≡ end_tag j (h p)

  end_more : {j : Bool} {e : ℕ} → Stays j → EndIs rs ls n p j e → EndIs rs ls n (suc k) j e
  end_more s E = record { low = omega (arith, E.low, C.prev_low k l); is = λ gs h ok. E.is gs h ok ∙ sym (s gs h ok) }

  key_more : {j : Bool} {x : ℕ} → Stays j → KeyIs rs ls n p j x → KeyIs rs ls n (suc k) j (key_over x (word_at ls k))
  key_more s K =
      let e = K.e in
      let low = K.end.low in
      record {
        e = e;
        end = end_more s K.end;
        is = λ gs h ok. ap (λ (x : ℕ). key_over x (word_at ls k)) (K.is gs h ok) ∙ key_over_lem e (word_at ls k) (words_to h e p) ∙ ap (key_of e) (sym (words_on ok k l e (omega (arith, C.prev_low k l))));
      }

  module _ (d : is_join_at rs ls k ≡ true) where
    end_own : EndIs rs ls n (suc k) true (suc k)
    end_own = record { low = omega arith; is = λ gs h ok. sym (join_at_lem ok k refl l d) }

    key_own : suc k < 2 ^ 64 → KeyIs rs ls n (suc k) true (suc k)
    key_own f =
        record {
          e = suc k;
          end = end_own;
          is = λ gs h ok. sym (ap (key_of (suc k)) (down_none (tag (h (suc k))) (h (suc k)) (omega arith)) ∙ key_end (suc k) f);
        }

  key_whole : {x : ℕ} → KeyIs rs ls n p false x → KeyIs rs ls n (suc k) false (key_over x (word_at ls k))
  key_whole = key_more (λ gs h ok. refl)

  key_to_join : {x : ℕ} → suc k < 2 ^ 64 → KeyIs rs ls n p true x → KeyIs rs ls n (suc k) true (cond (is_join_at rs ls k) (suc k) (key_over x (word_at ls k)))
  key_to_join f K = case (either (is_join_at rs ls k)) (λ d. rw d (key_own d f)) (λ d. rw d (key_more (λ gs h ok. link_at_lem ok k refl l d) K))

  join_more : {e : ℕ} → EndIs rs ls n p true e → EndIs rs ls n (suc k) true (cond (is_join_at rs ls k) (suc k) e)
  join_more E = case (either (is_join_at rs ls k)) (λ d. rw d (end_own d)) (λ d. rw d (end_more (λ gs h ok. link_at_lem ok k refl l d) E))

  skip_more : {q : ℕ} → SkipOf rs ls p q → SkipOf rs ls (suc k) (cond (tells_at rs ls k) (suc k) q)
  skip_more {q} S = case (either (tells_at rs ls k)) (λ e. rw e (own_skip e)) (λ e. rw e (old_skip e))
    where
      own_skip : tells_at rs ls k ≡ true → SkipOf rs ls (suc k) (suc k)
      own_skip e = record { low = omega arith; quiet = here (suc k); tells = λ b. let i : suc k - 1 ≡ k = omega arith in rw i e }

      old_skip : tells_at rs ls k ≡ false → SkipOf rs ls (suc k) q
      old_skip e = record { low = omega (arith, S.low, C.prev_low k l); quiet = down k q e S.quiet; tells = S.tells }

module _ {rs : List ℕ} {ls : List ℤ} {n k p : ℕ} {w : ℤ} {b : Bool} where
  keys_more : {hs : List ℕ} {x y : ℕ} → Chains rs ls n → k < n → suc k < 2 ^ 64 → Keys rs ls n k hs → p ≡ prev_at rs k → w ≡ word_at ls k → b ≡ is_join_at rs ls k
      → x ≡ key_over (key_at hs false p) w → y ≡ cond b (suc k) (key_over (key_at hs true p) w) → Keys rs ls n (suc k) (put_two hs k x y)
  keys_more {hs} {x} {y} C l f K u v d ex ey =
      let low = C.prev_low k l in
      let m : k * 2 + 1 < length hs = omega (arith, K.room) in
      record {
        room = rw (put-length hs k x y) K.room;
        each = λ j. upto_more (λ i. KeyIs rs ls n i j (key_at (put_two hs k x y) j i)) k (λ i a. rw (key_old hs k x y j i a) (K.each j i a)) (rw (key_new hs k x y m j) (new low j));
      }
    where
      new : prev_at rs k ≤ k → (j : Bool) → KeyIs rs ls n (suc k) j (cond j y x)
      new low true = rw (ey, u, v, d) (key_to_join C l f (K.each true (prev_at rs k) low))
      new low false = rw (ex, u, v) (key_whole C l (K.each false (prev_at rs k) low))

  skips_more : {cs : List ℕ} {s t : ℕ} → Chains rs ls n → k < n → Skips rs ls n k cs → p ≡ prev_at rs k → w ≡ word_at ls k → b ≡ is_join_at rs ls k → s ≡ cond (nonzero w || b) (suc k) (skip_at cs p)
      → t ≡ cond b (suc k) (join_at cs p) → Skips rs ls n (suc k) (put_two cs k s t)
  skips_more {cs} {s} {t} C l K u v d es et =
      let low = C.prev_low k l in
      let m : k * 2 + 1 < length cs = omega (arith, K.room) in
      record {
        room = rw (put-length cs k s t) K.room;
        skips = upto_more (λ i. SkipOf rs ls i (skip_at (put_two cs k s t) i)) k (λ i a. rw (skip_old cs k s t i a) (K.skips i a))
            (rw (skip_new cs k s t m, es, u, v, d) (skip_more C l (K.skips (prev_at rs k) low)));
        joins = upto_more (λ i. EndIs rs ls n i true (join_at (put_two cs k s t) i)) k (λ i a. rw (join_old cs k s t i a) (K.joins i a))
            (rw (join_new cs k s t m, et, u, d) (join_more C l (K.joins (prev_at rs k) low)));
      }

  -- as the code has them: r is the record's number, and j its place
  pub summed_more : {hs cs hs' cs' : List ℕ} {o x y s t r j : ℕ} → r ≡ suc k → j ≡ k → r < 2 ^ 64 → Chains rs ls n → k < n → SummedTo rs ls n k hs cs → p ≡ prev_at rs j → w ≡ word_at ls j → b ≡ is_join_at rs ls j
      → o ≡ key_at hs false p → x ≡ key_over o w → y ≡ cond b r (key_over (key_at hs true p) w) → s ≡ cond (nonzero w || b) r (skip_at cs p) → t ≡ cond b r (join_at cs p)
      → hs' ≡ put_two hs k x y → cs' ≡ put_two cs k s t → SummedTo rs ls n r hs' cs'
  summed_more er ej f C l S u v d eo ex ey es et eh ec =
      let u' = u ∙ ap (prev_at rs) ej in
      let v' = v ∙ ap (word_at ls) ej in
      let d' = d ∙ ap (is_join_at rs ls) ej in
      rw (eh, ec, er) (record { keys = keys_more C l (omega arith) S.keys u' v' d' (ex ∙ ap (λ (o : ℕ). key_over o w) eo) (rw er at ey); skips = skips_more C l S.skips u' v' d' (rw er at es) (rw er at et) })

pub prev_under : {rs : List ℕ} {ls : List ℤ} {n k j p : ℕ} → Chains rs ls n → k < n → j ≡ k → p ≡ prev_at rs j → p ≤ k
prev_under {rs} {k = k} C l t u = let e : _ ≡ prev_at rs k = u ∙ ap (prev_at rs) t in omega (arith, C.prev_low k l)

-- ---- its numbers, as the code finds them

pub yes : {A : Type 0} {b : Bool} (x y : A) → b ≡ true → x ≡ cond b x y
yes x y e = rw e refl

pub no : {A : Type 0} {b : Bool} (x y : A) {z : A} → b ≡ false → z ≡ y → z ≡ cond b x y
no x y e d = rw e d

pub or_first : (x y : Bool) → x ≡ true → (x || y) ≡ true
or_first x y e = rw e refl

pub or_second : {b : Bool} (x y : Bool) → x ≡ false → y ≡ b → (x || y) ≡ b
or_second x y e d = rw e d

pub key_with : (x w : ℕ) (l : ℕ) (z : ℤ) → (newer (record { hash = x; shift = w; len = l }) z).hash ≡ key_over x z
unfolding newer key_over
key_with x w l z = case (either (nonzero z)) (λ d. rw (d, mod-add-mod (x * hash_base) (2 ^ 64) (unsigned z)) refl) (λ d. rw d refl)
