-- Laws of readings: one key for the same reading, and what a path's history reads. Assumes nothing.
use Rattle.std.specs.Prelude.{◌≡◌, ℕ, zero, suc, ◌*◌, ◌^◌, ◌<◌, ◌≤◌, Bool, true, false, not, ◌&&◌, List, length, ℤ, ◌==◌, Float}
use Rattle.std.proofs.Math.Path.{refl}
use Rattle.std.proofs.Common.{sym, ap, ap₂, ◌∙◌, arith, add-one, eqb-true, eq-eqb, ne_eqb, lt-ltb, le-ltb}
use Rattle.std.proofs.Math.Nat.{mod-add-mod}
use Rattle.lists.specs.Tests.{case, either, lt_or_le, eq_or_not, and_both, or_neither, never}
use Rattle.model.specs.Basics.{nonzero, unsigned}
use Rattle.model.specs.Ints.{same_words_true, same_words_refl}
use Rattle.model.specs.Path.{Path, empty_path, arc_onto, branch_on, is_link, word, with_word, words_back, same_words}
use Rattle.model.specs.Hash.{hash_base, hash_word, hash_words, shift_past}
use Rattle.model.specs.Readings.{join_number, words_to_join}
use Rattle.records.specs.History.{History, no_history, link_onto, join_on, tag, history_of, plain, history_link, history_quiet}
use Rattle.records.specs.Layout.{Rec, Store, store, rec_at, is_link_rec, prev_at}
use Rattle.records.specs.Stands.{Stands, top_by}
use Rattle.joins.specs.Worth.{words_of, above_of}
use Rattle.joins.specs.Walk.{under, words_to}
use Rattle.joins.specs.Fresh.{tag_each}
use Rattle.joins.specs.Paths.{own_arc, plain_rest, words_are}
use Rattle.histories.specs.Reading.{join_tag, end_tag, read_words, same_reading, EndIs, is_join_at, hashed, newer, key_of, KeyIs}

-- ---- the same reading

module _ (to_join_lem : Bool) (x y : History) where
  pub same_parts : same_reading to_join_lem x y ≡ true → (end_tag to_join_lem x ≡ end_tag to_join_lem y) × (read_words to_join_lem x ≡ read_words to_join_lem y)
  unfolding same_reading
  same_parts e =
      let g = and_both (end_tag to_join_lem x == end_tag to_join_lem y) (same_words (read_words to_join_lem x) (read_words to_join_lem y)) e in
      (eqb-true _ _ g.0, same_words_true _ _ g.1)

  pub same_of_lem : end_tag to_join_lem x ≡ end_tag to_join_lem y → read_words to_join_lem x ≡ read_words to_join_lem y → same_reading to_join_lem x y ≡ true
  unfolding same_reading
  same_of_lem e f = rw (eq-eqb (end_tag to_join_lem x) (end_tag to_join_lem y) e, f) (same_words_refl (read_words to_join_lem y))

-- it is an equivalence
pub same_refl : (to_join_lem : Bool) (x : History) → same_reading to_join_lem x x ≡ true
same_refl to_join_lem x = same_of_lem to_join_lem x x refl refl

pub same_sym : (to_join_lem : Bool) (x y : History) → same_reading to_join_lem x y ≡ true → same_reading to_join_lem y x ≡ true
same_sym to_join_lem x y e = let g = same_parts to_join_lem x y e in same_of_lem to_join_lem y x (sym g.0) (sym g.1)

pub same_trans : (to_join_lem : Bool) (x y z : History) → same_reading to_join_lem x y ≡ true → same_reading to_join_lem y z ≡ true → same_reading to_join_lem x z ≡ true
same_trans to_join_lem x y z e f =
    let g = same_parts to_join_lem x y e in
    let k = same_parts to_join_lem y z f in
    same_of_lem to_join_lem x z (g.0 ∙ k.0) (g.1 ∙ k.1)

-- ---- keys

-- equal tags are equal records
pub tag_one : {s : Store} {n : ℕ} {h : ℕ → History} → Stands s n h → (j k : ℕ) → j ≤ n → k ≤ n → tag (h j) ≡ tag (h k) → j ≡ k
tag_one ok j k a b e =
    case (lt_or_le j k) (λ l. absurd (omega (arith, ok.ascends j k l b))) (λ u. case (lt_or_le k j) (λ l. absurd (omega (arith, ok.ascends k j l a))) (λ v. omega arith))

module _ {rs : List ℕ} {ls : List ℤ} {n : ℕ} {to_join_lem : Bool} (gs : List Float) (h : ℕ → History) (ok : Stands (store rs ls gs) n h) where
  -- the words above the end are those that are read
  pub end_words : {r e : ℕ} → EndIs rs ls n r to_join_lem e → words_to h e r ≡ read_words to_join_lem (h r)
  end_words {r} E = ap (λ (k : ℕ). words_of (above_of (under k) (h r))) (E.is gs h ok)

  -- histories that read the same have one key
  pub same_key_lem : {a b k k' : ℕ} → KeyIs rs ls n a to_join_lem k → KeyIs rs ls n b to_join_lem k' → a ≤ n → b ≤ n → same_reading to_join_lem (h a) (h b) ≡ true → k ≡ k'
  same_key_lem {a} {b} A B l m e =
      let g = same_parts to_join_lem (h a) (h b) e in
      let E = A.end in
      let F = B.end in
      let t = tag_one ok A.e B.e (omega (arith, E.low)) (omega (arith, F.low)) (E.is gs h ok ∙ g.0 ∙ sym (F.is gs h ok)) in
      let w = end_words E ∙ g.1 ∙ sym (end_words F) in
      A.is gs h ok ∙ ap₂ key_of t w ∙ sym (B.is gs h ok)

-- ---- one record more

module _ (c : Rec) (m : ℕ) (t q : History) where
  top_join : (b : Bool) → not b ≡ true → join_tag (top_by b c m t q) ≡ tag (top_by b c m t q)
  unfolding join_tag tag
  top_join true e = never e
  top_join false e = refl

  top_link : (b : Bool) → not b ≡ false → join_tag (top_by b c m t q) ≡ join_tag t
  unfolding join_tag
  top_link true e = refl
  top_link false e = never (sym e)

module _ {rs : List ℕ} {ls : List ℤ} {gs : List Float} {n : ℕ} {h : ℕ → History} (ok : Stands (store rs ls gs) n h) (k : ℕ) {r : ℕ} (e : r ≡ suc k) (l : k < n) where
  pub join_at_lem : is_join_at rs ls k ≡ true → join_tag (h r) ≡ tag (h r)
  unfolding rec_at
  join_at_lem j = let c = rec_at (store rs ls gs) k in rw (e, (ok.each k l).is) (top_join c (ok.each k l).number (h c.prev) (h c.kept) (is_link_rec c) j)

  pub link_at_lem : is_join_at rs ls k ≡ false → join_tag (h r) ≡ join_tag (h (prev_at rs k))
  unfolding rec_at
  link_at_lem j = let c = rec_at (store rs ls gs) k in rw (e, (ok.each k l).is) (top_link c (ok.each k l).number (h c.prev) (h c.kept) (is_link_rec c) j)

-- ---- what a path's history reads

above_start : (x : History) → above_of (under 0) x ≡ x
unfolding above_of under
above_start no_history = refl
above_start (link_onto n f w st t) = rw (le-ltb n 0 (omega arith), above_start t)
above_start (join_on n f b k t) = rw (le-ltb n 0 (omega arith), above_start t)

-- down to the start: all its words
pub whole_words : (p : Path) → plain p ≡ true → read_words false (history_of p) ≡ words_back p
whole_words p e = ap words_of (above_start (history_of p)) ∙ sym (words_are p e)

-- the numbers of a history are below f, and fall
abbrev pub Falls : (f : ℕ) → History → Type 0
Falls f no_history = Unit {0}
Falls f (link_onto n fr w st t) = (n < f) × Falls n t
Falls f (join_on n fr b k t) = (n < f) × Falls n t

-- the newest join of a path has a number other than 0
abbrev pub Numbered : Path → Type 0
Numbered empty_path = Unit {0}
Numbered (arc_onto s p) = Numbered p
Numbered (branch_on m k p) = 0 < m.number

-- 0 for none, as in the model
abbrev pub tag_of : (number : ℕ) → ℕ
tag_of zero = 0
tag_of (suc n) = suc (suc n)

pub join_tag_lem : (p : Path) → Numbered p → join_tag (history_of p) ≡ tag_of (join_number p)
unfolding join_tag history_of
join_tag_lem empty_path d = refl
join_tag_lem (arc_onto s p) d = case (either (is_link s && not s.beside)) (λ l. rw l (join_tag_lem p d)) (λ l. rw l (join_tag_lem p d))
join_tag_lem (branch_on m k p) d = go m.number d
  where
    go : (n : ℕ) → 0 < n → suc n ≡ tag_of n
    go zero l = absurd (omega arith)
    go (suc n) l = refl

pub join_low : (f : ℕ) (x : History) → Falls f x → join_tag x ≤ f
unfolding join_tag
join_low f no_history d = omega arith
join_low f (link_onto n fr w st t) d = let z = d.0 in omega (arith, join_low n t d.1)
join_low f (join_on n fr b k t) d = d.0

link_words : (n fr : ℕ) (w st : ℤ) (t : History) → Falls n t → read_words true (link_onto n fr w st t) ≡ with_word w (read_words true t)
unfolding join_tag above_of under words_of
link_words n fr w st t d = rw (le-ltb n (join_tag t) (join_low n t d))

-- down to the newest join
pub join_words : (f : ℕ) (p : Path) → plain p ≡ true → Falls f (history_of p) → read_words true (history_of p) ≡ words_to_join p
unfolding join_tag above_of under words_of history_of plain
join_words f empty_path e d = refl
join_words f (arc_onto s p) e d =
    let b = own_arc s p e in
    let g = plain_rest s p e in
    case (either (is_link s))
    (λ l.
    let i = history_link s p l b in
    let d' : Falls f (link_onto s.number s.frame (word s) s.starts (history_of p)) = rw i at d in
    rw i (link_words s.number s.frame (word s) s.starts (history_of p) d'.1 ∙ ap (with_word (word s)) (join_words s.number p g d'.1)))
    (λ l.
    let i = history_quiet s p l in
    rw (i, (or_neither (nonzero (word s)) (nonzero s.starts) l).0) (join_words f p g (rw i at d)))
join_words f (branch_on m k p) e d = rw (lt-ltb m.number (suc m.number) (omega arith))

-- the model's test for one head
pub same_head_lem : (f f' : ℕ) (p q : Path) → plain p ≡ true → plain q ≡ true → Falls f (history_of p) → Falls f' (history_of q) → Numbered p → Numbered q
    → same_reading true (history_of p) (history_of q) ≡ (join_number p == join_number q && same_words (words_to_join p) (words_to_join q))
unfolding same_reading
same_head_lem f f' p q a b c d i j = rw (join_words f p a c, join_words f' q b d, join_tag_lem p i, join_tag_lem q j, tag_eqb (join_number p) (join_number q))
  where
    tag_inj : (m n : ℕ) → tag_of m ≡ tag_of n → m ≡ n
    tag_inj zero zero e = refl
    tag_inj zero (suc n) e = absurd (omega arith)
    tag_inj (suc m) zero e = absurd (omega arith)
    tag_inj (suc m) (suc n) e = omega arith

    tag_eqb : (m n : ℕ) → (tag_of m == tag_of n) ≡ (m == n)
    tag_eqb m n =
        case (eq_or_not m n) (λ e. eq-eqb (tag_of m) (tag_of n) (ap tag_of e) ∙ sym (eq-eqb m n e)) (λ d. ne_eqb (tag_of m) (tag_of n) (λ e. d (tag_inj m n e)) ∙ sym (ne_eqb m n d))

-- of the histories that records stand for, the numbers fall
module _ {s : Store} {n : ℕ} {h : ℕ → History} (ok : Stands s n h) where
  falls_upto : (b k f : ℕ) → k ≤ b → k ≤ n → tag (h k) ≤ f → Falls f (h k)
  falls_upto zero zero f e l a = rw ok.none tt
  falls_upto (suc b) zero f e l a = rw ok.none tt
  falls_upto zero (suc k) f e l a = absurd (omega arith)
  falls_upto (suc b) (suc k) f e l a =
      let r = rec_at s k in
      let m = (ok.each k l).number in
      let p = (ok.each k l).prev_low in
      let t : tag (h (suc k)) ≡ suc m = tag_each s n h ok k l in
      let u : tag (h r.prev) < tag (h (suc k)) = ok.ascends r.prev (suc k) (omega arith) l in
      rw (ok.each k l).is (go (is_link_rec r) m (omega arith) (falls_upto b r.prev m (omega arith) (omega arith) (omega arith)))
    where
      go : (b : Bool) (m : ℕ) → m < f → Falls m (h (rec_at s k).prev) → Falls f (top_by b (rec_at s k) m (h (rec_at s k).prev) (h (rec_at s k).kept))
      go true m i d = (i, d)
      go false m i d = (i, d)

  pub stands_falls : (r : ℕ) → r ≤ n → Falls (tag (h r)) (h r)
  stands_falls r l = falls_upto r r (tag (h r)) (omega arith) l (omega arith)

-- ---- one more word

-- the hash of the words with it
pub newer_hashed : (w : ℤ) (ws : List ℤ) → newer (hashed ws) w ≡ hashed (with_word w ws)
unfolding newer hash_words hash_word shift_past
newer_hashed w ws =
    case (either (nonzero w)) (λ e. rw (e, mod-add-mod (hash_words ws * hash_base) (2 ^ 64) (unsigned w), add-one (length ws)) refl) (λ e. rw e refl)
