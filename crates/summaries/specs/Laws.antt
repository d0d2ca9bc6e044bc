-- What is read from a record that is skipped to is what is read from the record itself. Assumes nothing.
use Rattle.std.specs.Prelude.{◌≡◌, ℕ, suc, ◌≤◌, ◌<◌, Bool, ℤ, ltb, Float}
use Rattle.std.proofs.Math.Path.{refl}
use Rattle.std.proofs.Common.{sym, ◌∙◌, arith, lt-ltb, le-ltb}
use Rattle.std.proofs.Math.Bool.{true, false}
use mathlib.Core.List.{List, []}
use Rattle.lists.specs.Tests.{case, lt_or_le, or_neither}
use Rattle.model.specs.Basics.{nonzero}
use Rattle.model.specs.Path.{with_word}
use Rattle.records.specs.History.{History, no_history, link_onto, join_on, tag}
use Rattle.records.specs.Layout.{Rec, Store, store, rec_at, is_link_rec, prev_at, word_at}
use Rattle.records.specs.Stands.{Stands, top, top_by}
use Rattle.joins.specs.Worth.{words_of, above_of}
use Rattle.joins.specs.Fresh.{tag_each}
use Rattle.joins.specs.Walk.{under, words_to}
use Rattle.histories.specs.Reading.{join_tag, read_words, is_join_at}
use Rattle.histories.specs.Laws.{link_at_lem}
use Rattle.summaries.specs.Summed.{Quiet, here, down}

-- the words down to the first number below k
abbrev pub words_down : ℕ → History → List ℤ
words_down k x = words_of (above_of (under k) x)

-- nothing, where the newest number is below
pub down_none : (k : ℕ) (t : History) → tag t ≤ k → words_down k t ≡ []
unfolding above_of under tag words_of
down_none k no_history l = refl
down_none k (link_onto n f w st t) l = simp (lt-ltb n k l)
down_none k (join_on n f b q t) l = simp (lt-ltb n k l)

-- ---- one record on top

module _ (r : Rec) (m : ℕ) (t q : History) (k : ℕ) where
  down_top : ltb m k ≡ false → words_down k (top r m t q) ≡ with_word r.word (words_down k t)
  unfolding above_of words_of under
  down_top e = go (is_link_rec r) refl
    where
      go : (b : Bool) → is_link_rec r ≡ b → words_down k (top_by b r m t q) ≡ with_word r.word (words_down k t)
      go true d = simp e
      go false d = simp (e, (or_neither (nonzero r.word) (nonzero r.starts) d).0)

  stop_top : ltb m k ≡ true → words_down k (top r m t q) ≡ []
  unfolding above_of words_of under
  stop_top e = go (is_link_rec r)
    where
      go : (b : Bool) → words_down k (top_by b r m t q) ≡ []
      go true = simp e
      go false = simp e

module _ (s : Store) (n : ℕ) (h : ℕ → History) (ok : Stands s n h) (k : ℕ) (l : k < n) where
  abbrev own : ℕ
  own = (ok.each k l).number

  prev_below : tag (h (rec_at s k).prev) ≤ own
  prev_below = omega (arith, tag_each s n h ok k l, ok.ascends (rec_at s k).prev (suc k) (omega (arith, (ok.each k l).prev_low)) l)

  down_on : (j : ℕ) → j ≤ own → words_down j (h (suc k)) ≡ with_word (rec_at s k).word (words_down j (h (rec_at s k).prev))
  down_on j a = rw (ok.each k l).is (down_top (rec_at s k) own (h (rec_at s k).prev) (h (rec_at s k).kept) j (le-ltb own j a))

  down_quiet : nonzero (rec_at s k).word ≡ false → (j : ℕ) → words_down j (h (suc k)) ≡ words_down j (h (rec_at s k).prev)
  down_quiet e j =
      case (lt_or_le own j)
      (λ a. rw (ok.each k l).is (stop_top (rec_at s k) own (h (rec_at s k).prev) (h (rec_at s k).kept) j (lt-ltb own j a)) ∙ sym (down_none j (h (rec_at s k).prev) (omega (arith, prev_below))))
      (λ a. down_on j a ∙ rw e)

-- as the code reads them
module _ {rs : List ℕ} {ls : List ℤ} {gs : List Float} {n : ℕ} {h : ℕ → History} (ok : Stands (store rs ls gs) n h) (k : ℕ) (l : k < n) where
  pub whole_on : read_words false (h (suc k)) ≡ with_word (word_at ls k) (read_words false (h (prev_at rs k)))
  unfolding rec_at
  whole_on = down_on (store rs ls gs) n h ok k l 0 (omega arith)

  pub quiet_on : nonzero (word_at ls k) ≡ false → (j : ℕ) → words_down j (h (suc k)) ≡ words_down j (h (prev_at rs k))
  unfolding rec_at
  quiet_on e j = down_quiet (store rs ls gs) n h ok k l e j

  pub words_on : (m : ℕ) → m ≤ k → words_to h m (suc k) ≡ with_word (word_at ls k) (words_to h m (prev_at rs k))
  unfolding rec_at
  words_on m a = down_on (store rs ls gs) n h ok k l (tag (h m)) (omega (arith, tag_each (store rs ls gs) n h ok k l, ok.ascends m (suc k) (omega arith) l))

-- ---- the record skipped to

module _ {rs : List ℕ} {ls : List ℤ} {gs : List Float} {n : ℕ} {h : ℕ → History} (ok : Stands (store rs ls gs) n h) where
  pub prev_low : (k : ℕ) → k < n → prev_at rs k ≤ k
  unfolding rec_at
  prev_low k l = (ok.each k l).prev_low

  pub skip_words : {r q : ℕ} → Quiet rs ls r q → r ≤ n → (j : ℕ) → words_down j (h q) ≡ words_down j (h r)
  skip_words (here r) l j = refl
  skip_words (down k q e t) l j = skip_words t (omega (arith, prev_low k l)) j ∙ sym (quiet_on ok k l (or_neither (nonzero (word_at ls k)) (is_join_at rs ls k) e).0 j)

  pub skip_join : {r q : ℕ} → Quiet rs ls r q → r ≤ n → join_tag (h q) ≡ join_tag (h r)
  skip_join (here r) l = refl
  skip_join (down k q e t) l = skip_join t (omega (arith, prev_low k l)) ∙ sym (link_at_lem ok k refl l (or_neither (nonzero (word_at ls k)) (is_join_at rs ls k) e).1)

  pub skip_to : {r q : ℕ} → Quiet rs ls r q → r ≤ n → (m : ℕ) → words_to h m q ≡ words_to h m r
  skip_to t l m = skip_words t l (tag (h m))
