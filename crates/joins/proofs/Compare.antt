-- Two lists of words, compared newest first. Assumes nothing.
use mathlib.Core.Path.{◌≡◌, sym, ◌∙◌}
use Prim.Native.Nat.{ℕ, ◌-◌, ◌<◌}
use mathlib.Core.Bool.{true, false}
use mathlib.Core.List.{List, [], ◌∷◌}
use lib.IntN.{ℤ}
use lib.Dec.{leb}
use lib.Ieee.{Float}
use borrow.Author.Tests.{le-leb, lt-leb}
use Rattle.lists.specs.Tests.{case, either, lt_or_le}
use Rattle.model.specs.Basics.{eqℤ, nonzero}
use Rattle.model.specs.Ints.{eqℤ_true, eqℤ_refl, same_words_refl}
use Rattle.model.specs.Path.{with_word, same_words}
use Rattle.records.specs.History.{History}
use Rattle.records.specs.Layout.{store, prev_at, word_at}
use Rattle.records.specs.Stands.{Stands}
use Rattle.joins.specs.Walk.{words_to, NextWord}

-- the first words of both
module _ {x y : ℤ} {xs ys l r : List ℤ} (e : l ≡ x ∷ xs) (f : r ≡ y ∷ ys) where
  pub same_next : x ≡ y → same_words l r ≡ same_words xs ys
  same_next q = rw (e, f, q, eqℤ_refl y)

  pub other_next : (x ≡ y → ⊥) → same_words l r ≡ false
  other_next d = rw (e, f) (case (either (eqℤ x y)) (λ q. absurd (d (eqℤ_true x y q))) (λ q. rw q))

pub one_ends : {x : ℤ} {xs l r : List ℤ} → l ≡ [] → r ≡ x ∷ xs → (same_words l r ≡ false) × (same_words r l ≡ false)
one_ends e f = (rw (e, f), rw (e, f))

-- the word on top, where there is one
pub over_front : (over : ℤ) (xs : List ℤ) → nonzero over ≡ true → with_word over xs ≡ over ∷ xs
over_front over xs e = rw e

module _ {rs : List ℕ} {ls : List ℤ} {n r m q : ℕ} (N : NextWord rs ls n r m q) (gs : List Float) (h : ℕ → History) (ok : Stands (store rs ls gs) n h) where
  -- the next word and what follows, as the code reads them
  pub next_is : m < q → {x : ℤ} {p : ℕ} → x ≡ word_at ls (q - 1) → p ≡ prev_at rs (q - 1) → words_to h m r ≡ x ∷ words_to h m p
  next_is l e f = rw (e, f) (N.some l gs h ok)

  pub ends_with : {l : List ℤ} → l ≡ [] → same_words l (words_to h m r) ≡ leb q m
  ends_with e = case (lt_or_le m q) (λ u. (one_ends e (N.some u gs h ok)).0 ∙ sym (lt-leb q m u)) (λ u. rw (e, N.none u gs h ok, le-leb q m u))

-- two histories that are at one record read the same from there on
pub one_record : {rs : List ℕ} {ls : List ℤ} {n a b m p q : ℕ} → NextWord rs ls n a m p → NextWord rs ls n b m q → p ≡ q → (gs : List Float) (h : ℕ → History) → Stands (store rs ls gs) n h
    → same_words (words_to h m a) (words_to h m b) ≡ true
one_record {b = b} {m = m} {q = q} M N e gs h ok =
    let L = rw e at M in
    rw (case (lt_or_le m q) (λ u. L.some u gs h ok ∙ sym (N.some u gs h ok)) (λ u. L.none u gs h ok ∙ sym (N.none u gs h ok))) (same_words_refl (words_to h m b))
