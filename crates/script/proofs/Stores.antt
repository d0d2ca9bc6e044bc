-- Words copied to the start of a list. Assumes nothing.
use mathlib.Core.Path.{◌≡◌, refl, sym, ◌∙◌}
use Prim.Native.Nat.{ℕ, zero, suc, ◌+◌, ◌≤◌, ◌<◌, zero-le}
use native.Mathlib.Omega.{arith}
use native.Mathlib.Numerals.{add-one}
use mathlib.Core.Bool.{true}
use mathlib.Core.List.{List, ◌++◌}
use lib.ListN.{length, drop, set, get_or, length-append, length-set}
use lib.Seq.{drop-cons, set_at, append_snoc}
use borrow.Author.Tests.{leb-true}
use lib.Dec.{leb}
use Rattle.lists.specs.Tests.{and_both}
use Rattle.script.specs.Words.{word_count, word_at, words_from, fitting}

module _ {A : Type 0} (f : ℕ → A) (bs : List ℕ) (at n : ℕ) (out : List A) where
  pub length_words : (k : ℕ) → length (words_from f bs at k) ≡ k
  unfolding words_from
  length_words zero = refl
  length_words (suc k) = simp length-append (omega (arith, length_words k))

  -- the first i words are in place
  pub record Filling (left : List A) (i : ℕ) : Type 0 where
    pub so_far : left ≡ words_from f bs at i ++ drop i out
    pub as_long : length left ≡ length out
    pub within : i ≤ n
    pub room : n ≤ length out
    pub there : at + n ≤ word_count bs

  pub filling_none : fitting bs at n (length out) ≡ true → Filling out 0
  unfolding words_from
  filling_none t =
      let (a, b) = and_both (leb n (length out)) (leb (at + n) (word_count bs)) t in
      record { so_far = refl; as_long = refl; within = zero-le; room = leb-true _ _ a; there = leb-true _ _ b }

  -- one more
  pub filling_more : (v : A) (left : List A) (i : ℕ) → Filling left i → i < n → v ≡ f (word_at bs (at + i)) → Filling (set left i v) (i + 1)
  unfolding words_from
  filling_more v left i r h q =
      let front = words_from f bs at i in
      let word = f (word_at bs (at + i)) in
      let k : i < length out = omega arith in
      record {
        so_far =
            rw (add-one, r.so_far, q, drop-cons out i v)
            (set_at front (get_or out i v) (drop (suc i) out) word i (length_words i) ∙ sym (append_snoc front word (drop (suc i) out)));
        as_long = length-set left i v ∙ r.as_long;
        within = omega arith;
        room = r.room;
        there = r.there;
      }
