-- The walks down a history, one step at a time. Assumes nothing.
use Rattle.std.proofs.Common.{◌≡◌, ℕ, zero, suc, ◌+◌, ◌-◌, ◌*◌, ◌%◌, ◌^◌, ◌<◌, ◌≤◌, not, eqb, List, [], ◌∷◌, length, ℤ, pos, negsuc, sym, refl, ap, ◌∙◌, ap₂, add-zero, zero-add, arith, w32, SFits, to_z, of_z, ne_eqb}
use lib.Ieee.{Float}
use Rattle.model.specs.Basics.{nonzero, unsigned}
use Rattle.model.specs.Ints.{back, nonzero_yes, nonzero_no}
use Rattle.model.specs.Hash.{hash_base, hash_newest_first, newest_first}
use Rattle.records.specs.History.{History, tag}
use Rattle.records.specs.Layout.{Store, store, prev_at, word_at}
use Rattle.records.specs.Stands.{Stands}
use Rattle.joins.specs.Walk.{words_to, NextWord}
use Rattle.histories.specs.declared.Hashed.{Hashed}
use Rattle.histories.specs.Reading.{join_tag, hashed, older, newer, HashIs}

-- ---- down to the newest join

-- below the first record
pub at_start_lem : {s : Store} {n : ℕ} {h : ℕ → History} → Stands s n h → {r : ℕ} → r ≡ 0 → join_tag (h r) ≡ tag (h r)
unfolding join_tag tag
at_start_lem ok e = rw (e, ok.none)

-- a phone of 0 is none
pub zero_pos : (n : ℕ) → eqb n 0 ≡ not (nonzero (pos n))
zero_pos zero = refl
zero_pos (suc n) = ne_eqb (suc n) 0 (λ e. omega arith)

-- ---- an i32 as a u32

bits_are : (z : ℤ) → of_z w32 z ≡ unsigned z
bits_are (pos n) = refl
bits_are (negsuc n) = refl

pub cast_is : (z : ℤ) → SFits w32 z → of_z w32 (to_z w32 (of_z w32 z)) ≡ unsigned z
cast_is z f = ap (of_z w32) (back z f.sfits) ∙ bits_are z

-- ---- the hash

-- one more word, as the code takes it
pub older_is : (x : Hashed) (w : ℤ) {u m s : ℕ} → u ≡ unsigned w → m ≡ (u * x.shift) % 2 ^ 64 → s ≡ (x.shift * hash_base) % 2 ^ 64
    → ◌≡◌ {A = Hashed} (record { hash = (x.hash + m) % 2 ^ 64; shift = s; len = x.len + 1 }) (older x w)
unfolding older
older_is x w a b c = rw (c, b, a)

-- the same of a newer one
module _ (x : Hashed) (w : ℤ) where
  pub newer_none : SFits w32 w → of_z w32 w ≡ 0 → x ≡ newer x w
  unfolding newer
  newer_none f e = rw (nonzero_no w f e) refl

  pub newer_is : {u m s : ℕ} → (of_z w32 w ≡ 0 → ⊥) → u ≡ unsigned w → m ≡ (x.hash * hash_base) % 2 ^ 64 → s ≡ (x.shift * hash_base) % 2 ^ 64
      → ◌≡◌ {A = Hashed} (record { hash = (m + u) % 2 ^ 64; shift = s; len = x.len + 1 }) (newer x w)
  unfolding newer
  newer_is n a b c = rw (nonzero_yes w n, c, b, a) refl

-- more words, newest first
unfoldable pub older_all : Hashed → List ℤ → Hashed
older_all x [] = x
older_all x (w ∷ ws) = older_all (older x w) ws

abbrev parts : ℕ × ℕ → ℕ → Hashed
parts p n = record { hash = p.0; shift = p.1; len = n }

-- the Rust's fold
all_parts : (x : Hashed) (ws : List ℤ) → older_all x ws ≡ parts (hash_newest_first x.hash x.shift ws) (x.len + length ws)
unfolding older_all older hash_newest_first
all_parts x [] = ap (parts (x.hash, x.shift)) (sym (add-zero x.len))
all_parts x (w ∷ ws) = all_parts (older x w) ws ∙ ap (parts (hash_newest_first x.hash x.shift (w ∷ ws))) (omega arith)

-- nothing hashed yet
abbrev pub start : Hashed
start = record { hash = 0; shift = 1; len = 0 }

all_hashed : (ws : List ℤ) → older_all start ws ≡ hashed ws
all_hashed ws = all_parts start ws ∙ ap₂ parts (newest_first ws) (zero-add (length ws))

-- The words above record m down from `link`: x has those passed, and the next to come is that of record r, if r is above m.
pub record Hashing (rs : List ℕ) (ls : List ℤ) (n link m : ℕ) (x : Hashed) (r : ℕ) : Type 0 where
  pub from : ℕ
  pub next : NextWord rs ls n from m r
  pub low : x.len + r ≤ link
  pub high : m ≤ link → x.len + m ≤ link
  pub is : (gs : List Float) (h : ℕ → History) → Stands (store rs ls gs) n h → older_all x (words_to h m from) ≡ hashed (words_to h m link)

module _ {rs : List ℕ} {ls : List ℤ} {n link m : ℕ} where
  pub hashing_none : {r : ℕ} → NextWord rs ls n link m r → Hashing rs ls n link m start r
  hashing_none {r} N = record { from = link; next = N; low = omega (arith, N.low); high = λ a. omega arith; is = λ gs h ok. all_hashed (words_to h m link) }

  pub hashing_more : {x y : Hashed} {r p q : ℕ} {w : ℤ} → Hashing rs ls n link m x r → m < r → w ≡ word_at ls (r - 1) → y ≡ older x w → p ≡ prev_at rs (r - 1) → p < r → NextWord rs ls n p m q
      → Hashing rs ls n link m y q
  unfolding older_all older
  hashing_more {x} {y} {r} {p} {q} {w} H l a b c d N =
      record {
        from = p;
        next = N;
        low = rw b (omega (arith, H.low, N.low));
        high = λ u. rw b (omega (arith, H.low));
        is = λ gs h ok. rw (b, a, c) (sym (ap (older_all x) (H.next.some l gs h ok)) ∙ H.is gs h ok);
      }

  pub hashing_end : {x : Hashed} {r : ℕ} → Hashing rs ls n link m x r → r ≤ m → HashIs rs ls n link m x
  unfolding older_all
  hashing_end {x} H l = record { low = H.high; is = λ gs h ok. sym (ap (older_all x) (H.next.none l gs h ok)) ∙ H.is gs h ok }
