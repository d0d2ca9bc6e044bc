-- A stream of 32-bit little-endian words in a list of bytes. A word's place is its index among the words. Assumes nothing.
use Rattle.std.specs.Prelude.{◌≡◌, refl, ℕ, zero, suc, ◌+◌, ◌*◌, ◌/◌, ◌%◌, ◌^◌, ◌≤◌, ◌<◌, Bool, true, cond, ◌&&◌, List, [], ◌∷◌, ◌++◌, ltb, leb, length, get_or, take, drop}
use Rattle.std.proofs.Common.{sym, ◌∙◌, arith, append_assoc, le-ltb, lt-ltb, leb-true, length-append, length-drop, length-take-le, get_or-append-add}
use Rattle.lists.specs.Tests.{and_both}

-- how many whole words there are
abbrev pub word_count : List ℕ → ℕ
word_count bs = length bs / 4

-- the number of four bytes, the low one first
abbrev pub word_of : (a b c d : ℕ) → ℕ
word_of a b c d = a + 2 ^ 8 * b + 2 ^ 16 * c + 2 ^ 24 * d

-- and its bytes
abbrev pub bytes_of : ℕ → List ℕ
bytes_of w = w % 2 ^ 8 ∷ w / 2 ^ 8 % 2 ^ 8 ∷ w / 2 ^ 16 % 2 ^ 8 ∷ w / 2 ^ 24 ∷ []

-- 0 past the last whole word
unfoldable pub word_at : List ℕ → ℕ → ℕ
word_at bs i = cond (ltb i (word_count bs)) (word_of (get_or bs (4 * i) 0) (get_or bs (4 * i + 1) 0) (get_or bs (4 * i + 2) 0) (get_or bs (4 * i + 3) 0)) 0

pub past_words : (bs : List ℕ) (i : ℕ) → word_count bs ≤ i → word_at bs i ≡ 0
unfolding word_at
past_words bs i h = simp (le-ltb _ _ h)

-- two words, the low one first
abbrev pub long_at : List ℕ → ℕ → ℕ
long_at bs i = word_at bs i + 2 ^ 32 * word_at bs (i + 1)

-- a word put at a place; nothing changes where there is no room
unfoldable pub put_word : List ℕ → ℕ → ℕ → List ℕ
put_word bs i w = cond (ltb i (word_count bs)) (take (4 * i) bs ++ bytes_of w ++ drop (4 * i + 4) bs) bs

-- a word that was put is read back
pub put_read : (bs : List ℕ) (i w : ℕ) → i < word_count bs → word_at (put_word bs i w) i ≡ w
unfolding word_at put_word
put_read bs i w h =
    rw (lt-ltb _ _ h)
    (rw (lt-ltb _ _ room) (rw (byte (4 * i) 0 (omega arith), byte (4 * i + 1) 1 refl, byte (4 * i + 2) 2 refl, byte (4 * i + 3) 3 refl) (omega arith)))
  where
    front : List ℕ
    front = take (4 * i) bs

    rest : List ℕ
    rest = drop (4 * i + 4) bs

    put : List ℕ
    put = front ++ bytes_of w ++ rest

    as_long : length front ≡ 4 * i
    as_long = length-take-le (4 * i) bs (omega arith)

    room : i < word_count put
    room = omega (arith, length-append (front ++ bytes_of w) rest, length-append front (bytes_of w), as_long, length-drop (4 * i + 4) bs)

    byte : (n k : ℕ) → n ≡ 4 * i + k → get_or put n 0 ≡ get_or (bytes_of w ++ rest) k 0
    byte n k e = rw (e, append_assoc) (rw as_long at (get_or-append-add front (bytes_of w ++ rest) k 0))

-- the next place, or the same one where there is no room
unfoldable pub place_after : List ℕ → ℕ → ℕ
place_after bs i = cond (ltb i (word_count bs)) (i + 1) i

pub record Put (bs : List ℕ) (at w next : ℕ) (left : List ℕ) : Type 0 where
  pub moved : next ≡ place_after bs at
  pub written : left ≡ put_word bs at w

-- a 64-bit number as two words put one after the other, the low one first
pub record PutLong (bs : List ℕ) (at x next : ℕ) (left : List ℕ) : Type 0 where
  pub moved : next ≡ place_after (put_word bs at (x % 2 ^ 32)) (place_after bs at)
  pub written : left ≡ put_word (put_word bs at (x % 2 ^ 32)) (place_after bs at) (x / 2 ^ 32)

-- the n words from a place on, each read by f
unfoldable pub words_from : {A : Type 0} → (ℕ → A) → List ℕ → ℕ → ℕ → List A
words_from f bs at zero = []
words_from f bs at (suc n) = words_from f bs at n ++ (f (word_at bs (at + n)) ∷ [])

-- there are n words from a place on, and places for them
abbrev pub fitting : List ℕ → (at n places : ℕ) → Bool
fitting bs at n places = leb n places && leb (at + n) (word_count bs)

-- n words were copied to the start of `out`, if they fitted; if not, it is left as it was
pub record Filled {A : Type 0} (f : ℕ → A) (bs : List ℕ) (at n : ℕ) (out : List A) (told : Bool) (left : List A) : Type 0 where
  pub fitted : told ≡ fitting bs at n (length out)
  pub written : left ≡ cond (fitting bs at n (length out)) (words_from f bs at n ++ drop n out) out

-- where words were copied, there were places for them
pub filled_room : {A : Type 0} {f : ℕ → A} {bs : List ℕ} {at n : ℕ} {out left : List A} {told : Bool} → Filled f bs at n out told left → told ≡ true → n ≤ length out
filled_room {bs = bs} {at} {n} {out} r t = leb-true _ _ (and_both (leb n (length out)) (leb (at + n) (word_count bs)) (sym r.fitted ∙ t)).0
