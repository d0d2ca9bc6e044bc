-- A trace, built from the newest record back to the oldest: the definition's lists of records give the same. Assumes nothing.
use Rattle.std.specs.Prelude.{◌≡◌, Bool, ◌&&◌, List, [], ◌∷◌, map, ℤ, negsuc, eqb}
use Rattle.std.proofs.Math.Path.{refl}
use Rattle.std.proofs.Common.{sym, ◌∙◌, ap, arith, ne_eqb, ltb-true}
use Prim.Native.Nat.{ℕ, zero, suc, ◌<◌}
use Rattle.std.proofs.Math.Bool.{true, false, not, cond}
use Rattle.std.proofs.Math.IntN.{pos}
use Rattle.std.proofs.Math.Dec.{ltb}
use Rattle.lists.specs.Tests.{case, either, never}
use Rattle.model.specs.Basics.{eqℤ, nonzero}
use Rattle.model.specs.Ints.{eqℤ_true}
use Rattle.model.specs.Path.{Merge, with_word}
use Rattle.model.specs.Reads.{Segment, Rec, changes_at, resume, word_recs, phone_recs, segments}

pub record Trail : Type 0 where
  pub words : List ℤ
  pub frames : List ℕ
  pub segments : List Segment

abbrev pub no_trail : Trail
no_trail = record { words = []; frames = []; segments = [] }

-- ---- segments

abbrev pub segment : ℤ → (start end : ℕ) → Segment
segment p s e = record { phone = p; start = s; end = e }

-- A phone that starts at a frame, in front of later segments, of n frames. The first of them that is in this phone begins there.
abbrev pub pushed : (n : ℕ) → ℤ → (frame : ℕ) → List Segment → List Segment
pushed n p f [] = segment p f n ∷ []
pushed n p f (s ∷ ss) = cond (eqℤ s.phone p) (segment p f s.end ∷ ss) (segment p f s.start ∷ (s ∷ ss))

abbrev pub begun : (n : ℕ) → ℤ → (frame : ℕ) → List Segment → List Segment
begun n p f ss = cond (nonzero p) (pushed n p f ss) ss

-- where the first begins
abbrev pub start_of : (n : ℕ) → List Segment → ℕ
start_of n [] = n
start_of n (s ∷ ss) = s.start

-- where a kept path is left at a frame, the winner's phone goes on
abbrev pub resumed : (n frame : ℕ) → (kept winner : ℤ) → List Segment → List Segment
resumed n f k w ss = cond (not (eqℤ k w) && ltb (suc f) n && not (eqb (start_of n ss) (suc f))) (begun n w (suc f) ss) ss

-- a record in front of what is there
abbrev pub add_to : (n frame : ℕ) → (word phone : ℤ) → Trail → Trail
add_to n f w p t = record { words = with_word w t.words; frames = cond (nonzero w) (f ∷ t.frames) t.frames; segments = begun n p f t.segments }

abbrev pub resumed_in : (n frame : ℕ) → (kept winner : ℤ) → Trail → Trail
resumed_in n f k w t = record { words = t.words; frames = t.frames; segments = resumed n f k w t.segments }

-- what a list of records says
unfoldable pub trail_of : (n : ℕ) → List Rec → Trail
trail_of n rs = record { words = map (λ (r : Rec). r.word) (word_recs rs); frames = map (λ (r : Rec). r.frame) (word_recs rs); segments = segments n (phone_recs (pos 0) rs) }

-- ---- one record in front

nonzero_apart : (p : ℤ) → nonzero p ≡ true → (nonzero p && not (eqℤ p (pos 0))) ≡ true
nonzero_apart (pos zero) e = never e
nonzero_apart (pos (suc n)) e = rw (ne_eqb (suc n) 0 (λ q. omega arith))
nonzero_apart (negsuc n) e = refl

-- the records that start a phone, after one in phone p and from the beginning
abbrev after : ℤ → List Rec → List Rec
after p [] = []
after p (q ∷ qs) = cond (eqℤ q.phone p) qs (q ∷ qs)

phones_by : (p : ℤ) (x : Rec) (xs : List Rec) (b : Bool) → (nonzero x.phone && not (eqℤ x.phone p)) ≡ b → phone_recs p (x ∷ xs) ≡ cond b (x ∷ phone_recs x.phone xs) (phone_recs p xs)
phones_by p x xs b e = ap (λ (c : Bool). elim c as (λ y. List Rec) [ true ↦ x ∷ phone_recs x.phone xs | false ↦ phone_recs p xs ]) e ∙ go b
  where
    go : (c : Bool) → (elim c as (λ y. List Rec) [ true ↦ x ∷ phone_recs x.phone xs | false ↦ phone_recs p xs ]) ≡ cond c (x ∷ phone_recs x.phone xs) (phone_recs p xs)
    go true = refl
    go false = refl

phones_after : (p : ℤ) (rs : List Rec) → phone_recs p rs ≡ after p (phone_recs (pos 0) rs)
phones_after p [] = refl
phones_after p (x ∷ xs) =
    case (either (nonzero x.phone)) starts
    (λ z. phones_by p x xs false (ap (λ (b : Bool). b && not (eqℤ x.phone p)) z) ∙ phones_after p xs ∙ ap (after p) (sym (phones_by (pos 0) x xs false (ap (λ (b : Bool). b && not (eqℤ x.phone (pos 0))) z))))
  where
    starts : nonzero x.phone ≡ true → phone_recs p (x ∷ xs) ≡ after p (phone_recs (pos 0) (x ∷ xs))
    starts z =
        phones_by p x xs (not (eqℤ x.phone p)) (ap (λ (b : Bool). b && not (eqℤ x.phone p)) z) ∙ go (eqℤ x.phone p) refl
        ∙ ap (after p) (sym (phones_by (pos 0) x xs true (nonzero_apart x.phone z)))
      where
        go : (b : Bool) → eqℤ x.phone p ≡ b → cond (not b) (x ∷ phone_recs x.phone xs) (phone_recs p xs) ≡ cond b (phone_recs x.phone xs) (x ∷ phone_recs x.phone xs)
        go true q = ap (λ (y : ℤ). phone_recs y xs) (sym (eqℤ_true x.phone p q))
        go false q = refl

segments_one : (n : ℕ) (r : Rec) (qs : List Rec) → segments n (r ∷ qs) ≡ segment r.phone r.frame (start_of n (segments n qs)) ∷ segments n qs
segments_one n r [] = refl
segments_one n r (q ∷ []) = refl
segments_one n r (q ∷ (x ∷ qs)) = refl

phones_on_lem : (r : Rec) (rs : List Rec) → nonzero r.phone ≡ true → phone_recs (pos 0) (r ∷ rs) ≡ r ∷ after r.phone (phone_recs (pos 0) rs)
phones_on_lem r rs e = phones_by (pos 0) r rs true (nonzero_apart r.phone e) ∙ ap (λ (qs : List Rec). r ∷ qs) (phones_after r.phone rs)

segments_pushed : (n : ℕ) (r : Rec) (qs : List Rec) → segments n (r ∷ after r.phone qs) ≡ pushed n r.phone r.frame (segments n qs)
segments_pushed n r [] = refl
segments_pushed n r (q ∷ qs) = rw (segments_one n q qs) (go (eqℤ q.phone r.phone))
  where
    go : (b : Bool)
        → segments n (r ∷ cond b qs (q ∷ qs))
        ≡ cond b (segment r.phone r.frame (start_of n (segments n qs)) ∷ segments n qs) (segment r.phone r.frame q.frame ∷ (segment q.phone q.frame (start_of n (segments n qs)) ∷ segments n qs))
    go true = segments_one n r qs
    go false = ap (λ (ss : List Segment). segment r.phone r.frame q.frame ∷ ss) (segments_one n q qs)

segments_on : (n : ℕ) (r : Rec) (rs : List Rec) → segments n (phone_recs (pos 0) (r ∷ rs)) ≡ begun n r.phone r.frame (segments n (phone_recs (pos 0) rs))
segments_on n r rs = go (nonzero r.phone) refl
  where
    go : (b : Bool) → nonzero r.phone ≡ b → segments n (phone_recs (pos 0) (r ∷ rs)) ≡ cond b (pushed n r.phone r.frame (segments n (phone_recs (pos 0) rs))) (segments n (phone_recs (pos 0) rs))
    go true e = ap (segments n) (phones_on_lem r rs e) ∙ segments_pushed n r (phone_recs (pos 0) rs)
    go false e = ap (segments n) (phones_by (pos 0) r rs false (ap (λ (b : Bool). b && not (eqℤ r.phone (pos 0))) e))

start_pushed : (n : ℕ) (p : ℤ) (f : ℕ) (ss : List Segment) → start_of n (pushed n p f ss) ≡ f
start_pushed n p f [] = refl
start_pushed n p f (s ∷ ss) = go (eqℤ s.phone p)
  where
    go : (b : Bool) → start_of n (cond b (segment p f s.end ∷ ss) (segment p f s.start ∷ (s ∷ ss))) ≡ f
    go true = refl
    go false = refl

-- the first record that starts a phone is where the first segment starts
changes_is : (n k : ℕ) (rs : List Rec) → k < n → changes_at k rs ≡ eqb (start_of n (segments n (phone_recs (pos 0) rs))) k
changes_is n k [] l = sym (ne_eqb n k (λ e. omega arith))
changes_is n k (r ∷ rs) l =
    let ss = segments n (phone_recs (pos 0) rs) in
    ap (cond (nonzero r.phone) (eqb r.frame k)) (changes_is n k rs l) ∙ go (nonzero r.phone) ∙ ap (λ (x : List Segment). eqb (start_of n x) k) (sym (segments_on n r rs))
  where
    go : (b : Bool) → cond b (eqb r.frame k) (eqb (start_of n (segments n (phone_recs (pos 0) rs))) k) ≡ eqb (start_of n (cond b (pushed n r.phone r.frame (segments n (phone_recs (pos 0) rs))) (segments n (phone_recs (pos 0) rs)))) k
    go true = ap (λ (x : ℕ). eqb x k) (sym (start_pushed n r.phone r.frame (segments n (phone_recs (pos 0) rs))))
    go false = refl

-- ---- the trail of a list with one more in front

module _ (n : ℕ) (r : Rec) (rs : List Rec) where
  words_on : (b : Bool) → map (λ (r : Rec). r.word) (cond b (r ∷ word_recs rs) (word_recs rs)) ≡ cond b (r.word ∷ map (λ (r : Rec). r.word) (word_recs rs)) (map (λ (r : Rec). r.word) (word_recs rs))
  words_on true = refl
  words_on false = refl

  frames_on : (b : Bool) → map (λ (r : Rec). r.frame) (cond b (r ∷ word_recs rs) (word_recs rs)) ≡ cond b (r.frame ∷ map (λ (r : Rec). r.frame) (word_recs rs)) (map (λ (r : Rec). r.frame) (word_recs rs))
  frames_on true = refl
  frames_on false = refl

  pub trail_on : trail_of n (r ∷ rs) ≡ add_to n r.frame r.word r.phone (trail_of n rs)
  unfolding trail_of
  trail_on i = record { words = words_on (nonzero r.word) i; frames = frames_on (nonzero r.word) i; segments = segments_on n r rs i }

-- a record that says nothing
pub add_nothing : (n f : ℕ) (w p : ℤ) (t : Trail) → nonzero w ≡ false → nonzero p ≡ false → add_to n f w p t ≡ t
add_nothing n f w p t e q = rw (e, q)

-- a kept path is left
module _ (n : ℕ) (m : Merge) (rs : List Rec) where
  abbrev ss : List Segment
  ss = segments n (phone_recs (pos 0) rs)

  tests : (a l : Bool) → ltb (suc m.frame) n ≡ l → (a && l && not (changes_at (suc m.frame) rs)) ≡ (a && l && not (eqb (start_of n ss) (suc m.frame)))
  tests true true e = ap not (changes_is n (suc m.frame) rs (ltb-true (suc m.frame) n e))
  tests true false e = refl
  tests false true e = refl
  tests false false e = refl

  pub trail_resumed : trail_of n (resume n m rs) ≡ resumed_in n m.frame m.kept_phone m.phone (trail_of n rs)
  unfolding resume trail_of
  trail_resumed = rw (tests (not (eqℤ m.kept_phone m.phone)) (ltb (suc m.frame) n) refl) (go (not (eqℤ m.kept_phone m.phone) && ltb (suc m.frame) n && not (eqb (start_of n ss) (suc m.frame))))
    where
      go : (b : Bool)
          → trail_of n (cond b (record { frame = suc m.frame; word = pos 0; phone = m.phone } ∷ rs) rs)
          ≡ record { words = (trail_of n rs).words; frames = (trail_of n rs).frames; segments = cond b (begun n m.phone (suc m.frame) ss) ss }
      go true = trail_on n (record { frame = suc m.frame; word = pos 0; phone = m.phone }) rs
      go false = refl
