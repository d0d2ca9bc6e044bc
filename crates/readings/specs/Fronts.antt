-- Laws of slices that are filled from their beginnings. Assumes nothing.
use Rattle.std.specs.Prelude.{◌≡◌, refl, ℕ, ◌+◌, ◌-◌, ◌*◌, ◌≤◌, List, [], ◌∷◌, ◌++◌, ℤ, length, take, drop, set, Float}
use Rattle.std.proofs.Common.{sym, ◌∙◌, ap, ap₂, subst, arith, add-zero, zero-add, append-nil, append_assoc, length-append, length-drop, drop_of_length-le, length-take-le, take_at, drop-drop, take_all}
use Rattle.std.proofs.lemmas.List.{length-map}
use Rattle.std.proofs.lemmas.List.Edits.{sets, sets-eq}
use Rattle.std.proofs.Math.Seq.{drop-append-add}
use Rattle.model.specs.Reads.{Segment, Traced as Told}
use Rattle.traceback.specs.declared.Size.{Size}
use Rattle.traceback.specs.Chain.{trail_from, SizeIs}
use Rattle.traceback.specs.Trail.{Trail, no_trail}
use Rattle.traceback.specs.Write.{flat, Wrote}
use Rattle.traceback.specs.Answers.{told_by}
use Rattle.traceback.specs.Right.{Fits}
use Rattle.readings.specs.Paths.{words_in, frames_in, phones_in, Outputs, RoomFor, front, all_words, all_frames, all_segments, ends_from, costs_of, size_by, PutAsks, PathPut, EntryPut}
use Rattle.readings.specs.Right.{Filled}

-- ---- a slice that begins with these

module _ {A : Type 0} (l vs ws : List A) (h : length vs + length ws ≤ length l) where
  front_long : length (front l vs) ≡ length l
  front_long = let a = length-append vs (drop (length vs) l) in let b = length-drop (length vs) l in omega arith

  pub front_more : sets (front l vs) (length vs) ws ≡ front l (vs ++ ws)
  front_more =
      sets-eq ws (front l vs) (length vs) (let z = front_long in omega arith)
      ∙ ap₂ (λ (x y : List A). x ++ ws ++ y) (take_at vs (drop (length vs) l) (length vs) refl) (drop-append-add vs (drop (length vs) l) (length ws) ∙ drop-drop (length ws) (length vs) l ∙ ap (λ (k : ℕ). drop k l) (sym (length-append vs ws)))

pub front_none : {A : Type 0} (l : List A) → l ≡ front l []
front_none [] = refl
front_none (x ∷ xs) = refl

-- a part written from its beginning
pub part_written : {A : Type 0} (l vs : List A) (a : ℕ) → a + length vs ≤ length l → take a l ++ sets (drop a l) 0 vs ≡ sets l a vs
part_written {A} l vs a h =
    ap (λ (x : List A). take a l ++ x) (sets-eq vs (drop a l) 0 (let z = length-drop a l in omega arith)) ∙ go (drop a l) (drop-drop (length vs) a l) ∙ sym (sets-eq vs l a h)
  where
    go : (d : List A) → drop (length vs) d ≡ drop (a + length vs) l → take a l ++ (take 0 d ++ vs ++ drop (0 + length vs) d) ≡ take a l ++ vs ++ drop (a + length vs) l
    go [] e = ap (λ (x : List A). take a l ++ (vs ++ x)) (ap (λ (k : ℕ). drop k []) (zero-add (length vs)) ∙ e) ∙ sym (append_assoc (take a l) vs (drop (a + length vs) l))
    go (y ∷ d) e = ap (λ (x : List A). take a l ++ (vs ++ x)) (ap (λ (k : ℕ). drop k (y ∷ d)) (zero-add (length vs)) ∙ e) ∙ sym (append_assoc (take a l) vs (drop (a + length vs) l))

-- the part given back
pub part_put : {A : Type 0} (l vs : List A) (a k : ℕ) → k ≡ length l - a → a + length vs ≤ length l → take a l ++ (sets (take k (drop a l)) 0 vs ++ drop k (drop a l)) ≡ sets l a vs
part_put {A} l vs a k e h =
    let d = length-drop a l in
    ap₂ (λ (x y : List A). take a l ++ (sets x 0 vs ++ y)) (take_all k (drop a l) (omega arith)) (drop_of_length-le (drop a l) {i = k} (omega arith))
    ∙ ap (λ (x : List A). take a l ++ x) (append-nil (sets (drop a l) 0 vs)) ∙ part_written l vs a h

-- ---- what the paths hold together

pub flat-length : (ss : List Segment) → length (flat ss) ≡ length ss * 3
flat-length [] = refl
flat-length (s ∷ ss) = let e = flat-length ss in omega arith

pub words_long : (ts : List Told) → length (all_words ts) ≡ words_in ts
words_long [] = refl
words_long (t ∷ ts) = length-append t.words (all_words ts) ∙ ap (λ (k : ℕ). length t.words + k) (words_long ts)

pub frames_long : (ts : List Told) → length (all_frames ts) ≡ frames_in ts
frames_long [] = refl
frames_long (t ∷ ts) = length-append t.word_frames (all_frames ts) ∙ ap (λ (k : ℕ). length t.word_frames + k) (frames_long ts)

pub segments_long : (ts : List Told) → length (all_segments ts) ≡ phones_in ts * 3
segments_long [] = refl
segments_long (t ∷ ts) = let a = length-append (flat t.phones) (all_segments ts) in let b = flat-length t.phones in let c = segments_long ts in omega arith

pub ends_long : (w s : ℕ) (ts : List Told) → length (ends_from w s ts) ≡ 2 * length ts
ends_long w s [] = refl
ends_long w s (t ∷ ts) = let e = ends_long (w + length t.words) (s + length t.phones) ts in omega arith

-- ---- one more path

module _ (t : Told) where
  pub words_more : (ts : List Told) → all_words (ts ++ t ∷ []) ≡ all_words ts ++ t.words
  words_more [] = append-nil t.words
  words_more (x ∷ ts) = ap (λ (l : List ℤ). x.words ++ l) (words_more ts) ∙ sym (append_assoc x.words (all_words ts) t.words)

  pub frames_more : (ts : List Told) → all_frames (ts ++ t ∷ []) ≡ all_frames ts ++ t.word_frames
  frames_more [] = append-nil t.word_frames
  frames_more (x ∷ ts) = ap (λ (l : List ℕ). x.word_frames ++ l) (frames_more ts) ∙ sym (append_assoc x.word_frames (all_frames ts) t.word_frames)

  pub segments_more : (ts : List Told) → all_segments (ts ++ t ∷ []) ≡ all_segments ts ++ flat t.phones
  segments_more [] = append-nil (flat t.phones)
  segments_more (x ∷ ts) = ap (λ (l : List ℕ). flat x.phones ++ l) (segments_more ts) ∙ sym (append_assoc (flat x.phones) (all_segments ts) (flat t.phones))

  pub words-sum : (ts : List Told) → words_in (ts ++ t ∷ []) ≡ words_in ts + length t.words
  words-sum [] = omega arith
  words-sum (x ∷ ts) = let e = words-sum ts in omega arith

  pub frames-sum : (ts : List Told) → frames_in (ts ++ t ∷ []) ≡ frames_in ts + length t.word_frames
  frames-sum [] = omega arith
  frames-sum (x ∷ ts) = let e = frames-sum ts in omega arith

  pub phones-sum : (ts : List Told) → phones_in (ts ++ t ∷ []) ≡ phones_in ts + length t.phones
  phones-sum [] = omega arith
  phones-sum (x ∷ ts) = let e = phones-sum ts in omega arith

  ends_more : (w s : ℕ) (ts : List Told) → ends_from w s (ts ++ t ∷ []) ≡ ends_from w s ts ++ (w + words_in ts + length t.words) ∷ (s + phones_in ts + length t.phones) ∷ []
  ends_more w s [] = ap₂ (λ (a b : ℕ). (a + length t.words) ∷ (b + length t.phones) ∷ []) (sym (add-zero w)) (sym (add-zero s))
  ends_more w s (x ∷ ts) =
      ap (λ (l : List ℕ). (w + length x.words) ∷ (s + length x.phones) ∷ l)
      (ends_more (w + length x.words) (s + length x.phones) ts
      ∙ ap₂ (λ (a b : ℕ). ends_from (w + length x.words) (s + length x.phones) ts ++ a ∷ b ∷ []) (omega arith) (omega arith))

  costs_more : (ts : List Told) → costs_of (ts ++ t ∷ []) ≡ costs_of ts ++ t.cost ∷ []
  costs_more [] = refl
  costs_more (x ∷ ts) = ap (λ (l : List Float). x.cost ∷ l) (costs_more ts)

-- ---- one path

abbrev pub part_of : {A : Type 0} → List A → ℕ → List A
part_of l a = take (length l - a) (drop a l)

abbrev pub put_part : {A : Type 0} → List A → ℕ → List A → List A
put_part l a ys = take a l ++ (ys ++ drop (length l - a) (drop a l))

pub part_long : {A : Type 0} (l : List A) (a : ℕ) → length (part_of l a) ≡ length l - a
part_long l a = length-take-le (length l - a) (drop a l) (let d = length-drop a l in omega arith)

module _ {t : Trail} {at z : Size} {used : ℕ} {W : List ℤ} {F S : List ℕ} (asks : PutAsks t at W F S) (size : SizeIs t used z) where
  pub part_fits : Fits z (part_of W at.words) (part_of F at.words) (part_of S (at.segments * 3))
  part_fits =
      record {
        words = let a = part_long W at.words in let b = asks.words in let c = size.words in omega arith;
        frames = let a = part_long F at.words in let b = asks.frames in let c = size.words in omega arith;
        segments = let a = part_long S (at.segments * 3) in let b = asks.segments in let c = size.segments in omega arith;
      }

  pub path_put : {W' : List ℤ} {F' S' : List ℕ} → Wrote t (part_of W at.words) (part_of F at.words) (part_of S (at.segments * 3)) W' F' S'
      → PathPut t at (size_by (at.words + z.words) (at.segments + z.segments)) W (put_part W at.words W') F (put_part F at.words F') S (put_part S (at.segments * 3) S')
  path_put o =
      record {
        words = ap (put_part W at.words) o.words ∙ part_put W t.words at.words (length W - at.words) refl asks.words;
        frames = ap (put_part F at.words) o.frames ∙ part_put F t.frames at.words (length F - at.words) refl (let a = asks.frames in let b = asks.even in omega arith);
        segments = ap (put_part S (at.segments * 3)) o.segments ∙ part_put S (flat t.segments) (at.segments * 3) (length S - at.segments * 3) refl (let a = asks.segments in let b = flat-length t.segments in omega arith);
        to_words = ap (λ (k : ℕ). at.words + k) size.words;
        to_segments = ap (λ (k : ℕ). at.segments + k) size.segments;
      }

-- by an equal record
pub put_at : (rs : List ℕ) (ls : List ℤ) (n : ℕ) {k l : ℕ} {at r : Size} {W W' : List ℤ} {F F' S S' : List ℕ} → k ≡ l → PathPut (trail_from rs ls [] n k no_trail) at r W W' F F' S S' → PathPut (trail_from rs ls [] n l no_trail) at r W W' F F' S S'
put_at rs ls n {at = at} {r} {W} {W'} {F} {F'} {S} {S'} = subst (λ (j : ℕ). PathPut (trail_from rs ls [] n j no_trail) at r W W' F F' S S')

-- ---- the slices so far

pub filled_none : (o : Outputs) → Filled [] o o
filled_none o = record { words = front_none _; frames = front_none _; segments = front_none _; ends = front_none _; costs = front_none _ }

module _ {ts : List Told} {o o' o'' : Outputs} {t : Trail} {c : Float} {i : ℕ} {at r : Size} (f : Filled ts o o') (p : EntryPut t c i at r o' o'') (room : RoomFor (ts ++ told_by t c ∷ []) o)
    (many : i ≡ length ts) (w : at.words ≡ words_in ts) (fr : frames_in ts ≡ words_in ts) (s : at.segments ≡ phones_in ts) where
  abbrev one : Told
  one = told_by t c

  put_more : {A : Type 0} (l l' l'' vs ws : List A) (k : ℕ) → l' ≡ front l vs → l'' ≡ sets l' k ws → k ≡ length vs → length vs + length ws ≤ length l → l'' ≡ front l (vs ++ ws)
  put_more {A} l l' l'' vs ws k e q n h = q ∙ ap₂ (λ (x : List A) (j : ℕ). sets x j ws) e n ∙ front_more l vs ws h

  ends_put : o''.ends ≡ sets o'.ends (2 * i) (r.words ∷ r.segments ∷ [])
  ends_put = p.ends ∙ ap (λ (k : ℕ). set (set o'.ends (2 * i) r.words) k r.segments) (omega arith)

  pub filled_next : Filled (ts ++ told_by t c ∷ []) o o''
  filled_next =
      record {
        words =
            put_more o.words o'.words o''.words (all_words ts) t.words at.words f.words p.path.words (w ∙ sym (words_long ts))
            (let a = words_long ts in let b = words-sum one ts in let d = room.words in omega arith)
            ∙ ap (front o.words) (sym (words_more one ts));
        frames =
            put_more o.frames o'.frames o''.frames (all_frames ts) t.frames at.words f.frames p.path.frames (w ∙ sym fr ∙ sym (frames_long ts))
            (let a = frames_long ts in let b = frames-sum one ts in let d = room.frames in omega arith)
            ∙ ap (front o.frames) (sym (frames_more one ts));
        segments =
            put_more o.segments o'.segments o''.segments (all_segments ts) (flat t.segments) (at.segments * 3) f.segments p.path.segments (ap (λ (k : ℕ). k * 3) s ∙ sym (segments_long ts))
            (let a = segments_long ts in let e = flat-length t.segments in let b = phones-sum one ts in let d = room.segments in omega arith)
            ∙ ap (front o.segments) (sym (segments_more one ts));
        ends =
            put_more o.ends o'.ends o''.ends (ends_from 0 0 ts) (r.words ∷ r.segments ∷ []) (2 * i) f.ends ends_put (ap (λ (k : ℕ). 2 * k) many ∙ sym (ends_long 0 0 ts))
            (let a = ends_long 0 0 ts in let b = room.ends in let d = length-append ts (one ∷ []) in omega arith)
            ∙ ap₂ (λ (x y : ℕ). front o.ends (ends_from 0 0 ts ++ x ∷ y ∷ [])) (p.path.to_words ∙ (omega arith)) (p.path.to_segments ∙ (omega arith))
            ∙ ap (front o.ends) (sym (ends_more one 0 0 ts));
        costs =
            put_more o.costs o'.costs o''.costs (costs_of ts) (c ∷ []) i f.costs p.costs (many ∙ sym (length-map ts (λ (t : Told). t.cost)))
            (let a = length-map ts (λ (t : Told). t.cost) in let b = room.costs in let d = length-append ts (one ∷ []) in omega arith)
            ∙ ap (front o.costs) (sym (costs_more one ts));
      }
