-- Laws of slices that are filled with lines from their beginnings. Assumes nothing.
use Rattle.std.specs.Prelude.{◌≡◌, refl, ◌⊎◌, ℕ, zero, suc, ◌+◌, ◌*◌, ◌≤◌, ◌<◌, Bool, true, false, List, [], ◌∷◌, ◌++◌, ltb, length, get_or, take, set, Float}
use Rattle.std.proofs.Common.{sym, ◌∙◌, ap, ap₂, arith, add-zero, add-one, append-nil, length-append, take-suc, length-take-le, lt-ltb, le-ltb}
use Rattle.std.proofs.lemmas.List.{map-append}
use Rattle.std.proofs.Math.Seq.{take-nil}
use Rattle.std.proofs.lemmas.List.Edits.{sets}
use Rattle.lists.specs.Tests.{case, lt_or_le}
use Rattle.model.specs.Reads.{Traced as Told}
use Rattle.traceback.specs.Write.{flat}
use Rattle.readings.specs.Paths.{words_in, frames_in, phones_in, front, all_words, all_frames, all_segments}
use Rattle.readings.specs.Fronts.{front_more, front_none, flat-length, words_long, frames_long, segments_long, words_more, frames_more, segments_more, words-sum, frames-sum, phones-sum}
use Rattle.reading_list.specs.declared.Totals.{Totals}
use Rattle.reading_list.specs.Outputs.{Outputs}
use Rattle.reading_list.specs.Lines.{Line, lines_by, tolds_in, five_of, four_of, numbers_from, costs_of, RoomFor, Filled, LinePut}

-- ---- one line more

ltb_suc : (a b : ℕ) → ltb a b ≡ ltb (suc a) (suc b)
ltb_suc a b = case (lt_or_le a b) (λ l. lt-ltb a b l ∙ sym (lt-ltb (suc a) (suc b) (omega arith))) (λ l. le-ltb a b l ∙ sym (le-ltb (suc a) (suc b) (omega arith)))

module _ (f : ℕ → (traced : Bool) → Line) where
  lines_more : (max : ℕ) (xs : List ℕ) (x : ℕ) → lines_by f max (xs ++ x ∷ []) ≡ lines_by f max xs ++ f x (ltb (length xs) max) ∷ []
  lines_more zero [] x = ap (λ (b : Bool). f x b ∷ []) (sym (le-ltb 0 0 (omega arith)))
  lines_more (suc m) [] x = ap (λ (b : Bool). f x b ∷ []) (sym (lt-ltb 0 (suc m) (omega arith)))
  lines_more zero (y ∷ xs) x =
      ap (λ (l : List Line). f y false ∷ l) (lines_more zero xs x ∙ ap (λ (b : Bool). lines_by f zero xs ++ f x b ∷ []) (le-ltb (length xs) 0 (omega arith) ∙ sym (le-ltb (suc (length xs)) 0 (omega arith))))
  lines_more (suc m) (y ∷ xs) x = ap (λ (l : List Line). f y true ∷ l) (lines_more m xs x ∙ ap (λ (b : Bool). lines_by f m xs ++ f x b ∷ []) (ltb_suc (length xs) m))

  pub line_next : (max : ℕ) (xs : List ℕ) (i : ℕ) → i < length xs → lines_by f max (take (i + 1) xs) ≡ lines_by f max (take i xs) ++ f (get_or xs i 0) (ltb i max) ∷ []
  line_next max xs i l =
      ap (λ (k : ℕ). lines_by f max (take k xs)) (add-one i) ∙ ap (lines_by f max) (take-suc xs i 0 l) ∙ lines_more max (take i xs) (get_or xs i 0)
      ∙ ap (λ (k : ℕ). lines_by f max (take i xs) ++ f (get_or xs i 0) (ltb k max) ∷ []) (length-take-le i xs (omega arith))

  lines_many : (max : ℕ) (xs : List ℕ) → length (lines_by f max xs) ≡ length xs
  lines_many max [] = refl
  lines_many zero (x ∷ xs) = ap suc (lines_many zero xs)
  lines_many (suc m) (x ∷ xs) = ap suc (lines_many m xs)

  pub many_lines : (max k : ℕ) (xs : List ℕ) → k ≤ length xs → length (lines_by f max (take k xs)) ≡ k
  many_lines max k xs l = lines_many max (take k xs) ∙ length-take-le k xs l

  -- fewer lines hold less
  pub fewer : (one : Line → ℕ) (all : List Line → ℕ) → all [] ≡ 0 → ((x : Line) (ys : List Line) → all (x ∷ ys) ≡ one x + all ys)
      → (max i k : ℕ) (xs : List ℕ) → i ≤ k → all (lines_by f max (take i xs)) ≤ all (lines_by f max (take k xs))
  fewer one all none more max i k [] l = let a = ap (λ (ys : List ℕ). all (lines_by f max ys)) (take-nil i) in let b = ap (λ (ys : List ℕ). all (lines_by f max ys)) (take-nil k) in omega arith
  fewer one all none more max zero k (x ∷ xs) l = omega arith
  fewer one all none more max (suc i) zero (x ∷ xs) l = absurd (omega arith)
  fewer one all none more zero (suc i) (suc k) (x ∷ xs) l =
      let a = more (f x false) (lines_by f zero (take i xs)) in
      let b = more (f x false) (lines_by f zero (take k xs)) in
      let z = fewer one all none more zero i k xs (omega arith) in
      omega arith
  fewer one all none more (suc m) (suc i) (suc k) (x ∷ xs) l =
      let a = more (f x true) (lines_by f m (take i xs)) in
      let b = more (f x true) (lines_by f m (take k xs)) in
      let z = fewer one all none more m i k xs (omega arith) in
      omega arith

  -- as many frames as words, where all are traced
  pub even_lines : (max : ℕ) (xs : List ℕ) → length xs ≤ max → ((i : ℕ) → i < length xs → length (f (get_or xs i 0) true).told.word_frames ≡ length (f (get_or xs i 0) true).told.words)
      → frames_in (tolds_in (lines_by f max xs)) ≡ words_in (tolds_in (lines_by f max xs))
  even_lines max [] l e = refl
  even_lines zero (x ∷ xs) l e = absurd (omega arith)
  even_lines (suc m) (x ∷ xs) l e = ap₂ (λ (a b : ℕ). a + b) (e 0 (omega arith)) (even_lines m xs (omega arith) (λ i h. e (suc i) (omega arith)))

pub tolds_more : (xs : List Line) (x : Line) → tolds_in (xs ++ x ∷ []) ≡ tolds_in xs ++ x.told ∷ []
tolds_more xs x = map-append (λ (y : Line). y.told) xs (x ∷ [])

-- ---- lengths

pub numbers_long : (w s : ℕ) (xs : List Line) → length (numbers_from w s xs) ≡ length xs * 5
numbers_long w s [] = refl
numbers_long w s (x ∷ xs) = let e = numbers_long (w + length x.told.words) (s + length x.told.phones) xs in omega arith

pub costs_long : (xs : List Line) → length (costs_of xs) ≡ length xs * 4
costs_long [] = refl
costs_long (x ∷ xs) = let e = costs_long xs in omega arith

-- what a part holds stands behind what is in front of it
pub numbers-append : (xs ys : List Line) (w s : ℕ) → numbers_from w s (xs ++ ys) ≡ numbers_from w s xs ++ numbers_from (w + words_in (tolds_in xs)) (s + phones_in (tolds_in xs)) ys
numbers-append [] ys w s = ap₂ (λ (a b : ℕ). numbers_from a b ys) (sym (add-zero w)) (sym (add-zero s))
numbers-append (x ∷ xs) ys w s =
    let e = w + length x.told.words in
    let d = s + length x.told.phones in
    ap (λ (l : List ℕ). e ∷ d ∷ x.kept ∷ x.token.phone ∷ x.token.seq ∷ l)
    (numbers-append xs ys e d ∙ ap₂ (λ (a b : ℕ). numbers_from e d xs ++ numbers_from a b ys) (omega arith) (omega arith))

pub costs-append : (xs ys : List Line) → costs_of (xs ++ ys) ≡ costs_of xs ++ costs_of ys
costs-append [] ys = refl
costs-append (x ∷ xs) ys = ap (λ (l : List Float). x.rank ∷ x.told.cost ∷ x.token.cost ∷ x.token.graph ∷ l) (costs-append xs ys)

-- ---- the slices so far

pub filled_none : (o : Outputs) → Filled [] o o
filled_none o = record { words = front_none _; frames = front_none _; segments = front_none _; numbers = front_none _; costs = front_none _ }

put_more : {A : Type 0} (l l' l'' vs ws : List A) (k : ℕ) → l' ≡ front l vs → l'' ≡ sets l' k ws → k ≡ length vs → length vs + length ws ≤ length l → l'' ≡ front l (vs ++ ws)
put_more {A} l l' l'' vs ws k e q n h = q ∙ ap₂ (λ (x : List A) (j : ℕ). sets x j ws) e n ∙ front_more l vs ws h

put_none : {A : Type 0} (l l' l'' vs ws : List A) (k : ℕ) → l' ≡ front l vs → l'' ≡ sets l' k ws → ws ≡ [] → l'' ≡ front l (vs ++ ws)
put_none {A} l l' l'' vs ws k e q n = q ∙ ap (sets l' k) n ∙ e ∙ ap (front l) (sym (append-nil vs) ∙ ap (λ (x : List A). vs ++ x) (sym n))

module _ {xs : List Line} {o o' o'' : Outputs} {x : Line} {i : ℕ} {at r : Totals} (f : Filled xs o o') (p : LinePut x i at r o' o'') (room : RoomFor (xs ++ x ∷ []) o)
    (many : i ≡ length xs) (w : at.words ≡ words_in (tolds_in xs)) (s : at.segments ≡ phones_in (tolds_in xs)) (fr : (x.told.word_frames ≡ []) ⊎ (frames_in (tolds_in xs) ≡ words_in (tolds_in xs))) where
  abbrev ts : List Told
  ts = tolds_in xs

  more : tolds_in (xs ++ x ∷ []) ≡ ts ++ x.told ∷ []
  more = tolds_more xs x

  pub filled_next : Filled (xs ++ x ∷ []) o o''
  filled_next =
      record {
        words =
            put_more o.words o'.words o''.words (all_words ts) x.told.words at.words f.words p.words (w ∙ sym (words_long ts))
            (let a = words_long ts in let b = words-sum x.told ts in let c = ap words_in more in let d = room.words in omega arith)
            ∙ ap (front o.words) (sym (words_more x.told ts) ∙ ap all_words (sym more));
        frames =
            case fr (put_none o.frames o'.frames o''.frames (all_frames ts) x.told.word_frames at.words f.frames p.frames)
            (λ e. put_more o.frames o'.frames o''.frames (all_frames ts) x.told.word_frames at.words f.frames p.frames (w ∙ sym e ∙ sym (frames_long ts))
            (let a = frames_long ts in let b = frames-sum x.told ts in let c = ap frames_in more in let d = room.frames in omega arith))
            ∙ ap (front o.frames) (sym (frames_more x.told ts) ∙ ap all_frames (sym more));
        segments =
            put_more o.segments o'.segments o''.segments (all_segments ts) (flat x.told.phones) (at.segments * 3) f.segments p.segments (ap (λ (k : ℕ). k * 3) s ∙ sym (segments_long ts))
            (let a = segments_long ts in let e = flat-length x.told.phones in let b = phones-sum x.told ts in let c = ap phones_in more in let d = room.segments in omega arith)
            ∙ ap (front o.segments) (sym (segments_more x.told ts) ∙ ap all_segments (sym more));
        numbers =
            put_more o.numbers o'.numbers o''.numbers (numbers_from 0 0 xs) (five_of r.words r.segments x.kept x.token) (i * 5) f.numbers p.numbers (ap (λ (k : ℕ). k * 5) many ∙ sym (numbers_long 0 0 xs))
            (let a = numbers_long 0 0 xs in let b = room.numbers in let d = length-append xs (x ∷ []) in omega arith)
            ∙ ap₂ (λ (a b : ℕ). front o.numbers (numbers_from 0 0 xs ++ five_of a b x.kept x.token)) (p.to_words ∙ (omega arith)) (p.to_segments ∙ (omega arith))
            ∙ ap (front o.numbers) (sym (numbers-append xs (x ∷ []) 0 0));
        costs =
            put_more o.costs o'.costs o''.costs (costs_of xs) (four_of x.rank x.told.cost x.token) (i * 4) f.costs p.costs (ap (λ (k : ℕ). k * 4) many ∙ sym (costs_long xs))
            (let a = costs_long xs in let b = room.costs in let d = length-append xs (x ∷ []) in omega arith)
            ∙ ap (front o.costs) (sym (costs-append xs (x ∷ [])));
      }

-- ---- one number after the other

pub put_four : {A : Type 0} (l : List A) (i : ℕ) (a b c d : A) → set (set (set (set l i a) (i + 1) b) (i + 2) c) (i + 3) d ≡ sets l i (a ∷ b ∷ c ∷ d ∷ [])
put_four l i a b c d =
    let e1 : i + 1 ≡ suc i = omega arith in
    let e2 : i + 2 ≡ suc (suc i) = omega arith in
    let e3 : i + 3 ≡ suc (suc (suc i)) = omega arith in
    λ t. set (set (set (set l i a) (e1 t) b) (e2 t) c) (e3 t) d

pub put_five : {A : Type 0} (l : List A) (i : ℕ) (a b c d e : A) → set (set (set (set (set l i a) (i + 1) b) (i + 2) c) (i + 3) d) (i + 4) e ≡ sets l i (a ∷ b ∷ c ∷ d ∷ e ∷ [])
put_five l i a b c d e =
    let e4 : i + 4 ≡ suc (suc (suc (suc i))) = omega arith in
    λ t. set (put_four l i a b c d t) (e4 t) e
