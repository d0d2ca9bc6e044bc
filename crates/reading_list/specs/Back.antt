-- What is read back from filled slices: the readings of the lines, and the traces of the first of them. Assumes nothing.
use Rattle.std.specs.Prelude.{◌≡◌, refl, ℕ, zero, suc, ◌+◌, ◌-◌, ◌*◌, List, [], ◌∷◌, ◌++◌, map, ℤ, pos, nat_abs, length, get_or, take, drop, Float, Result, Ok}
use Rattle.std.proofs.Common.{sym, ◌∙◌, ap, ap₂, subst, arith, add-zero, append_assoc, length-append, take-append-drop, take_at, drop_at, get_or-append-add}
use Rattle.std.proofs.lemmas.List.{map-append, length-map}
use Rattle.std.specs.Float.{nan}
use Rattle.lists.specs.Lists.{range}
use Rattle.model.specs.Reads.{Segment, Traced as Told}
use Rattle.model.specs.Calls.{Reading, Answer, readings_answer}
use Rattle.traceback.specs.Write.{flat}
use Rattle.traceback.specs.Right.{segments_in}
use Rattle.readings.specs.Paths.{words_in, frames_in, phones_in, front, all_words, all_frames, all_segments, Plain, Plains}
use Rattle.readings.specs.Fronts.{words_long, frames_long, segments_long, frames-sum, words-sum}
use Rattle.reading_list.specs.Outputs.{Outputs, words_of, numbers_of, costs_of as output_costs, Traces, Phones, words_end, segments_end, reading_at, trace_at, readings_in, traces_in}
use Rattle.reading_list.specs.Right.{list_as, Filled as Holds, ReadingsAre, readings_refused, readings_listed}
use Rattle.reading_list.specs.Lines.{Line, tolds_in, numbers_from, costs_of, Filled}
use Rattle.reading_list.specs.Fronts.{tolds_more, numbers_long, costs_long, numbers-append, costs-append}
use Rattle.refusals.specs.declared.Reason.{Reason}

-- ---- parts

tolds-append : (xs ys : List Line) → tolds_in (xs ++ ys) ≡ tolds_in xs ++ tolds_in ys
tolds-append xs ys = map-append (λ (x : Line). x.told) xs ys

words_append : (xs ys : List Told) → all_words (xs ++ ys) ≡ all_words xs ++ all_words ys
words_append [] ys = refl
words_append (x ∷ xs) ys = ap (λ (l : List ℤ). x.words ++ l) (words_append xs ys) ∙ sym (append_assoc x.words (all_words xs) (all_words ys))

frames-append : (xs ys : List Told) → all_frames (xs ++ ys) ≡ all_frames xs ++ all_frames ys
frames-append [] ys = refl
frames-append (x ∷ xs) ys = ap (λ (l : List ℕ). x.word_frames ++ l) (frames-append xs ys) ∙ sym (append_assoc x.word_frames (all_frames xs) (all_frames ys))

segments-append : (xs ys : List Told) → all_segments (xs ++ ys) ≡ all_segments xs ++ all_segments ys
segments-append [] ys = refl
segments-append (x ∷ xs) ys = ap (λ (l : List ℕ). flat x.phones ++ l) (segments-append xs ys) ∙ sym (append_assoc (flat x.phones) (all_segments xs) (all_segments ys))

-- a list in three, and the rest of a slice
behind : {A : Type 0} (whole front one back rest : List A) (n : ℕ) → whole ≡ front ++ (one ++ back) → length front ≡ n → drop n (whole ++ rest) ≡ one ++ (back ++ rest)
behind {A} whole front one back rest n e h =
    ap (λ (l : List A). drop n (l ++ rest)) e ∙ ap (drop n) (append_assoc front (one ++ back) rest) ∙ drop_at front ((one ++ back) ++ rest) n h ∙ append_assoc one back rest

at_behind : {A : Type 0} (whole front back rest : List A) (n j : ℕ) (d : A) → whole ≡ front ++ back → length front ≡ n → get_or (whole ++ rest) (n + j) d ≡ get_or (back ++ rest) j d
at_behind {A} whole front back rest n j d e h =
    ap₂ (λ (l : List A) (k : ℕ). get_or l (k + j) d) (ap (λ (l : List A). l ++ rest) e ∙ append_assoc front back rest) (sym h) ∙ get_or-append-add front (back ++ rest) j d

-- ---- ends

abbrev end_from : (e : ℕ) → (j : ℕ) → List ℕ → ℕ → ℕ
end_from e j ns zero = e
end_from e j ns (suc i) = get_or ns (i * 5 + j) 0

words_step : (e f k p q : ℕ) (ns : List ℕ) (i : ℕ) → get_or (e ∷ f ∷ k ∷ p ∷ q ∷ ns) (i * 5 + 0) 0 ≡ end_from e 0 ns i
words_step e f k p q ns zero = refl
words_step e f k p q ns (suc i) = ap (λ (m : ℕ). get_or (e ∷ f ∷ k ∷ p ∷ q ∷ ns) m 0) (let z : suc i * 5 + 0 ≡ suc (suc (suc (suc (suc (i * 5 + 0))))) = omega arith in z)

segments_step : (e f k p q : ℕ) (ns : List ℕ) (i : ℕ) → get_or (e ∷ f ∷ k ∷ p ∷ q ∷ ns) (i * 5 + 1) 0 ≡ end_from f 1 ns i
segments_step e f k p q ns zero = refl
segments_step e f k p q ns (suc i) = ap (λ (m : ℕ). get_or (e ∷ f ∷ k ∷ p ∷ q ∷ ns) m 0) (let z : suc i * 5 + 1 ≡ suc (suc (suc (suc (suc (i * 5 + 1))))) = omega arith in z)

words_end_lem : (xs ys : List Line) (w s : ℕ) (ns : List ℕ) → end_from w 0 (numbers_from w s (xs ++ ys) ++ ns) (length xs) ≡ w + words_in (tolds_in xs)
words_end_lem [] ys w s ns = sym (add-zero w)
words_end_lem (x ∷ xs) ys w s ns =
    let e = w + length x.told.words in
    let f = s + length x.told.phones in
    words_step e f x.kept x.token.phone x.token.seq (numbers_from e f (xs ++ ys) ++ ns) (length xs) ∙ words_end_lem xs ys e f ns ∙ (omega arith)

segments_end_lem : (xs ys : List Line) (w s : ℕ) (ns : List ℕ) → end_from s 1 (numbers_from w s (xs ++ ys) ++ ns) (length xs) ≡ s + phones_in (tolds_in xs)
segments_end_lem [] ys w s ns = sym (add-zero s)
segments_end_lem (x ∷ xs) ys w s ns =
    let e = w + length x.told.words in
    let f = s + length x.told.phones in
    segments_step e f x.kept x.token.phone x.token.seq (numbers_from e f (xs ++ ys) ++ ns) (length xs) ∙ segments_end_lem xs ys e f ns ∙ (omega arith)

words_ends : (ns : List ℕ) (i : ℕ) → words_end ns i ≡ end_from 0 0 ns i
words_ends ns zero = refl
words_ends ns (suc i) = ap (λ (k : ℕ). get_or ns k 0) (sym (add-zero (i * 5)))

segments_ends : (ns : List ℕ) (i : ℕ) → segments_end ns i ≡ end_from 0 1 ns i
segments_ends ns zero = refl
segments_ends ns (suc i) = refl

-- ---- one line

abbrev pub reading_for : Line → Reading
reading_for x = record { words = x.told.words; rank = x.rank; cost = x.told.cost; kept = x.kept; token_cost = x.token.cost; token_graph = x.token.graph; token_phone = pos x.token.phone; token_seq = x.token.seq }

more_less : (w n : ℕ) → w + n - w ≡ n
more_less w n = omega arith

module _ (xs : List Line) (x : Line) (ys : List Line) {o o' : Outputs} (f : Filled (xs ++ x ∷ ys) o o') where
  abbrev told : List Told
  told = tolds_in xs

  abbrev all : List Line
  all = xs ++ x ∷ ys

  abbrev rest_of : List ℕ
  rest_of = drop (length (numbers_from 0 0 all)) o.numbers

  number : (j : ℕ) → get_or o'.numbers (length xs * 5 + j) 0 ≡ get_or (numbers_from (words_in told) (phones_in told) (x ∷ ys) ++ rest_of) j 0
  number j =
      ap (λ (l : List ℕ). get_or l (length xs * 5 + j) 0) f.numbers
      ∙ at_behind (numbers_from 0 0 all) (numbers_from 0 0 xs) (numbers_from (0 + words_in told) (0 + phones_in told) (x ∷ ys)) rest_of (length xs * 5) j 0 (numbers-append xs (x ∷ ys) 0 0) (numbers_long 0 0 xs)
      ∙ ap₂ (λ (a b : ℕ). get_or (numbers_from a b (x ∷ ys) ++ rest_of) j 0) (omega arith) (omega arith)

  cost : (j : ℕ) → get_or o'.costs (length xs * 4 + j) nan ≡ get_or (costs_of (x ∷ ys) ++ drop (length (costs_of all)) o.costs) j nan
  cost j =
      ap (λ (l : List Float). get_or l (length xs * 4 + j) nan) f.costs
      ∙ at_behind (costs_of all) (costs_of xs) (costs_of (x ∷ ys)) (drop (length (costs_of all)) o.costs) (length xs * 4) j nan (costs-append xs (x ∷ ys)) (costs_long xs)

  begins : words_end o'.numbers (length xs) ≡ words_in told
  begins = words_ends o'.numbers (length xs) ∙ ap (λ (l : List ℕ). end_from 0 0 l (length xs)) f.numbers ∙ words_end_lem xs (x ∷ ys) 0 0 rest_of ∙ (omega arith)

  begins_segments : segments_end o'.numbers (length xs) ≡ phones_in told
  begins_segments = segments_ends o'.numbers (length xs) ∙ ap (λ (l : List ℕ). end_from 0 1 l (length xs)) f.numbers ∙ segments_end_lem xs (x ∷ ys) 0 0 rest_of ∙ (omega arith)

  ends : words_end o'.numbers (suc (length xs)) ≡ words_in told + length x.told.words
  ends = ap (λ (k : ℕ). get_or o'.numbers k 0) (sym (add-zero (length xs * 5))) ∙ number 0

  ends_segments : segments_end o'.numbers (suc (length xs)) ≡ phones_in told + length x.told.phones
  ends_segments = number 1

  words_behind : drop (words_in told) o'.words ≡ x.told.words ++ (all_words (tolds_in ys) ++ drop (length (all_words (tolds_in all))) o.words)
  words_behind =
      ap (drop (words_in told)) f.words
      ∙ behind (all_words (tolds_in all)) (all_words told) x.told.words (all_words (tolds_in ys)) (drop (length (all_words (tolds_in all))) o.words) (words_in told) (ap all_words (tolds-append xs (x ∷ ys)) ∙ words_append told (tolds_in (x ∷ ys))) (words_long told)

  words_at : take (words_end o'.numbers (suc (length xs)) - words_end o'.numbers (length xs)) (drop (words_end o'.numbers (length xs)) o'.words) ≡ x.told.words
  words_at =
      (λ i. take (ends i - begins i) (drop (begins i) o'.words))
      ∙ ap₂ take (more_less (words_in told) (length x.told.words)) words_behind ∙ take_at x.told.words (all_words (tolds_in ys) ++ drop (length (all_words (tolds_in all))) o.words) (length x.told.words) refl

  reading_at_lem : reading_at o' (length xs) ≡ reading_for x
  reading_at_lem i =
      record {
        words = words_at i;
        rank = (ap (λ (k : ℕ). get_or o'.costs k nan) (sym (add-zero (length xs * 4))) ∙ cost 0) i;
        cost = cost 1 i;
        kept = number 2 i;
        token_cost = cost 2 i;
        token_graph = cost 3 i;
        token_phone = pos (number 3 i);
        token_seq = number 4 i;
      }

  -- traced, as all in front of it
  module _ (even : frames_in told ≡ words_in told) (plain : Plain x.told) where
    frames_behind : drop (words_in told) o'.frames ≡ x.told.word_frames ++ (all_frames (tolds_in ys) ++ drop (length (all_frames (tolds_in all))) o.frames)
    frames_behind =
        ap (drop (words_in told)) f.frames
        ∙ behind (all_frames (tolds_in all)) (all_frames told) x.told.word_frames (all_frames (tolds_in ys)) (drop (length (all_frames (tolds_in all))) o.frames) (words_in told)
        (ap all_frames (tolds-append xs (x ∷ ys)) ∙ frames-append told (tolds_in (x ∷ ys))) (frames_long told ∙ even)

    segments_behind : drop (phones_in told * 3) o'.segments ≡ flat x.told.phones ++ (all_segments (tolds_in ys) ++ drop (length (all_segments (tolds_in all))) o.segments)
    segments_behind =
        ap (drop (phones_in told * 3)) f.segments
        ∙ behind (all_segments (tolds_in all)) (all_segments told) (flat x.told.phones) (all_segments (tolds_in ys)) (drop (length (all_segments (tolds_in all))) o.segments) (phones_in told * 3)
        (ap all_segments (tolds-append xs (x ∷ ys)) ∙ segments-append told (tolds_in (x ∷ ys))) (segments_long told)

    frames_at : take (words_end o'.numbers (suc (length xs)) - words_end o'.numbers (length xs)) (drop (words_end o'.numbers (length xs)) o'.frames) ≡ x.told.word_frames
    frames_at =
        (λ i. take (ends i - begins i) (drop (begins i) o'.frames))
        ∙ ap₂ take (more_less (words_in told) (length x.told.words)) frames_behind
        ∙ take_at x.told.word_frames (all_frames (tolds_in ys) ++ drop (length (all_frames (tolds_in all))) o.frames) (length x.told.words) plain.as_many

    segments_at : segments_in (segments_end o'.numbers (suc (length xs)) - segments_end o'.numbers (length xs)) (drop (segments_end o'.numbers (length xs) * 3) o'.segments) ≡ x.told.phones
    segments_at =
        (λ i. segments_in (ends_segments i - begins_segments i) (drop (begins_segments i * 3) o'.segments))
        ∙ ap₂ segments_in (more_less (phones_in told) (length x.told.phones)) segments_behind ∙ plain.back (all_segments (tolds_in ys) ++ drop (length (all_segments (tolds_in all))) o.segments)

    trace_at_lem : trace_at o' (length xs) ≡ x.told
    trace_at_lem i = record { words = words_at i; word_frames = frames_at i; phones = segments_at i; cost = cost 1 i }

-- ---- all of them

one_more : (xs : List Line) (x : Line) (ys : List Line) → xs ++ x ∷ ys ≡ (xs ++ x ∷ []) ++ ys
one_more xs x ys = sym (append_assoc xs (x ∷ []) ys)

longer : (xs : List Line) (x : Line) → length (xs ++ x ∷ []) ≡ suc (length xs)
longer xs x = length-append xs (x ∷ []) ∙ (omega arith)

module _ {o o' : Outputs} where
  readings_back : (xs ys : List Line) → Filled (xs ++ ys) o o' → map (reading_at o') (range (length xs) (length ys)) ≡ map reading_for ys
  readings_back xs [] f = refl
  readings_back xs (y ∷ ys) f =
      ap₂ (λ (r : Reading) (rs : List Reading). r ∷ rs) (reading_at_lem xs y ys f)
      (ap (λ (k : ℕ). map (reading_at o') (range k (length ys))) (sym (longer xs y)) ∙ readings_back (xs ++ y ∷ []) ys (subst (λ (l : List Line). Filled l o o') (one_more xs y ys) f))

  traces_back : (xs ys zs : List Line) → Filled (xs ++ (ys ++ zs)) o o' → frames_in (tolds_in xs) ≡ words_in (tolds_in xs) → Plains (tolds_in ys) → map (trace_at o') (range (length xs) (length ys)) ≡ tolds_in ys
  traces_back xs [] zs f e p = refl
  traces_back xs (y ∷ ys) zs f e p =
      let even : frames_in (tolds_in (xs ++ y ∷ [])) ≡ words_in (tolds_in (xs ++ y ∷ [])) =
      ap frames_in (tolds_more xs y) ∙ frames-sum y.told (tolds_in xs) ∙ ap₂ (λ (a b : ℕ). a + b) e p.0.as_many ∙ sym (words-sum y.told (tolds_in xs)) ∙ ap words_in (sym (tolds_more xs y)) in
      ap₂ (λ (t : Told) (ts : List Told). t ∷ ts) (trace_at_lem xs y (ys ++ zs) f e p.0)
      (ap (λ (k : ℕ). map (trace_at o') (range k (length ys))) (sym (longer xs y)) ∙ traces_back (xs ++ y ∷ []) ys zs (subst (λ (l : List Line). Filled l o o') (one_more xs y (ys ++ zs)) f) even p.1)

  filled_readings : (xs : List Line) → Filled xs o o' → readings_in (length xs) o' ≡ map reading_for xs
  filled_readings xs f = readings_back [] xs f

  filled_traces : (xs ys : List Line) → Filled (xs ++ ys) o o' → Plains (tolds_in xs) → traces_in (length xs) o' ≡ tolds_in xs
  filled_traces xs ys f p = traces_back [] xs ys f refl p

-- ---- readings and traces as lines

abbrev line_for : Reading → (frames : List ℕ) → List Segment → Line
line_for r fs ps =
    record {
      told = record { words = r.words; word_frames = fs; phones = ps; cost = r.cost };
      rank = r.rank;
      kept = r.kept;
      token = record { cost = r.token_cost; graph = r.token_graph; link = 0; phone = nat_abs r.token_phone; seq = r.token_seq };
    }

abbrev lines_for : List Reading → List Told → List Line
lines_for [] ts = []
lines_for (r ∷ rs) [] = line_for r [] [] ∷ lines_for rs []
lines_for (r ∷ rs) (t ∷ ts) = line_for r t.word_frames t.phones ∷ lines_for rs ts

words_for : (rs : List Reading) (ts : List Told) → all_words (tolds_in (lines_for rs ts)) ≡ words_of rs
words_for [] ts = refl
words_for (r ∷ rs) [] = ap (λ (l : List ℤ). r.words ++ l) (words_for rs [])
words_for (r ∷ rs) (t ∷ ts) = ap (λ (l : List ℤ). r.words ++ l) (words_for rs ts)

frames_for : (rs : List Reading) (ts : List Told) → Traces ts rs → all_frames (tolds_in (lines_for rs ts)) ≡ all_frames ts
frames_for [] [] h = refl
frames_for [] (t ∷ ts) h = elim h [ ]
frames_for (r ∷ rs) [] h = frames_for rs [] tt
frames_for (r ∷ rs) (t ∷ ts) h = ap (λ (l : List ℕ). t.word_frames ++ l) (frames_for rs ts h.2)

segments_for : (rs : List Reading) (ts : List Told) → Traces ts rs → all_segments (tolds_in (lines_for rs ts)) ≡ all_segments ts
segments_for [] [] h = refl
segments_for [] (t ∷ ts) h = elim h [ ]
segments_for (r ∷ rs) [] h = segments_for rs [] tt
segments_for (r ∷ rs) (t ∷ ts) h = ap (λ (l : List ℕ). flat t.phones ++ l) (segments_for rs ts h.2)

numbers_for : (w s : ℕ) (rs : List Reading) (ts : List Told) → numbers_from w s (lines_for rs ts) ≡ numbers_of w s rs ts
numbers_for w s [] ts = refl
numbers_for w s (r ∷ rs) [] =
    ap (λ (d : ℕ). (w + length r.words) ∷ d ∷ r.kept ∷ nat_abs r.token_phone ∷ r.token_seq ∷ numbers_from (w + length r.words) d (lines_for rs [])) (add-zero s)
    ∙ ap (λ (l : List ℕ). (w + length r.words) ∷ s ∷ r.kept ∷ nat_abs r.token_phone ∷ r.token_seq ∷ l) (numbers_for (w + length r.words) s rs [])
numbers_for w s (r ∷ rs) (t ∷ ts) =
    let e = w + length r.words in
    let d = s + length t.phones in
    ap (λ (l : List ℕ). e ∷ d ∷ r.kept ∷ nat_abs r.token_phone ∷ r.token_seq ∷ l) (numbers_for e d rs ts)

costs_for : (rs : List Reading) (ts : List Told) → costs_of (lines_for rs ts) ≡ output_costs rs
costs_for [] ts = refl
costs_for (r ∷ rs) [] = ap (λ (l : List Float). r.rank ∷ r.cost ∷ r.token_cost ∷ r.token_graph ∷ l) (costs_for rs [])
costs_for (r ∷ rs) (t ∷ ts) = ap (λ (l : List Float). r.rank ∷ r.cost ∷ r.token_cost ∷ r.token_graph ∷ l) (costs_for rs ts)

-- the lines give back the readings
reading_for_lem : (r : Reading) (fs : List ℕ) (ps : List Segment) → pos (nat_abs r.token_phone) ≡ r.token_phone → reading_for (line_for r fs ps) ≡ r
reading_for_lem r fs ps e i = record { words = r.words; rank = r.rank; cost = r.cost; kept = r.kept; token_cost = r.token_cost; token_graph = r.token_graph; token_phone = e i; token_seq = r.token_seq }

readings_for : (rs : List Reading) (ts : List Told) → Phones rs → map reading_for (lines_for rs ts) ≡ rs
readings_for [] ts p = refl
readings_for (r ∷ rs) [] p = ap₂ (λ (x : Reading) (xs : List Reading). x ∷ xs) (reading_for_lem r [] [] p.0) (readings_for rs [] p.1)
readings_for (r ∷ rs) (t ∷ ts) p = ap₂ (λ (x : Reading) (xs : List Reading). x ∷ xs) (reading_for_lem r t.word_frames t.phones p.0) (readings_for rs ts p.1)

-- and the first of them the traces
traces_for : (rs : List Reading) (ts : List Told) → Traces ts rs → tolds_in (take (length ts) (lines_for rs ts)) ≡ ts
traces_for [] [] h = refl
traces_for [] (t ∷ ts) h = elim h [ ]
traces_for (r ∷ rs) [] h = refl
traces_for (r ∷ rs) (t ∷ ts) h = ap₂ (λ (x : Told) (xs : List Told). x ∷ xs) (λ i. record { words = sym h.0 i; word_frames = t.word_frames; phones = t.phones; cost = sym h.1 i }) (traces_for rs ts h.2)

module _ {rs : List Reading} {ts : List Told} {o o' : Outputs} (h : Traces ts rs) (f : Holds rs ts o o') where
  lines_filled : Filled (lines_for rs ts) o o'
  lines_filled =
      record {
        words = f.words ∙ ap (front o.words) (sym (words_for rs ts));
        frames = f.frames ∙ ap (front o.frames) (sym (frames_for rs ts h));
        segments = f.segments ∙ ap (front o.segments) (sym (segments_for rs ts h));
        numbers = f.numbers ∙ ap (front o.numbers) (sym (numbers_for 0 0 rs ts));
        costs = f.costs ∙ ap (front o.costs) (sym (costs_for rs ts));
      }

  held_readings : Phones rs → readings_in (length rs) o' ≡ rs
  held_readings p =
      let e = readings_for rs ts p in
      ap (λ (k : ℕ). readings_in k o') (ap length (sym e) ∙ length-map (lines_for rs ts) reading_for) ∙ filled_readings (lines_for rs ts) lines_filled ∙ e

  held_traces : Plains ts → traces_in (length ts) o' ≡ ts
  held_traces p =
      let xs = lines_for rs ts in
      let n = length ts in
      let e = traces_for rs ts h in
      ap (λ (k : ℕ). traces_in k o') (ap length (sym e) ∙ length-map (take n xs) (λ (x : Line). x.told))
      ∙ filled_traces (take n xs) (drop n xs) (subst (λ (l : List Line). Filled l o o') (sym (take-append-drop n xs)) lines_filled) (subst Plains (sym e) p) ∙ e

-- what was listed is read back
pub list_back : {a : Answer} {max : ℕ} {o o' : Outputs} {r : Result ℕ Reason} → ReadingsAre a max o o' r → list_as max r o' ≡ a
list_back (readings_refused n e q) = sym e
list_back {o' = o'} (readings_listed rs ts e g f) = ap₂ readings_answer (held_readings g.traces f g.phones) (ap (λ (k : ℕ). traces_in k o') (sym g.many) ∙ held_traces g.traces f g.plains) ∙ sym e

-- no reading is counted that the answer does not have
pub list_count : {rs : List Reading} {ts : List Told} {max : ℕ} {o o' : Outputs} {k : ℕ} → ReadingsAre (readings_answer rs ts) max o o' (Ok k) → k ≡ length rs
list_count {rs} (readings_listed qs us e g f) = let q : qs ≡ rs = cc in ap length q
