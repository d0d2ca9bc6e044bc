-- What is written is the definition's answer. Assumes nothing.
use Rattle.std.specs.Prelude.{◌≡◌, refl, ℕ, zero, suc, ◌+◌, ◌≤◌, ◌<◌, Bool, true, false, ◌||◌, cond, List, [], ◌∷◌, ◌++◌, map, ℤ, get_or, take, Float, Ok}
use Rattle.std.proofs.Common.{sym, ◌∙◌, subst, arith, add-zero, length-take-le, get_or-take, take_all, lt-ltb, le-ltb}
use Rattle.std.proofs.Math.Path.{ap, ap₂}
use Rattle.std.proofs.Math.Option.{Option}
use mathlib.Core.List.Memᴰ.{head as here}
use mathlib.Core.List.Memᴰ.{tail as there}
use Rattle.std.proofs.lemmas.Simd.{map-map}
use Rattle.std.proofs.Math.Dec.{ltb}
use Rattle.std.proofs.Math.ListN.{length}
use Rattle.std.proofs.lemmas.List.{length-map}
use Rattle.lists.specs.Tests.{case, lt_or_le}
use Rattle.lists.specs.Lists.{◌∈◌, sum}
use Rattle.lists.specs.Members.{member_at}
use Rattle.model.specs.Basics.{refuse, first_of, over}
use Rattle.model.specs.Path.{Limits}
use Rattle.model.specs.Reads.{Segment, Traced as Told, trace, trace_groups, Group}
use Rattle.model.specs.Readings.{readings}
use Rattle.model.specs.Calls.{Reading, Answer, readings_answer, reading_of, short, words_of, unless, read_readings}
use Rattle.below.specs.Maps.{take_map}
use Rattle.traceback.specs.Write.{flat}
use Rattle.readings.specs.Paths.{lesser_of, frames_in, phones_in, front, all_words, all_frames, all_segments, Plain, Plains}
use Rattle.listing_laws.specs.Situation.{Situation}
use Rattle.listing.specs.Listed.{overfull, ListIs}
use Rattle.reading_list.specs.Outputs.{Outputs, places_in, words_of as output_words, numbers_of, costs_of as output_costs, Traces, Phones}
use Rattle.reading_list.specs.Right.{Agree, Filled as Holds, ReadingsAre, readings_listed, StoresHold}
use Rattle.reading_list.specs.Lines.{Line, lines_by, tolds_in, View, view, line_in, lines_in, numbers_from, costs_of, Filled}
use Rattle.reading_list.specs.Fronts.{many_lines}
use Rattle.reading_list.specs.Back.{reading_for}
use Rattle.reading_list.specs.Groups.{group, reading_is, told_is, plain_is, item_is}

-- ---- lines, one by one

module _ (f : ℕ → (traced : Bool) → Line) where
  lines-map : {B : Type 0} (r : Line → B) (g : ℕ → B) (max : ℕ) (xs : List ℕ) → ((x : ℕ) → x ∈ xs → (c : Bool) → r (f x c) ≡ g x) → map r (lines_by f max xs) ≡ map g xs
  lines-map r g max [] e = refl
  lines-map {B} r g zero (x ∷ xs) e = ap₂ (λ (y : B) (l : List B). y ∷ l) (e x (here refl) false) (lines-map r g zero xs (λ y m. e y (there m)))
  lines-map {B} r g (suc max) (x ∷ xs) e = ap₂ (λ (y : B) (l : List B). y ∷ l) (e x (here refl) true) (lines-map r g max xs (λ y m. e y (there m)))

  first_tolds : (g : ℕ → Told) (max : ℕ) (xs : List ℕ) → ((x : ℕ) → x ∈ xs → (f x true).told ≡ g x) → tolds_in (take max (lines_by f max xs)) ≡ map g (take max xs)
  first_tolds g zero [] e = refl
  first_tolds g zero (x ∷ xs) e = refl
  first_tolds g (suc max) [] e = refl
  first_tolds g (suc max) (x ∷ xs) e = ap₂ (λ (t : Told) (ts : List Told). t ∷ ts) (e x (here refl)) (first_tolds g max xs (λ y m. e y (there m)))

  first_plain : (max : ℕ) (xs : List ℕ) → ((x : ℕ) → x ∈ xs → Plain (f x true).told) → Plains (tolds_in (take max (lines_by f max xs)))
  first_plain zero [] p = tt
  first_plain zero (x ∷ xs) p = tt
  first_plain (suc max) [] p = tt
  first_plain (suc max) (x ∷ xs) p = (p x (here refl), first_plain max xs (λ y m. p y (there m)))

  -- what is not traced does not count
  module _ (one : Told → ℕ) (none : (x : ℕ) → one (f x false).told ≡ 0) where
    untraced : (xs : List ℕ) → sum (map one (tolds_in (lines_by f zero xs))) ≡ 0
    untraced [] = refl
    untraced (x ∷ xs) = let a = none x in let b = untraced xs in omega arith

    traced-sum : (max : ℕ) (xs : List ℕ) → sum (map one (tolds_in (take max (lines_by f max xs)))) ≡ sum (map one (tolds_in (lines_by f max xs)))
    traced-sum zero [] = refl
    traced-sum zero (x ∷ xs) = sym (untraced (x ∷ xs))
    traced-sum (suc max) [] = refl
    traced-sum (suc max) (x ∷ xs) = ap (λ (k : ℕ). one (f x true).told + k) (traced-sum max xs)

-- ---- lines as readings and traces

lines_words : (xs : List Line) → all_words (tolds_in xs) ≡ output_words (map reading_for xs)
lines_words [] = refl
lines_words (x ∷ xs) = ap (λ (l : List ℤ). x.told.words ++ l) (lines_words xs)

lines_costs : (xs : List Line) → costs_of xs ≡ output_costs (map reading_for xs)
lines_costs [] = refl
lines_costs (x ∷ xs) = ap (λ (l : List Float). x.rank ∷ x.told.cost ∷ x.token.cost ∷ x.token.graph ∷ l) (lines_costs xs)

lines_phones : (xs : List Line) → Phones (map reading_for xs)
lines_phones [] = tt
lines_phones (x ∷ xs) = (refl, lines_phones xs)

lines_traces : (max : ℕ) (xs : List Line) → Traces (tolds_in (take max xs)) (map reading_for xs)
lines_traces zero [] = tt
lines_traces zero (x ∷ xs) = tt
lines_traces (suc max) [] = tt
lines_traces (suc max) (x ∷ xs) = (refl, refl, lines_traces max xs)

-- where the traced ones come first
module _ (f : ℕ → (traced : Bool) → Line) (no_frames : (x : ℕ) → (f x false).told.word_frames ≡ []) (no-phones : (x : ℕ) → (f x false).told.phones ≡ []) where
  lines_frames : (max : ℕ) (xs : List ℕ) → all_frames (tolds_in (lines_by f max xs)) ≡ all_frames (tolds_in (take max (lines_by f max xs)))
  lines_frames zero [] = refl
  lines_frames zero (x ∷ xs) = ap (λ (l : List ℕ). l ++ all_frames (tolds_in (lines_by f zero xs))) (no_frames x) ∙ rest xs
    where
      rest : (ys : List ℕ) → all_frames (tolds_in (lines_by f zero ys)) ≡ []
      rest [] = refl
      rest (y ∷ ys) = ap (λ (l : List ℕ). l ++ all_frames (tolds_in (lines_by f zero ys))) (no_frames y) ∙ rest ys
  lines_frames (suc max) [] = refl
  lines_frames (suc max) (x ∷ xs) = ap (λ (l : List ℕ). (f x true).told.word_frames ++ l) (lines_frames max xs)

  lines_segments : (max : ℕ) (xs : List ℕ) → all_segments (tolds_in (lines_by f max xs)) ≡ all_segments (tolds_in (take max (lines_by f max xs)))
  lines_segments zero [] = refl
  lines_segments zero (x ∷ xs) = ap (λ (l : List Segment). flat l ++ all_segments (tolds_in (lines_by f zero xs))) (no-phones x) ∙ rest xs
    where
      rest : (ys : List ℕ) → all_segments (tolds_in (lines_by f zero ys)) ≡ []
      rest [] = refl
      rest (y ∷ ys) = ap (λ (l : List Segment). flat l ++ all_segments (tolds_in (lines_by f zero ys))) (no-phones y) ∙ rest ys
  lines_segments (suc max) [] = refl
  lines_segments (suc max) (x ∷ xs) = ap (λ (l : List ℕ). flat (f x true).told.phones ++ l) (lines_segments max xs)

  lines_numbers : (max : ℕ) (xs : List ℕ) (w s : ℕ) → numbers_from w s (lines_by f max xs) ≡ numbers_of w s (map reading_for (lines_by f max xs)) (tolds_in (take max (lines_by f max xs)))
  lines_numbers max [] w s = refl
  lines_numbers zero (x ∷ xs) w s =
      let y = f x false in
      let e = w + length y.told.words in
      ap (λ (d : ℕ). e ∷ d ∷ y.kept ∷ y.token.phone ∷ y.token.seq ∷ numbers_from e d (lines_by f zero xs)) (ap (λ (l : List Segment). s + length l) (no-phones x) ∙ add-zero s)
      ∙ ap (λ (l : List ℕ). e ∷ s ∷ y.kept ∷ y.token.phone ∷ y.token.seq ∷ l) (lines_numbers zero xs e s ∙ ap (λ (ts : List Told). numbers_of e s (map reading_for (lines_by f zero xs)) ts) (none (lines_by f zero xs)))
    where
      none : (l : List Line) → tolds_in (take zero l) ≡ []
      none [] = refl
      none (z ∷ l) = refl
  lines_numbers (suc max) (x ∷ xs) w s =
      let y = f x true in
      let e = w + length y.told.words in
      let d = s + length y.told.phones in
      ap (λ (l : List ℕ). e ∷ d ∷ y.kept ∷ y.token.phone ∷ y.token.seq ∷ l) (lines_numbers max xs e d)

first_many : (max : ℕ) (xs : List Line) → length (take max xs) ≡ lesser_of max (length xs)
first_many max xs =
    case (lt_or_le (length xs) max) (λ l. ap length (take_all max xs (omega arith)) ∙ sym (ap (λ (b : Bool). cond b (length xs) max) (lt-ltb (length xs) max l)))
    (λ l. length-take-le max xs l ∙ sym (ap (λ (b : Bool). cond b (length xs) max) (le-ltb (length xs) max l)))

for_each : (list : List ℕ) (k : ℕ) → k ≤ length list → (P : ℕ → Type 0) → ((i : ℕ) → i < k → P (get_or list i 0)) → (x : ℕ) → x ∈ take k list → P x
for_each list k l P p x m =
    let (i, h, e) = member_at (take k list) x 0 m in
    let z = length-take-le k list l in
    let j : i < k = omega arith in
    subst P (sym (get_or-take k list i 0 j) ∙ e) (p i j)

-- ---- what was written

module _ {tk : List ℕ} {sm fs : List Float} {rs : List ℕ} {ls : List ℤ} {gs : List Float} {n b used : ℕ} {keeps : Bool} {margin : Float} (S : Situation tk sm fs rs ls gs n b used keeps margin) {counts use_final : Bool} {listed : ℕ} {hs ns : List ℕ} {xs : List Float}
    {khs kns : List ℕ} {kxs : List Float} {list : List ℕ} {k : ℕ} (L : ListIs S counts use_final listed hs ns xs khs kns kxs list k) (long : k ≤ length list) (decoded max : ℕ) where
  abbrev seen : View
  seen = view tk sm fs rs ls ns khs kns kxs b used decoded counts

  abbrev lines : List Line
  lines = lines_in seen max list k

  abbrev tolds : List Told
  tolds = tolds_in lines

  abbrev groups : List Group
  groups = (readings S.g S.st use_final listed).groups

  -- the readings
  readings_are : map reading_of groups ≡ map reading_for lines
  readings_are =
      ap (map reading_of) (sym L.are) ∙ map-map reading_of (group S L long) (take k list)
      ∙ sym
      (lines-map (line_in seen) reading_for (λ (i : ℕ). reading_of (group S L long i)) max (take k list)
      (for_each list k long (λ (i : ℕ). (c : Bool) → reading_for (line_in seen i c) ≡ reading_of (group S L long i)) (λ i l c. sym (reading_is S counts L.decoded (item_is S L long i l) decoded c))))

  words_are : map (λ (g : Group). g.words) groups ≡ words_of tolds
  words_are =
      sym (map-map (λ (r : Reading). r.words) reading_of groups) ∙ ap (map (λ (r : Reading). r.words)) readings_are ∙ map-map (λ (r : Reading). r.words) reading_for lines ∙ sym (map-map (λ (t : Told). t.words) (λ (x : Line). x.told) lines)

  many : length groups ≡ k
  many = ap length (sym L.are) ∙ length-map (take k list) (group S L long) ∙ length-take-le k list long

  -- the traces of the first
  traces_are : S.st.frames ≡ decoded → trace_groups S.st max groups ≡ tolds_in (take max lines)
  traces_are e =
      let tell : Group → Told = λ (g : Group). trace decoded g.route g.token.path g.cost in
      ap (λ (d : ℕ). map (λ (g : Group). trace d g.route g.token.path g.cost) (take max groups)) e ∙ ap (λ (l : List Group). map tell (take max l)) (sym L.are)
      ∙ ap (map tell) (take_map (group S L long) max (take k list)) ∙ map-map tell (group S L long) (take max (take k list))
      ∙ sym
      (first_tolds (line_in seen) (λ (i : ℕ). tell (group S L long i)) max (take k list)
      (for_each list k long (λ (i : ℕ). (line_in seen i true).told ≡ tell (group S L long i)) (λ i l. sym (told_is S counts L.decoded (item_is S L long i l) decoded))))

  frames_same : frames_in (tolds_in (take max lines)) ≡ frames_in tolds
  frames_same = traced-sum (line_in seen) (λ (t : Told). length t.word_frames) (λ x. refl) max (take k list)

  phones_same : phones_in (tolds_in (take max lines)) ≡ phones_in tolds
  phones_same = traced-sum (line_in seen) (λ (t : Told). length t.phones) (λ x. refl) max (take k list)

  short_same : S.st.frames ≡ decoded → (o : Outputs) → short (places_in o) (map (λ (g : Group). g.words) groups) (trace_groups S.st max groups) (length groups) ≡ short (places_in o) (words_of tolds) tolds k
  unfolding short
  short_same e o =
      let p = places_in o in
      let fr : frames_in (trace_groups S.st max groups) ≡ frames_in tolds = ap frames_in (traces_are e) ∙ frames_same in
      let ph : phones_in (trace_groups S.st max groups) ≡ phones_in tolds = ap phones_in (traces_are e) ∙ phones_same in
      λ i. ((ltb p.words (sum (map length (words_are i))) || ltb p.frames (fr i)) || ltb p.segments (ph i)) || ltb p.entries (many i)

  -- the definition's answer, by what was measured
  pub answer_is : S.st.frames ≡ decoded → (l : Limits) {entries kept : ℕ} → StoresHold l entries kept → (o : Outputs) {w x y : Bool} → (ltb 64 listed || ltb 64 max) ≡ w → overfull S use_final listed entries kept ≡ x → short (places_in o) (words_of tolds) tolds k ≡ y
      → read_readings S.g l S.st use_final listed max (places_in o)
      ≡ unless (first_of (refuse 6 w ∷ refuse 15 x ∷ refuse 11 y ∷ [])) (readings_answer (map reading_for lines) (tolds_in (take max lines)))
  unfolding read_readings
  answer_is e l h o many full small =
      let r = readings S.g S.st use_final listed in
      let q = ap₂ (λ (a c : Option ℕ). over r.belows a || over r.kepts c) h.below h.kept_are ∙ full in
      let s = short_same e o ∙ small in
      λ i. unless (first_of (refuse 6 (many i) ∷ refuse 15 (q i) ∷ refuse 11 (s i) ∷ [])) (readings_answer (readings_are i) (traces_are e i))

  -- ---- what the slices hold

  module _ {o o' : Outputs} (f : Filled lines o o') where
    plains : Plains (tolds_in (take max lines))
    plains =
        first_plain (line_in seen) max (take k list)
        (for_each list k long (λ (i : ℕ). Plain (line_in seen i true).told) (λ i l. plain_is S counts L.decoded (item_is S L long i l) decoded _))

    as_many : length lines ≡ k
    as_many = many_lines (line_in seen) max k list long

    agree : Agree max (map reading_for lines) (tolds_in (take max lines))
    agree =
        record {
          many = length-map (take max lines) (λ (x : Line). x.told) ∙ first_many max lines ∙ ap (lesser_of max) (sym (length-map lines reading_for));
          traces = lines_traces max lines;
          plains = plains;
          phones = lines_phones lines;
        }

    holds : Holds (map reading_for lines) (tolds_in (take max lines)) o o'
    holds =
        record {
          words = f.words ∙ ap (front o.words) (lines_words lines);
          frames = f.frames ∙ ap (front o.frames) (lines_frames (line_in seen) (λ x. refl) (λ x. refl) max (take k list));
          segments = f.segments ∙ ap (front o.segments) (lines_segments (line_in seen) (λ x. refl) (λ x. refl) max (take k list));
          numbers = f.numbers ∙ ap (front o.numbers) (lines_numbers (line_in seen) (λ x. refl) (λ x. refl) max (take k list) 0 0);
          costs = f.costs ∙ ap (front o.costs) (lines_costs lines);
        }

    pub readings_are_listed : {a : Answer} → a ≡ readings_answer (map reading_for lines) (tolds_in (take max lines)) → ReadingsAre a max o o' (Ok k)
    readings_are_listed {a} e = subst (λ (j : ℕ). ReadingsAre a max o o' (Ok j)) (length-map lines reading_for ∙ as_many) (readings_listed (map reading_for lines) (tolds_in (take max lines)) e agree holds)
