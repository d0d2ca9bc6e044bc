-- The readings written so far. Assumes nothing.
use Rattle.std.specs.Prelude.{◌≡◌, refl, ◌⊎◌, ℕ, ◌+◌, ◌/◌, ◌≤◌, ◌<◌, Bool, true, false, cond, List, [], ◌∷◌, ◌++◌, ltb, length, get_or, Ok, Err}
use Rattle.std.proofs.Common.{sym, ◌∙◌, ap, subst, inl, inr, arith, ltb-true, le-ltb}
use Rattle.lists.specs.Tests.{case, lt_or_le}
use Rattle.model.specs.Reads.{Traced as Told}
use Rattle.model.specs.Calls.{short, words_of}
use Rattle.readings.specs.Paths.{words_in, frames_in, phones_in, all_words, all_frames, all_segments}
use Rattle.readings.specs.Fronts.{words_long, frames_long, segments_long}
use Rattle.readings.specs.Writing.{front_fits}
use Rattle.reading_list.specs.declared.Reading.{Reading}
use Rattle.reading_list.specs.declared.Totals.{Totals}
use Rattle.reading_list.specs.Outputs.{Outputs, places_in}
use Rattle.reading_list.specs.Lines.{View, Line, tolds_in, line_of, line_in, reading_in, trail_in, lines_in, ListAsks, totals_by, TotalsAre, too_short, numbers_from, costs_of, RoomFor, Filled, LineAsks, LinePut, WriteAsks, ListWritten, no_room, are_written}
use Rattle.reading_list.specs.Fronts.{many_lines, fewer, numbers_long, costs_long, filled_none, filled_next}
use Rattle.reading_list.specs.Totals.{path_again, even_upto, next_lines, words_next, phones_next, short_is, room_for}
use Rattle.refusals.specs.declared.Reason.TheVariants.{TooShort}

-- lengths stay
pub record Long (o o' : Outputs) : Type 0 where
  pub words : length o'.words ≡ length o.words
  pub frames : length o'.frames ≡ length o.frames
  pub segments : length o'.segments ≡ length o.segments
  pub numbers : length o'.numbers ≡ length o.numbers
  pub costs : length o'.costs ≡ length o.costs

filled_long : {xs : List Line} {o o' : Outputs} → Filled xs o o' → RoomFor xs o → Long o o'
filled_long {xs} {o} {o'} f r =
    let ts = tolds_in xs in
    record {
      words = front_fits o.words o'.words (all_words ts) f.words (let a = words_long ts in let z = r.words in omega arith);
      frames = front_fits o.frames o'.frames (all_frames ts) f.frames (let a = frames_long ts in let z = r.frames in omega arith);
      segments = front_fits o.segments o'.segments (all_segments ts) f.segments (let a = segments_long ts in let z = r.segments in omega arith);
      numbers = front_fits o.numbers o'.numbers (numbers_from 0 0 xs) f.numbers (let a = numbers_long 0 0 xs in let z = r.numbers in omega arith);
      costs = front_fits o.costs o'.costs (costs_of xs) f.costs (let a = costs_long xs in let z = r.costs in omega arith);
    }

-- the first i of k readings are written
pub record Going (v : View) (max : ℕ) (list : List ℕ) (k i : ℕ) (at : Totals) (o o' : Outputs) : Type 0 where
  pub upto : i ≤ k
  pub filled : Filled (lines_in v max list i) o o'
  pub words : at.words ≡ words_in (tolds_in (lines_in v max list i))
  pub segments : at.segments ≡ phones_in (tolds_in (lines_in v max list i))

module _ {v : View} {max : ℕ} {list : List ℕ} {k : ℕ} {route : List ℕ} {o : Outputs} (asks : WriteAsks v max list k route o) where
  abbrev sofar : ℕ → List Line
  sofar i = lines_in v max list i

  abbrev tolds : ℕ → List Told
  tolds i = tolds_in (sofar i)

  pub going_none : Going v max list k 0 (totals_by 0 0 0) o o
  going_none = go list
    where
      go : (xs : List ℕ) → Going v max xs k 0 (totals_by 0 0 0) o o
      go [] = record { upto = omega arith; filled = filled_none o; words = refl; segments = refl }
      go (x ∷ xs) = record { upto = omega arith; filled = filled_none o; words = refl; segments = refl }

  words_fewer : (i j : ℕ) → i ≤ j → words_in (tolds i) ≤ words_in (tolds j)
  words_fewer i j l = fewer (line_in v) (λ (x : Line). length x.told.words) (λ (xs : List Line). words_in (tolds_in xs)) refl (λ x xs. refl) max i j list l

  frames_fewer : (i j : ℕ) → i ≤ j → frames_in (tolds i) ≤ frames_in (tolds j)
  frames_fewer i j l = fewer (line_in v) (λ (x : Line). length x.told.word_frames) (λ (xs : List Line). frames_in (tolds_in xs)) refl (λ x xs. refl) max i j list l

  phones_fewer : (i j : ℕ) → i ≤ j → phones_in (tolds i) ≤ phones_in (tolds j)
  phones_fewer i j l = fewer (line_in v) (λ (x : Line). length x.told.phones) (λ (xs : List Line). phones_in (tolds_in xs)) refl (λ x xs. refl) max i j list l

  many : (i : ℕ) → i ≤ k → length (sofar i) ≡ i
  many i l = many_lines (line_in v) max i list (let a = asks.asks.long in omega arith)

  -- the places of more are places of fewer
  room_less : (i : ℕ) → i ≤ k → RoomFor (sofar i) o
  room_less i l =
      let r = asks.room in
      let a = many i l in
      let b = many k (omega arith) in
      record {
        words = let z = r.words in let y = words_fewer i k l in omega arith;
        frames = let z = r.frames in let y = frames_fewer i k l in omega arith;
        segments = let z = r.segments in let y = phones_fewer i k l in omega arith;
        numbers = let z = r.numbers in omega arith;
        costs = let z = r.costs in omega arith;
      }

  module _ {i : ℕ} {at : Totals} {o' : Outputs} (g : Going v max list k i at o o') where
    pub going_long : Long o o'
    going_long = filled_long g.filled (room_less i g.upto)

    module _ (l : i < k) where
      abbrev line : Line
      line = line_in v (get_or list i 0) (ltb i max)

      next_room : RoomFor (sofar i ++ line ∷ []) o
      next_room = subst (λ (xs : List Line). RoomFor xs o) (next_lines asks.asks max i l) (room_less (i + 1) (omega arith))

      here_asks : {route' : List ℕ} → length route' ≡ length route → LineAsks v.tokens v.sums v.records v.labels v.nexts v.side v.used v.decoded (reading_in v (get_or list i 0)) i (ltb i max) at route' o'
      here_asks e =
          let q = going_long in
          let r = room_less (i + 1) (omega arith) in
          let w = words_next asks.asks max i l in
          let p = phones_next asks.asks max i l in
          let m = many (i + 1) (omega arith) in
          let gw = g.words in
          let gs = g.segments in
          record {
            path = path_again e (asks.asks.paths i l);
            sums = asks.asks.sums i l;
            even = asks.asks.even i l;
            few = (let a = words_fewer i k g.upto in let c = asks.few.0 in omega arith, let a = phones_fewer i k g.upto in let c = asks.few.1 in omega arith);
            words = let a = q.words in let c = r.words in omega arith;
            frames = λ t. let h = ltb-true i max t in let y = even_upto asks.asks max (i + 1) (omega arith) (omega arith) in let a = q.frames in let c = r.frames in omega arith;
            segments = λ t.
                let y : length (cond (ltb i max) (trail_in v (get_or list i 0)).segments []) ≡ length (trail_in v (get_or list i 0)).segments = rw t in
                let a = q.segments in
                let c = r.segments in
                omega arith;
            numbers = let a = q.numbers in let c = r.numbers in omega arith;
            costs = let a = q.costs in let c = r.costs in omega arith;
          }

      here_next : {to : Totals} {o'' : Outputs} → LinePut line i at to o' o'' → Going v max list k (i + 1) to o o''
      here_next {to} {o''} p =
          let gw = g.words in
          let gs = g.segments in
          let fr : (line.told.word_frames ≡ []) ⊎ (frames_in (tolds i) ≡ words_in (tolds i)) =
          case (lt_or_le i max) (λ h. inr (even_upto asks.asks max i (omega arith) (omega arith))) (λ h. inl (ap (λ (b : Bool). cond b (trail_in v (get_or list i 0)).frames []) (le-ltb i max h))) in
          record {
            upto = omega arith;
            filled = subst (λ (xs : List Line). Filled xs o o'') (sym (next_lines asks.asks max i l)) (filled_next g.filled p next_room (sym (many i g.upto)) g.words g.segments fr);
            words = p.to_words ∙ (let w = words_next asks.asks max i l in omega arith);
            segments = p.to_segments ∙ (let w = phones_next asks.asks max i l in omega arith);
          }

      -- as the code reads the item
      module _ {g' : Reading} (is : g' ≡ reading_in v (get_or list i 0)) where
        pub line_asks : {route' : List ℕ} → length route' ≡ length route → LineAsks v.tokens v.sums v.records v.labels v.nexts v.side v.used v.decoded g' i (ltb i max) at route' o'
        line_asks {route'} e = subst (λ (x : Reading). LineAsks v.tokens v.sums v.records v.labels v.nexts v.side v.used v.decoded x i (ltb i max) at route' o') (sym is) (here_asks e)

        pub going_next : {to : Totals} {o'' : Outputs} → LinePut (line_of v.tokens v.sums v.records v.labels v.nexts v.side v.decoded g' (ltb i max)) i at to o' o'' → Going v max list k (i + 1) to o o''
        going_next {to} {o''} p = here_next (subst (λ (x : Reading). LinePut (line_of v.tokens v.sums v.records v.labels v.nexts v.side v.decoded x (ltb i max)) i at to o' o'') is p)

  pub going_done : {i : ℕ} {at : Totals} {o' : Outputs} → Going v max list k i at o o' → k ≤ i → Filled (sofar k) o o'
  going_done {i} {at} {o'} g l = let e : i ≡ k = let z = g.upto in omega arith in subst (λ (j : ℕ). Filled (sofar j) o o') e g.filled

-- ---- the whole list

module _ {v : View} {max : ℕ} {list : List ℕ} {k : ℕ} {route : List ℕ} (asks : ListAsks v list k route) {t : Totals} (are : TotalsAre v max list k t) (o : Outputs) {r : Bool}
    (tested : r ≡ too_short t k (length o.words) (length o.frames) (length o.segments / 3) (length o.numbers / 5) (length o.costs / 4)) where
  short_told : {x : Bool} → r ≡ x → short (places_in o) (words_of (tolds_in (lines_in v max list k))) (tolds_in (lines_in v max list k)) k ≡ x
  short_told e = short_is are asks.long o ∙ sym tested ∙ e

  pub write_asks : r ≡ false → {route' : List ℕ} → length route' ≡ length route → WriteAsks v max list k route' o
  write_asks e q =
      let f = asks.few in
      let w = are.words in
      let s = are.segments in
      record {
        asks = record { few = asks.few; long = asks.long; items = asks.items; paths = λ i l. path_again q (asks.paths i l); sums = asks.sums; even = asks.even };
        few = (let a = are.few.0 in omega arith, let a = are.few.1 in omega arith);
        room = room_for are asks.long o (sym tested ∙ e);
      }

  pub list_refused : r ≡ true → ListWritten v max list k o o (Err TooShort)
  list_refused e = no_room (short_told e) refl

  pub list_written : {o' : Outputs} → r ≡ false → Filled (lines_in v max list k) o o' → ListWritten v max list k o o' (Ok k)
  list_written e f = are_written (short_told e) f
