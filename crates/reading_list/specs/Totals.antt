-- Laws of the sizes of readings together. Assumes nothing.
use Rattle.std.specs.Prelude.{◌≡◌, refl, ℕ, ◌+◌, ◌*◌, ◌/◌, ◌≤◌, ◌<◌, Bool, true, false, ◌||◌, cond, List, [], ◌∷◌, ◌++◌, ℤ, length, get_or, take}
use Rattle.std.proofs.Common.{sym, ◌∙◌, ap, ap₂, subst, arith, div-add-mod', length-take-le, get_or-take, ltb-true, ltb-false, lt-ltb, le-ltb}
use Rattle.std.proofs.Math.Dec.{ltb}
use Rattle.lists.specs.Tests.{case, lt_or_le, or_neither}
use Rattle.model.specs.Reads.{Traced as Told}
use Rattle.model.specs.Calls.{short, words_of}
use Rattle.traceback.specs.declared.Size.{Size}
use Rattle.readings.specs.Paths.{words_in, frames_in, phones_in, lesser_of}
use Rattle.readings.specs.Fronts.{words-sum, frames-sum, phones-sum}
use Rattle.reading_list.specs.declared.Reading.{Reading}
use Rattle.reading_list.specs.declared.Totals.{Totals}
use Rattle.reading_list.specs.Outputs.{Outputs, places_in}
use Rattle.reading_list.specs.Items.{trail_of, PathAsks}
use Rattle.reading_list.specs.Lines.{View, Line, tolds_in, line_in, reading_in, trail_in, lines_in, ListAsks, totals_by, SizeFor, GrowAsks, grown_by, TotalsAre, too_short, RoomFor}
use Rattle.reading_list.specs.Fronts.{line_next, many_lines, even_lines, tolds_more}

-- another route slice of the same length
pub path_again : {tk rs : List ℕ} {ls : List ℤ} {ns : List ℕ} {b used : ℕ} {g : Reading} {route route' : List ℕ} → length route' ≡ length route → PathAsks tk rs ls ns b used g route → PathAsks tk rs ls ns b used g route'
path_again e p =
    let r = p.routed in
    record {
      side = p.side;
      walkable = p.walkable;
      inside = p.inside;
      low = p.low;
      routed = record { h = r.h; used = r.used; hs = r.hs; xs = r.xs; bs = r.bs; decoded = r.decoded; low = r.low; nexts = r.nexts; room = let z = r.room in omega arith };
    }

module _ {v : View} {list : List ℕ} {k : ℕ} {route : List ℕ} (asks : ListAsks v list k route) (max : ℕ) where
  abbrev tolds : ℕ → List Told
  tolds i = tolds_in (lines_in v max list i)

  -- as many frames as words, where all are traced
  pub even_upto : (i : ℕ) → i ≤ k → i ≤ max → frames_in (tolds i) ≡ words_in (tolds i)
  even_upto i l h =
      let a = asks.long in
      let m = length-take-le i list (omega arith) in
      even_lines (line_in v) max (take i list) (omega arith)
      (λ j q. let x : j < i = omega arith in subst (λ (s : ℕ). length (trail_in v s).frames ≡ length (trail_in v s).words) (sym (get_or-take i list j 0 x)) (asks.even j (omega arith)))

  module _ (i : ℕ) (l : i < k) where
    abbrev next : Line
    next = line_in v (get_or list i 0) (ltb i max)

    pub next_lines : lines_in v max list (i + 1) ≡ lines_in v max list i ++ next ∷ []
    next_lines = line_next (line_in v) max list i (let a = asks.long in omega arith)

    next_tolds : tolds (i + 1) ≡ tolds i ++ next.told ∷ []
    next_tolds = ap tolds_in next_lines ∙ tolds_more (lines_in v max list i) next

    pub words_next : words_in (tolds (i + 1)) ≡ words_in (tolds i) + length (trail_in v (get_or list i 0)).words
    words_next = ap words_in next_tolds ∙ words-sum next.told (tolds i)

    frames_next : frames_in (tolds (i + 1)) ≡ frames_in (tolds i) + length next.told.word_frames
    frames_next = ap frames_in next_tolds ∙ frames-sum next.told (tolds i)

    pub phones_next : phones_in (tolds (i + 1)) ≡ phones_in (tolds i) + length next.told.phones
    phones_next = ap phones_in next_tolds ∙ phones-sum next.told (tolds i)

  pub total_none : TotalsAre v max list 0 (totals_by 0 0 0)
  total_none = go list
    where
      go : (xs : List ℕ) → TotalsAre v max xs 0 (totals_by 0 0 0)
      go [] = record { words = refl; traced = refl; segments = refl; few = (omega arith, omega arith) }
      go (x ∷ xs) = record { words = refl; traced = refl; segments = refl; few = (omega arith, omega arith) }

  module _ {i : ℕ} {t : Totals} {z : Size} (l : i < k) (are : TotalsAre v max list i t) (size : SizeFor (ltb i max) (trail_in v (get_or list i 0)) v.used z) where
    grow_asks : GrowAsks t z
    grow_asks =
        let u = (asks.paths i l).walkable.few in
        let a = asks.few in
        record { words = let x = are.few.0 in let y = size.few.0 in omega arith; segments = let x = are.few.1 in let y = size.few.1 in omega arith }

    total_next : TotalsAre v max list (i + 1) (grown_by t z (ltb i max))
    total_next =
        let u = (asks.paths i l).walkable.few in
        record {
          words = let a = are.words in let c = size.words in let e = words_next i l in omega arith;
          traced = frames_by (ltb i max) refl ∙ sym (frames_next i l);
          segments = phones_by (ltb i max) size.segments ∙ sym (phones_next i l);
          few = (let a = are.few.0 in let c = size.few.0 in omega arith, few_by (ltb i max));
        }
      where
        frames_by : (b : Bool) → ltb i max ≡ b → cond b (t.words + z.words) t.traced ≡ frames_in (tolds i) + length (cond b (trail_in v (get_or list i 0)).frames [])
        frames_by true q = let a = are.words in let c = size.words in let h = ltb-true i max q in let e = even_upto i (omega arith) (omega arith) in let d = asks.even i l in omega arith
        frames_by false q = let a = are.traced in omega arith

        phones_by : (b : Bool) → z.segments ≡ length (cond b (trail_in v (get_or list i 0)).segments []) → cond b (t.segments + z.segments) t.segments ≡ phones_in (tolds i) + length (cond b (trail_in v (get_or list i 0)).segments [])
        phones_by true c = let a = are.segments in omega arith
        phones_by false c = let a = are.segments in omega arith

        few_by : (b : Bool) → cond b (t.segments + z.segments) t.segments ≤ (i + 1) * 2_097_152
        few_by true = let u = (asks.paths i l).walkable.few in let a = are.few.1 in let c = size.few.1 in omega arith
        few_by false = let a = are.few.1 in omega arith

  -- as the code reads the item
  module _ {i : ℕ} (l : i < k) {g : Reading} (is : g ≡ reading_in v (get_or list i 0)) where
    pub path_of_lem : {route' : List ℕ} → length route' ≡ length route → PathAsks v.tokens v.records v.labels v.nexts v.side v.used g route'
    path_of_lem {route'} e = subst (λ (x : Reading). PathAsks v.tokens v.records v.labels v.nexts v.side v.used x route') (sym is) (path_again e (asks.paths i l))

    module _ {t : Totals} {z : Size} (are : TotalsAre v max list i t) (size : SizeFor (ltb i max) (trail_of v.tokens v.records v.labels v.nexts v.side v.decoded g) v.used z) where
      size_here : SizeFor (ltb i max) (trail_in v (get_or list i 0)) v.used z
      size_here = subst (λ (x : Reading). SizeFor (ltb i max) (trail_of v.tokens v.records v.labels v.nexts v.side v.decoded x) v.used z) is size

      pub fits_more : GrowAsks t z
      fits_more = grow_asks l are size_here

      pub total_more : {r : Totals} → r ≡ grown_by t z (ltb i max) → TotalsAre v max list (i + 1) r
      total_more e = subst (TotalsAre v max list (i + 1)) (sym e) (total_next l are size_here)

-- ---- 11

or_five : (a c d e f : Bool) → (((a || c) || d) || (e || f)) ≡ (a || (c || (d || (e || f))))
or_five true c d e f = refl
or_five false true d e f = refl
or_five false false true e f = refl
or_five false false false e f = refl

lesser_short : (a b k : ℕ) → ltb (lesser_of a b) k ≡ (ltb a k || ltb b k)
lesser_short a b k =
    case (lt_or_le b a)
    (λ q. rw (lt-ltb b a q) (case (lt_or_le b k) (λ h. lt-ltb b k h ∙ sym (or_right (ltb a k) (ltb b k) (lt-ltb b k h))) (λ h. le-ltb b k h ∙ sym (ap₂ (λ (x y : Bool). x || y) (le-ltb a k (omega arith)) (le-ltb b k h)))))
    (λ q. rw (le-ltb b a q) (case (lt_or_le a k) (λ h. rw (lt-ltb a k h)) (λ h. rw (le-ltb a k h, le-ltb b k (let z = q in omega arith)))))
  where
    or_right : (x y : Bool) → y ≡ true → (x || y) ≡ true
    or_right true y e = refl
    or_right false y e = e

module _ {v : View} {max : ℕ} {list : List ℕ} {k : ℕ} {t : Totals} (are : TotalsAre v max list k t) (long : k ≤ length list) (o : Outputs) where
  abbrev ts : List Told
  ts = tolds_in (lines_in v max list k)

  abbrev tested : Bool
  tested = too_short t k (length o.words) (length o.frames) (length o.segments / 3) (length o.numbers / 5) (length o.costs / 4)

  pub short_is : short (places_in o) (words_of ts) ts k ≡ tested
  unfolding short
  short_is =
      let p = places_in o in
      (λ i. ((ltb p.words (sym are.words i) || ltb p.frames (sym are.traced i)) || ltb p.segments (sym are.segments i)) || lesser_short (length o.numbers / 5) (length o.costs / 4) k i)
      ∙ or_five (ltb p.words t.words) (ltb p.frames t.traced) (ltb p.segments t.segments) (ltb (length o.numbers / 5) k) (ltb (length o.costs / 4) k)

  pub room_for : tested ≡ false → RoomFor (lines_in v max list k) o
  room_for e =
      let w = length o.words in
      let f = length o.frames in
      let s = length o.segments / 3 in
      let n = length o.numbers / 5 in
      let c = length o.costs / 4 in
      let e1 = or_neither (ltb w t.words) (ltb f t.traced || (ltb s t.segments || (ltb n k || ltb c k))) e in
      let e2 = or_neither (ltb f t.traced) (ltb s t.segments || (ltb n k || ltb c k)) e1.1 in
      let e3 = or_neither (ltb s t.segments) (ltb n k || ltb c k) e2.1 in
      let e4 = or_neither (ltb n k) (ltb c k) e3.1 in
      let m3 = div-add-mod' (length o.segments) 3 in
      let m5 = div-add-mod' (length o.numbers) 5 in
      let m4 = div-add-mod' (length o.costs) 4 in
      let aw = are.words in
      let at = are.traced in
      let ag = are.segments in
      let many = many_lines (line_in v) max k list long in
      record {
        words = let z = ltb-false w t.words e1.0 in omega arith;
        frames = let z = ltb-false f t.traced e2.0 in omega arith;
        segments = let z = ltb-false s t.segments e3.0 in omega arith;
        numbers = let z = ltb-false n k e4.0 in omega arith;
        costs = let z = ltb-false c k e4.1 in omega arith;
      }
