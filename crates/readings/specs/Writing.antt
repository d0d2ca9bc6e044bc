-- The paths written so far. Assumes nothing.
use Rattle.std.specs.Prelude.{◌≡◌, refl, ℕ, zero, suc, ◌+◌, ◌≤◌, ◌<◌, Bool, List, [], ◌∷◌, ◌++◌, map, ℤ, length, get_or, take, drop, Float}
use Rattle.std.proofs.Common.{sym, ◌∙◌, ap, subst, arith, length-append, length-drop, length-take-le}
use Rattle.std.proofs.lemmas.List.{length-map}
use Rattle.model.specs.Reads.{Traced as Told}
use Rattle.traceback.specs.declared.Size.{Size}
use Rattle.traceback.specs.Answers.{told_by}
use Rattle.readings.specs.Paths.{cost_in, trail_at, tolds_of, words_in, frames_in, phones_in, Outputs, size_by, RoomFor, front, all_words, all_frames, all_segments, ends_from, costs_of, EntryAsks, EntryPut, WriteAsks}
use Rattle.readings.specs.Right.{Filled}
use Rattle.readings.specs.Fronts.{words-sum, frames-sum, phones-sum, words_long, frames_long, segments_long, ends_long, filled_none, filled_next}
use Rattle.readings.specs.Totals.{told_more}

pub front_fits : {A : Type 0} (l l' vs : List A) → l' ≡ front l vs → length vs ≤ length l → length l' ≡ length l
front_fits l l' vs e h = ap length e ∙ (let a = length-append vs (drop (length vs) l) in let b = length-drop (length vs) l in omega arith)

-- fewer states, smaller paths together
module _ (f : ℕ → Told) where
  pub words_fewer : (i k : ℕ) (xs : List ℕ) → i ≤ k → words_in (map f (take i xs)) ≤ words_in (map f (take k xs))
  words_fewer i k [] l = subst (λ (m : ℕ). m ≤ words_in (map f (take k []))) (none i) (omega arith)
    where
      none : (j : ℕ) → 0 ≡ words_in (map f (take j []))
      none zero = refl
      none (suc j) = refl
  words_fewer zero k (x ∷ xs) l = omega arith
  words_fewer (suc i) zero (x ∷ xs) l = absurd (omega arith)
  words_fewer (suc i) (suc k) (x ∷ xs) l = let z = words_fewer i k xs (omega arith) in omega arith

  frames_fewer : (i k : ℕ) (xs : List ℕ) → i ≤ k → frames_in (map f (take i xs)) ≤ frames_in (map f (take k xs))
  frames_fewer i k [] l = subst (λ (m : ℕ). m ≤ frames_in (map f (take k []))) (none i) (omega arith)
    where
      none : (j : ℕ) → 0 ≡ frames_in (map f (take j []))
      none zero = refl
      none (suc j) = refl
  frames_fewer zero k (x ∷ xs) l = omega arith
  frames_fewer (suc i) zero (x ∷ xs) l = absurd (omega arith)
  frames_fewer (suc i) (suc k) (x ∷ xs) l = let z = frames_fewer i k xs (omega arith) in omega arith

  pub phones_fewer : (i k : ℕ) (xs : List ℕ) → i ≤ k → phones_in (map f (take i xs)) ≤ phones_in (map f (take k xs))
  phones_fewer i k [] l = subst (λ (m : ℕ). m ≤ phones_in (map f (take k []))) (none i) (omega arith)
    where
      none : (j : ℕ) → 0 ≡ phones_in (map f (take j []))
      none zero = refl
      none (suc j) = refl
  phones_fewer zero k (x ∷ xs) l = omega arith
  phones_fewer (suc i) zero (x ∷ xs) l = absurd (omega arith)
  phones_fewer (suc i) (suc k) (x ∷ xs) l = let z = phones_fewer i k xs (omega arith) in omega arith

  pub many_are : (k : ℕ) (xs : List ℕ) → k ≤ length xs → length (map f (take k xs)) ≡ k
  many_are k xs l = length-map (take k xs) f ∙ length-take-le k xs l

  -- the places of more are places of fewer
  pub room_less : (i k : ℕ) (xs : List ℕ) {o : Outputs} → i ≤ k → k ≤ length xs → RoomFor (map f (take k xs)) o → RoomFor (map f (take i xs)) o
  room_less i k xs l m r =
      let a = many_are i xs (omega arith) in
      let b = many_are k xs m in
      record {
        words = let z = r.words in let y = words_fewer i k xs l in omega arith;
        frames = let z = r.frames in let y = frames_fewer i k xs l in omega arith;
        segments = let z = r.segments in let y = phones_fewer i k xs l in omega arith;
        ends = let z = r.ends in omega arith;
        costs = let z = r.costs in omega arith;
      }

-- the first i of k paths are written
pub record Going (tk rs : List ℕ) (ls : List ℤ) (b n : ℕ) (cost : ℕ → Float) (order : List ℕ) (k i : ℕ) (at : Size) (o o' : Outputs) : Type 0 where
  pub upto : i ≤ k
  pub filled : Filled (tolds_of tk rs ls b n cost (take i order)) o o'
  pub words : at.words ≡ words_in (tolds_of tk rs ls b n cost (take i order))
  pub frames : frames_in (tolds_of tk rs ls b n cost (take i order)) ≡ words_in (tolds_of tk rs ls b n cost (take i order))
  pub segments : at.segments ≡ phones_in (tolds_of tk rs ls b n cost (take i order))

-- lengths stay
pub record Long (o o' : Outputs) : Type 0 where
  pub words : length o'.words ≡ length o.words
  pub frames : length o'.frames ≡ length o.frames
  pub segments : length o'.segments ≡ length o.segments
  pub ends : length o'.ends ≡ length o.ends
  pub costs : length o'.costs ≡ length o.costs

pub filled_long : {ts : List Told} {o o' : Outputs} → Filled ts o o' → RoomFor ts o → Long o o'
filled_long {ts} {o} {o'} f r =
    record {
      words = front_fits o.words o'.words (all_words ts) f.words (let a = words_long ts in let z = r.words in omega arith);
      frames = front_fits o.frames o'.frames (all_frames ts) f.frames (let a = frames_long ts in let z = r.frames in omega arith);
      segments = front_fits o.segments o'.segments (all_segments ts) f.segments (let a = segments_long ts in let z = r.segments in omega arith);
      ends = front_fits o.ends o'.ends (ends_from 0 0 ts) f.ends (let a = ends_long 0 0 ts in let z = r.ends in omega arith);
      costs = front_fits o.costs o'.costs (costs_of ts) f.costs (let a = length-map ts (λ (t : Told). t.cost) in let z = r.costs in omega arith);
    }

module _ {tk : List ℕ} {sm fs : List Float} {rs : List ℕ} {ls : List ℤ} {b used n : ℕ} {counts : Bool} {order : List ℕ} {k : ℕ} {o : Outputs} (asks : WriteAsks tk sm fs rs ls b used n counts order k o) where
  abbrev cost : ℕ → Float
  cost = cost_in sm fs b counts

  abbrev told_at : ℕ → Told
  told_at s = told_by (trail_at tk rs ls b n s) (cost s)

  abbrev sofar : ℕ → List Told
  sofar i = tolds_of tk rs ls b n cost (take i order)

  pub going_none : Going tk rs ls b n cost order k 0 (size_by 0 0) o o
  going_none = go order
    where
      go : (xs : List ℕ) → Going tk rs ls b n cost xs k 0 (size_by 0 0) o o
      go [] = record { upto = omega arith; filled = filled_none o; words = refl; frames = refl; segments = refl }
      go (x ∷ xs) = record { upto = omega arith; filled = filled_none o; words = refl; frames = refl; segments = refl }

  module _ {i : ℕ} {at : Size} {o' : Outputs} (g : Going tk rs ls b n cost order k i at o o') where
    pub going_long : Long o o'
    going_long = filled_long g.filled (room_less told_at i k order g.upto asks.fill.long asks.room)

    module _ (l : i < k) where
      more : sofar (i + 1) ≡ sofar i ++ told_at (get_or order i 0) ∷ []
      more = told_more tk rs ls b n order cost i (let z = asks.fill.long in omega arith)

      next_room : RoomFor (sofar i ++ told_at (get_or order i 0) ∷ []) o
      next_room = subst (λ (ts : List Told). RoomFor ts o) more (room_less told_at (i + 1) k order (omega arith) asks.fill.long asks.room)

      pub entry_asks : EntryAsks tk sm fs rs ls b used n (get_or order i 0) i at o'
      entry_asks =
          let q = going_long in
          let r = next_room in
          let w = words-sum (told_at (get_or order i 0)) (sofar i) in
          let e = frames-sum (told_at (get_or order i 0)) (sofar i) in
          let p = phones-sum (told_at (get_or order i 0)) (sofar i) in
          let m = length-append (sofar i) (told_at (get_or order i 0) ∷ []) in
          let y = many_are told_at i order (let z = asks.fill.long in omega arith) in
          let ev = asks.even i l in
          let gw = g.words in
          let gf = g.frames in
          let gs = g.segments in
          record {
            path = asks.fill.each i l;
            sums = asks.sums i l;
            finals = asks.finals i l;
            put =
                record {
                  words = let a = q.words in let c = r.words in omega arith;
                  frames = let a = q.frames in let c = r.frames in omega arith;
                  segments = let a = q.segments in let c = r.segments in omega arith;
                  even = ev;
                  few = (
                    let a = words_fewer told_at i k order g.upto in let c = asks.few.0 in omega arith,
                    let a = phones_fewer told_at i k order g.upto in let c = asks.few.1 in omega arith,
                  );
                };
            few = let a = asks.fill.few in omega arith;
            ends = let a = q.ends in let c = r.ends in omega arith;
            costs = let a = q.costs in let c = r.costs in omega arith;
          }

      pub going_next : {r : Size} {o'' : Outputs} → EntryPut (trail_at tk rs ls b n (get_or order i 0)) (cost (get_or order i 0)) i at r o' o'' → Going tk rs ls b n cost order k (i + 1) r o o''
      going_next {r} {o''} p =
          let ev = asks.even i l in
          let gw = g.words in
          let gf = g.frames in
          let gs = g.segments in
          record {
            upto = omega arith;
            filled = subst (λ (ts : List Told). Filled ts o o'') (sym more) (filled_next g.filled p next_room (sym (many_are told_at i order (let z = asks.fill.long in omega arith))) g.words g.frames g.segments);
            words = p.path.to_words ∙ (let w = words-sum (told_at (get_or order i 0)) (sofar i) in omega arith) ∙ ap words_in (sym more);
            frames = ap frames_in more ∙ (let w = words-sum (told_at (get_or order i 0)) (sofar i) in let e = frames-sum (told_at (get_or order i 0)) (sofar i) in omega arith) ∙ ap words_in (sym more);
            segments = p.path.to_segments ∙ (let w = phones-sum (told_at (get_or order i 0)) (sofar i) in omega arith) ∙ ap phones_in (sym more);
          }

  pub going_done : {i : ℕ} {at : Size} {o' : Outputs} → Going tk rs ls b n cost order k i at o o' → k ≤ i → Filled (sofar k) o o'
  going_done {i} {at} {o'} g l = let e : i ≡ k = let z = g.upto in omega arith in subst (λ (j : ℕ). Filled (sofar j) o o') e g.filled
