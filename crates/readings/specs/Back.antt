-- What the slices hold, read back. Assumes nothing.
use Rattle.std.specs.Prelude.{◌≡◌, refl, ℕ, zero, suc, ◌+◌, ◌-◌, ◌*◌, ◌≤◌, ◌<◌, List, [], ◌∷◌, ◌++◌, ℤ, length, get_or, take, drop, Float, Result, Ok}
use Rattle.std.proofs.Common.{sym, ◌∙◌, ap, ap₂, arith, append_assoc, length-append, take_at, drop_at}
use Rattle.std.proofs.lemmas.List.{length-map}
use Rattle.model.specs.Reads.{Traced as Told}
use Rattle.model.specs.Calls.{Answer, paths_answer}
use Rattle.traceback.specs.Write.{flat}
use Rattle.traceback.specs.Right.{segments_in}
use Rattle.readings.specs.Paths.{words_in, frames_in, phones_in, Outputs, front, all_words, all_frames, all_segments, ends_from, costs_of, Plains, paths_from, paths_in}
use Rattle.readings.specs.Right.{listed_as, Filled, ListedIs, listed_refused, listed_paths}
use Rattle.readings.specs.Fronts.{flat-length, words_long, frames_long, segments_long, ends_long}
use Rattle.refusals.specs.declared.Reason.{Reason}

more_less : (w n : ℕ) → w + n - w ≡ n
more_less w n = omega arith

read_back : (ts : List Told) → Plains ts → (w s : ℕ) (ws : List ℤ) (fs ss es : List ℕ) (cs : List Float)
    → paths_from (length ts) w s (all_words ts ++ ws) (all_frames ts ++ fs) (all_segments ts ++ ss) (ends_from w s ts ++ es) (costs_of ts ++ cs) ≡ ts
read_back [] p w s ws fs ss es cs = refl
read_back (t ∷ ts) p w s ws fs ss es cs =
    let W = length t.words in
    let S = length t.phones in
    let ew = more_less w W in
    let es' = more_less s S in
    let aw = append_assoc t.words (all_words ts) ws in
    let af = append_assoc t.word_frames (all_frames ts) fs in
    let as' = append_assoc (flat t.phones) (all_segments ts) ss in
    let tw : take (w + W - w) (t.words ++ all_words ts ++ ws) ≡ t.words = ap₂ take ew aw ∙ take_at t.words (all_words ts ++ ws) W refl in
    let tf : take (w + W - w) (t.word_frames ++ all_frames ts ++ fs) ≡ t.word_frames = ap₂ take ew af ∙ take_at t.word_frames (all_frames ts ++ fs) W p.0.as_many in
    let tp : segments_in (s + S - s) (flat t.phones ++ all_segments ts ++ ss) ≡ t.phones = ap₂ segments_in es' as' ∙ p.0.back (all_segments ts ++ ss) in
    let dw : drop (w + W - w) (t.words ++ all_words ts ++ ws) ≡ all_words ts ++ ws = ap₂ drop ew aw ∙ drop_at t.words (all_words ts ++ ws) W refl in
    let df : drop (w + W - w) (t.word_frames ++ all_frames ts ++ fs) ≡ all_frames ts ++ fs = ap₂ drop ew af ∙ drop_at t.word_frames (all_frames ts ++ fs) W p.0.as_many in
    let dp : drop ((s + S - s) * 3) (flat t.phones ++ all_segments ts ++ ss) ≡ all_segments ts ++ ss = ap₂ drop (ap (λ (k : ℕ). k * 3) es') as' ∙ drop_at (flat t.phones) (all_segments ts ++ ss) (S * 3) (flat-length t.phones) in
    let rest = read_back ts p.1 (w + W) (s + S) ws fs ss es cs in
    ap₂ (λ (x : Told) (xs : List Told). x ∷ xs) (λ i. record { words = tw i; word_frames = tf i; phones = tp i; cost = t.cost })
    ((λ i. paths_from (length ts) (w + W) (s + S) (dw i) (df i) (dp i) (ends_from (w + W) (s + S) ts ++ es) (costs_of ts ++ cs)) ∙ rest)

filled_back : {ts : List Told} {o o' : Outputs} → Filled ts o o' → Plains ts → paths_in (length ts) o' ≡ ts
filled_back {ts} {o} {o'} f p =
    (λ i. paths_from (length ts) 0 0 (f.words i) (f.frames i) (f.segments i) (f.ends i) (f.costs i)) ∙ read_back ts p 0 0 _ _ _ _ _

pub listed_back : {a : Answer} {o o' : Outputs} {r : Result ℕ Reason} → ListedIs a o o' r → listed_as r o' ≡ a
listed_back (listed_refused r e q) = sym e
listed_back (listed_paths ts e p f) = ap paths_answer (filled_back f p) ∙ sym e

-- no path is counted that the answer does not have
pub listed_count_lem : {ts : List Told} {o o' : Outputs} {k : ℕ} → ListedIs (paths_answer ts) o o' (Ok k) → k ≡ length ts
listed_count_lem {ts} (listed_paths us e p f) = let q : us ≡ ts = cc in ap length q

-- ---- where the paths end

-- the ends of k paths do not fall, and lie within the slices
pub record EndsWithin (k : ℕ) (o : Outputs) : Type 0 where
  pub ends : 2 * k ≤ length o.ends
  pub costs : k ≤ length o.costs
  pub words : (i : ℕ) → i < k → get_or o.ends (2 * i) 0 ≤ length o.words
  pub frames : (i : ℕ) → i < k → get_or o.ends (2 * i) 0 ≤ length o.frames
  pub segments : (i : ℕ) → i < k → get_or o.ends (2 * i + 1) 0 * 3 ≤ length o.segments
  pub words_on : (i : ℕ) → suc i < k → get_or o.ends (2 * i) 0 ≤ get_or o.ends (2 * suc i) 0
  pub segments_on : (i : ℕ) → suc i < k → get_or o.ends (2 * i + 1) 0 ≤ get_or o.ends (2 * suc i + 1) 0

-- two further on
two_on : (e f : ℕ) (es : List ℕ) (i j : ℕ) → get_or (e ∷ f ∷ es) (2 * suc i + j) 0 ≡ get_or es (2 * i + j) 0
two_on e f es i j = ap (λ (k : ℕ). get_or (e ∷ f ∷ es) k 0) (let z : 2 * suc i + j ≡ suc (suc (2 * i + j)) = omega arith in z)

words_within : (ts : List Told) (w s : ℕ) (es : List ℕ) (i : ℕ) → i < length ts → (w ≤ get_or (ends_from w s ts ++ es) (2 * i + 0) 0) × (get_or (ends_from w s ts ++ es) (2 * i + 0) 0 ≤ w + words_in ts)
words_within [] w s es i l = absurd (omega arith)
words_within (t ∷ ts) w s es zero l = (omega arith, omega arith)
words_within (t ∷ ts) w s es (suc i) l =
    let e = two_on (w + length t.words) (s + length t.phones) (ends_from (w + length t.words) (s + length t.phones) ts ++ es) i 0 in
    let h = words_within ts (w + length t.words) (s + length t.phones) es i (omega arith) in
    let a = h.0 in
    let b = h.1 in
    (omega arith, omega arith)

segments_within : (ts : List Told) (w s : ℕ) (es : List ℕ) (i : ℕ) → i < length ts → (s ≤ get_or (ends_from w s ts ++ es) (2 * i + 1) 0) × (get_or (ends_from w s ts ++ es) (2 * i + 1) 0 ≤ s + phones_in ts)
segments_within [] w s es i l = absurd (omega arith)
segments_within (t ∷ ts) w s es zero l = (omega arith, omega arith)
segments_within (t ∷ ts) w s es (suc i) l =
    let e = two_on (w + length t.words) (s + length t.phones) (ends_from (w + length t.words) (s + length t.phones) ts ++ es) i 1 in
    let h = segments_within ts (w + length t.words) (s + length t.phones) es i (omega arith) in
    let a = h.0 in
    let b = h.1 in
    (omega arith, omega arith)

words_on : (ts : List Told) (w s : ℕ) (es : List ℕ) (i : ℕ) → suc i < length ts → get_or (ends_from w s ts ++ es) (2 * i + 0) 0 ≤ get_or (ends_from w s ts ++ es) (2 * suc i + 0) 0
words_on [] w s es i l = absurd (omega arith)
words_on (t ∷ ts) w s es zero l =
    let w' = w + length t.words in
    let s' = s + length t.phones in
    let e = two_on w' s' (ends_from w' s' ts ++ es) 0 0 in
    let h = (words_within ts w' s' es 0 (omega arith)).0 in
    omega arith
words_on (t ∷ ts) w s es (suc i) l =
    let w' = w + length t.words in
    let s' = s + length t.phones in
    let d = two_on w' s' (ends_from w' s' ts ++ es) i 0 in
    let e = two_on w' s' (ends_from w' s' ts ++ es) (suc i) 0 in
    let h = words_on ts w' s' es i (omega arith) in
    omega arith

segments_on : (ts : List Told) (w s : ℕ) (es : List ℕ) (i : ℕ) → suc i < length ts → get_or (ends_from w s ts ++ es) (2 * i + 1) 0 ≤ get_or (ends_from w s ts ++ es) (2 * suc i + 1) 0
segments_on [] w s es i l = absurd (omega arith)
segments_on (t ∷ ts) w s es zero l =
    let w' = w + length t.words in
    let s' = s + length t.phones in
    let e = two_on w' s' (ends_from w' s' ts ++ es) 0 1 in
    let h = (segments_within ts w' s' es 0 (omega arith)).0 in
    omega arith
segments_on (t ∷ ts) w s es (suc i) l =
    let w' = w + length t.words in
    let s' = s + length t.phones in
    let d = two_on w' s' (ends_from w' s' ts ++ es) i 1 in
    let e = two_on w' s' (ends_from w' s' ts ++ es) (suc i) 1 in
    let h = segments_on ts w' s' es i (omega arith) in
    omega arith

-- a slice is no shorter than what stands in front of it
front_least : {A : Type 0} (l l' vs : List A) (n : ℕ) → l' ≡ front l vs → length vs ≡ n → n ≤ length l'
front_least l l' vs n e h = let a = ap length e in let d = length-append vs (drop (length vs) l) in omega arith

pub plains_even : (ts : List Told) → Plains ts → frames_in ts ≡ words_in ts
plains_even [] p = refl
plains_even (t ∷ ts) p = ap₂ (λ (a c : ℕ). a + c) p.0.as_many (plains_even ts p.1)

filled_ends : {ts : List Told} {o o' : Outputs} → Filled ts o o' → Plains ts → EndsWithin (length ts) o'
filled_ends {ts} {o} {o'} f p =
    let E = ends_from 0 0 ts in
    let es = drop (length E) o.ends in
    let at : (i : ℕ) → get_or o'.ends (2 * i) 0 ≡ get_or (E ++ es) (2 * i + 0) 0 = λ i. ap₂ (λ (l : List ℕ) (k : ℕ). get_or l k 0) f.ends (omega arith) in
    let behind : (i : ℕ) → get_or o'.ends (2 * i + 1) 0 ≡ get_or (E ++ es) (2 * i + 1) 0 = λ i. ap (λ (l : List ℕ). get_or l (2 * i + 1) 0) f.ends in
    record {
      ends = front_least o.ends o'.ends E (2 * length ts) f.ends (ends_long 0 0 ts);
      costs = front_least o.costs o'.costs (costs_of ts) (length ts) f.costs (length-map ts (λ (t : Told). t.cost));
      words = λ i l. let a = at i in let b = (words_within ts 0 0 es i l).1 in let d = front_least o.words o'.words (all_words ts) (words_in ts) f.words (words_long ts) in omega arith;
      frames = λ i l. let a = at i in let b = (words_within ts 0 0 es i l).1 in let d = front_least o.frames o'.frames (all_frames ts) (frames_in ts) f.frames (frames_long ts) in let z = plains_even ts p in omega arith;
      segments = λ i l. let a = behind i in let b = (segments_within ts 0 0 es i l).1 in let d = front_least o.segments o'.segments (all_segments ts) (phones_in ts * 3) f.segments (segments_long ts) in omega arith;
      words_on = λ i l. let a = at i in let b = at (suc i) in let d = words_on ts 0 0 es i l in omega arith;
      segments_on = λ i l. let a = behind i in let b = behind (suc i) in let d = segments_on ts 0 0 es i l in omega arith;
    }

pub listed_ends : {a : Answer} {o o' : Outputs} {k : ℕ} → ListedIs a o o' (Ok k) → EndsWithin k o'
listed_ends (listed_paths ts e p f) = filled_ends f p
