-- What is written is the definition's answer. Assumes nothing.
use Rattle.std.specs.Prelude.{◌≡◌, refl, ℕ, zero, suc, ◌*◌, ◌/◌, ◌≤◌, Bool, true, false, ◌||◌, cond, List, [], ◌∷◌, ◌++◌, ℤ, pos, nat_abs, ltb, length, take, drop, Float, Ok, Err}
use Rattle.std.proofs.Common.{sym, ◌∙◌, ap, ap₂, arith, zero-add, div-add-mod', take_at, drop_at, ltb-false}
use Rattle.std.proofs.Math.Nat.{add-zero}
use Rattle.std.proofs.Math.Option.{some}
use Rattle.std.proofs.lemmas.List.Edits.{sets, sets-eq}
use Rattle.lists.specs.Tests.{or_neither}
use Rattle.model.specs.Basics.{eqℤ, nonzero, refuse}
use Rattle.model.specs.Path.{Path}
use Rattle.model.specs.Reads.{Segment, Traced as Told, trace}
use Rattle.model.specs.Calls.{path_answer, short, words_of, unless}
use Rattle.records.specs.History.{History}
use Rattle.records.specs.Layout.{store}
use Rattle.records.specs.Stands.{Stands}
use Rattle.stores.specs.Shown.{Is}
use Rattle.traceback.specs.declared.Size.{Size}
use Rattle.traceback.specs.declared.Step.{Step}
use Rattle.traceback.specs.Trail.{Trail, no_trail, segment, begun, start_of}
use Rattle.traceback.specs.Chain.{step_of, back_at, tell, chain_trail, trail_from, SizeIs}
use Rattle.traceback.specs.Traced.{numbers_of, Routed, trail_is}
use Rattle.traceback.specs.Write.{flat, Wrote}
use Rattle.traceback.specs.Right.{Parts, parts, places_of, too_short, segments_in, path_in, Fits, Behind, answer_one, TraceRight}
use Rattle.refusals.specs.declared.Reason.TheVariants.{TooShort}

-- ---- as many frames as words, and phones that are u32

abbrev U32s : List Segment → Type 0
U32s [] = Unit {0}
U32s (s ∷ ss) = (pos (nat_abs s.phone) ≡ s.phone) × U32s ss

begun_u32s : (n p f : ℕ) (ss : List Segment) → U32s ss → U32s (begun n (pos p) f ss)
begun_u32s n p f [] u = go (nonzero (pos p))
  where
    go : (b : Bool) → U32s (cond b (segment (pos p) f n ∷ []) [])
    go true = (refl, tt)
    go false = tt
begun_u32s n p f (s ∷ ss) u = go (nonzero (pos p)) (eqℤ s.phone (pos p))
  where
    go : (a b : Bool) → U32s (cond a (cond b (segment (pos p) f s.end ∷ ss) (segment (pos p) f s.start ∷ (s ∷ ss))) (s ∷ ss))
    go true true = (refl, u.1)
    go true false = (refl, u)
    go false b = u

pub record Even (t : Trail) : Type 0 where
  pub as_many : length t.frames ≡ length t.words
  pub phones : U32s t.segments

tell_even : (n : ℕ) (s : Step) (t : Trail) → Even t → Even (tell n s t)
unfolding tell
tell_even n s t e =
    record {
      as_many = go (nonzero s.word);
      phones = begun_u32s n s.phone s.frame (begun n (pos (back_at (start_of n t.segments) s)) s.at t.segments) (begun_u32s n (back_at (start_of n t.segments) s) s.at t.segments e.phones);
    }
  where
    go : (b : Bool) → length (cond b (s.frame ∷ t.frames) t.frames) ≡ length (cond b (s.word ∷ t.words) t.words)
    go true = ap suc e.as_many
    go false = e.as_many

chain_even : (rs : List ℕ) (ls : List ℤ) (route : List ℕ) (n f r : ℕ) (t : Trail) → Even t → Even (chain_trail rs ls route n f r t)
unfolding chain_trail
chain_even rs ls route n zero r t e = e
chain_even rs ls route n (suc f) zero t e = e
chain_even rs ls route n (suc f) (suc k) t e = let s = step_of rs ls route n k in chain_even rs ls route n f s.next (tell n s t) (tell_even n s t e)

-- ---- the front of a part

module _ {A : Type 0} (l vs : List A) (h : length vs ≤ length l) where
  take_none : (l : List A) → take 0 l ≡ []
  take_none [] = refl
  take_none (x ∷ xs) = refl

  front_is : sets l 0 vs ≡ vs ++ drop (length vs) l
  front_is = sets-eq vs l 0 (omega arith) ∙ ap₂ (λ (x : List A) (k : ℕ). x ++ vs ++ drop k l) (take_none l) (zero-add (length vs))

  front_taken : take (length vs) (sets l 0 vs) ≡ vs
  front_taken = ap (take (length vs)) front_is ∙ take_at vs (drop (length vs) l) (length vs) refl

  front_left : drop (length vs) (sets l 0 vs) ≡ drop (length vs) l
  front_left = ap (drop (length vs)) front_is ∙ drop_at vs (drop (length vs) l) (length vs) refl

flat-length : (ss : List Segment) → length (flat ss) ≡ length ss * 3
flat-length [] = refl
flat-length (s ∷ ss) = let e = flat-length ss in omega arith

segments_back_lem : (ss : List Segment) (rest : List ℕ) → U32s ss → segments_in (length ss) (flat ss ++ rest) ≡ ss
segments_back_lem [] rest u = refl
segments_back_lem (s ∷ ss) rest u =
    ap₂ (λ (p : ℤ) (x : List Segment). segment p s.start s.end ∷ x) u.0 (segments_back_lem ss rest u.1)

-- ---- what is written

abbrev pub told_by : Trail → (cost : Float) → Told
told_by t c = record { words = t.words; word_frames = t.frames; phones = t.segments; cost = c }

module _ {t : Trail} {used : ℕ} {z : Size} (size : SizeIs t used z) (even : Even t) {W : List ℤ} {F S : List ℕ} (fit : Fits z W F S) {W' : List ℤ} {F' S' : List ℕ} (o : Wrote t W F S W' F' S') where
  long_words : length t.words ≤ length W
  long_words = let a = size.words in let b = fit.words in omega arith

  long_frames : length t.frames ≤ length F
  long_frames = let a = size.words in let b = fit.frames in let c = even.as_many in omega arith

  long_segments : length (flat t.segments) ≤ length S
  long_segments = let a = size.segments in let b = fit.segments in let c = flat-length t.segments in omega arith

  frames_count : z.words ≡ length t.frames
  frames_count = size.words ∙ sym even.as_many

  flat_count : z.segments * 3 ≡ length (flat t.segments)
  flat_count = let a = size.segments in let c = flat-length t.segments in omega arith

  pub path_written : (c : Float) → path_in (parts W' F' S') z c ≡ told_by t c
  path_written c =
      let a : take z.words W' ≡ t.words = ap₂ take size.words o.words ∙ front_taken W t.words long_words in
      let b : take z.words F' ≡ t.frames = ap₂ take frames_count o.frames ∙ front_taken F t.frames long_frames in
      let d : segments_in z.segments S' ≡ t.segments = ap₂ segments_in size.segments (o.segments ∙ front_is S (flat t.segments) long_segments) ∙ segments_back_lem t.segments (drop (length (flat t.segments)) S) even.phones in
      λ i. record { words = a i; word_frames = b i; phones = d i; cost = c }

  pub behind_written : Behind z (parts W F S) (parts W' F' S')
  behind_written =
      record {
        fits = fit;
        words = ap₂ drop size.words o.words ∙ front_left W t.words long_words ∙ ap (λ (k : ℕ). drop k W) (sym size.words);
        frames = ap₂ drop frames_count o.frames ∙ front_left F t.frames long_frames ∙ ap (λ (k : ℕ). drop k F) (sym frames_count);
        segments = ap₂ drop flat_count o.segments ∙ front_left S (flat t.segments) long_segments ∙ ap (λ (k : ℕ). drop k S) (sym flat_count);
      }

-- ---- 11

or_three : (a b c : Bool) → (((a || b) || c) || false) ≡ (a || (b || c))
or_three true b c = refl
or_three false true c = refl
or_three false false true = refl
or_three false false false = refl

module _ {t : Trail} {used : ℕ} {z : Size} (size : SizeIs t used z) (even : Even t) (m : Parts) (c : Float) where
  pub short_is : short (places_of m) (words_of (told_by t c ∷ [])) (told_by t c ∷ []) 0 ≡ too_short z (length m.words) (length m.frames) (length m.segments / 3)
  unfolding short
  short_is = rw (add-zero (length t.words), add-zero (length t.frames), add-zero (length t.segments), even.as_many, ← size.words, ← size.segments) (or_three (ltb (length m.words) z.words) (ltb (length m.frames) z.words) (ltb (length m.segments / 3) z.segments))

pub long_enough : (z : Size) (m : Parts) → too_short z (length m.words) (length m.frames) (length m.segments / 3) ≡ false → Fits z m.words m.frames m.segments
long_enough z m e =
    let a = or_neither (ltb (length m.words) z.words) (ltb (length m.frames) z.words || ltb (length m.segments / 3) z.segments) e in
    let b = or_neither (ltb (length m.frames) z.words) (ltb (length m.segments / 3) z.segments) a.1 in
    let d = div-add-mod' (length m.segments) 3 in
    record {
      words = ltb-false (length m.words) z.words a.0;
      frames = ltb-false (length m.frames) z.words b.0;
      segments = let y = ltb-false (length m.segments / 3) z.segments b.1 in omega arith;
    }

-- ---- the contract of `trace`

module _ (rs : List ℕ) (ls : List ℤ) (route : List ℕ) (used n link : ℕ) (z : Size) (size : SizeIs (trail_from rs ls route n link no_trail) used z) (m : Parts) where
  abbrev whole : Trail
  whole = trail_from rs ls route n link no_trail

  whole_even : Even whole
  whole_even = chain_even rs ls route n link link no_trail (record { as_many = refl; phones = tt })

  -- what `measure` counts is the definition's
  pub measured : (gs : List Float) (h : ℕ → History) → Stands (store rs ls gs) used h → Routed used route → (p : Path) (c : Float) → Is h used link p
      → (z.words ≡ length (trace n (numbers_of h route) p c).words) × (z.words ≡ length (trace n (numbers_of h route) p c).word_frames) × (z.segments ≡ length (trace n (numbers_of h route) p c).phones)
  measured gs h ok routed p c i =
      let e = trail_is rs ls gs route n used h ok routed link p c i in (
        size.words ∙ ap (λ (t : Told). length t.words) (sym e),
        size.words ∙ sym whole_even.as_many ∙ ap (λ (t : Told). length t.word_frames) (sym e),
        size.segments ∙ ap (λ (t : Told). length t.phones) (sym e),
      )

  -- and what `write` leaves in front
  pub told_written : {m' : Parts} → Fits z m.words m.frames m.segments → Wrote whole m.words m.frames m.segments m'.words m'.frames m'.segments
      → (gs : List Float) (h : ℕ → History) → Stands (store rs ls gs) used h → Routed used route → (p : Path) (c : Float) → Is h used link p → path_in m' z c ≡ trace n (numbers_of h route) p c
  told_written fit o gs h ok routed p c i = path_written size whole_even fit o c ∙ sym (trail_is rs ls gs route n used h ok routed link p c i)

  -- the definition's answer, by the walk
  answer_is : (gs : List Float) (h : ℕ → History) → Stands (store rs ls gs) used h → Routed used route → (p : Path) (c : Float) → Is h used link p
      → answer_one (trace n (numbers_of h route) p c) (places_of m) ≡ unless (refuse 11 (too_short z (length m.words) (length m.frames) (length m.segments / 3))) (path_answer (some (told_by whole c)))
  answer_is gs h ok routed p c i =
      ap (λ (t : Told). answer_one t (places_of m)) (trail_is rs ls gs route n used h ok routed link p c i) ∙ ap (λ (b : Bool). unless (refuse 11 b) (path_answer (some (told_by whole c)))) (short_is size whole_even m c)

  pub trace_refused : {m' : Parts} → too_short z (length m.words) (length m.frames) (length m.segments / 3) ≡ true → m' ≡ m → TraceRight rs ls route used n link m m' (Err TooShort)
  trace_refused e q =
      record { answer = λ gs h ok routed p c i. sym (answer_is gs h ok routed p c i ∙ ap (λ (b : Bool). unless (refuse 11 b) (path_answer (some (told_by whole c)))) e); kept = q }

  pub trace_written : {m' : Parts} → too_short z (length m.words) (length m.frames) (length m.segments / 3) ≡ false → Wrote whole m.words m.frames m.segments m'.words m'.frames m'.segments → TraceRight rs ls route used n link m m' (Ok z)
  trace_written e o =
      let fit = long_enough z m e in
      record {
        answer = λ gs h ok routed p c i. ap (λ (t : Told). path_answer (some t)) (path_written size whole_even fit o c) ∙ sym (answer_is gs h ok routed p c i ∙ ap (λ (b : Bool). unless (refuse 11 b) (path_answer (some (told_by whole c)))) e);
        kept = behind_written size whole_even fit o;
      }
