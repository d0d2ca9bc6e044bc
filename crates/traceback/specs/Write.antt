-- What is written of a trace, from its end to its front. Assumes nothing.
use Rattle.std.specs.Prelude.{◌≡◌, refl, ◌⊎◌, Bool, ℤ, pos, nat_abs, eqb, length, set}
use Rattle.std.proofs.Common.{sym, ◌∙◌, ap₂, inl, inr}
use Rattle.std.proofs.Math.Path.{ap, subst}
use Prim.Native.Nat.{ℕ, zero, suc, ◌+◌, ◌-◌, ◌*◌, ◌≤◌, ◌<◌}
use native.Mathlib.Omega.{arith}
use Rattle.std.proofs.Math.Bool.{true, false, cond}
use mathlib.Core.List.{List, [], ◌∷◌}
use Rattle.std.proofs.Math.Dec.{eqb-suc-zero}
use Rattle.std.proofs.lemmas.List.Edits.{sets}
use Rattle.std.proofs.Math.Seq.{length-sets}
use Rattle.std.proofs.lemmas.List.{set_comm}
use Rattle.lists.specs.Tests.{never}
use Rattle.model.specs.Basics.{eqℤ, nonzero}
use Rattle.model.specs.Path.{with_word}
use Rattle.model.specs.Reads.{Segment}
use Rattle.traceback.specs.declared.Step.{Step}
use Rattle.traceback.specs.declared.Head.{Head}
use Rattle.traceback.specs.declared.Size.{Size}
use Rattle.traceback.specs.Trail.{Trail, no_trail, segment, begun, start_of}
use Rattle.traceback.specs.Chain.{step_of, back_at, tell, chain_trail, trail_from, head_on, back_in, Walkable, SizeIs}
use Rattle.traceback.specs.Right.{Fits}
use Rattle.traceback.specs.Walk.{step_low, chain_next, NoFront, HeadIs, count_is, start_is, head_begun, head_told}

-- three numbers for each segment
abbrev pub flat : List Segment → List ℕ
flat [] = []
flat (s ∷ ss) = nat_abs s.phone ∷ s.start ∷ s.end ∷ flat ss

-- the whole trace in front, and the rest unchanged
pub record Wrote (t : Trail) (ws : List ℤ) (fs ss : List ℕ) (ws' : List ℤ) (fs' ss' : List ℕ) : Type 0 where
  pub words : ws' ≡ sets ws 0 t.words
  pub frames : fs' ≡ sets fs 0 t.frames
  pub segments : ss' ≡ sets ss 0 (flat t.segments)

-- ---- the parts

pub record WordAsks (ws : List ℤ) (fs : List ℕ) (at : ℕ) (w : ℤ) : Type 0 where
  pub some : nonzero w ≡ true → 0 < at
  pub words : at ≤ length ws
  pub frames : at ≤ length fs

pub data WordPut (ws ws' : List ℤ) (fs fs' : List ℕ) (at : ℕ) (w : ℤ) (f r : ℕ) : Type 0 where
  no_word : nonzero w ≡ false → r ≡ at → ws' ≡ ws → fs' ≡ fs → WordPut ws ws' fs fs' at w f r
  a_word : nonzero w ≡ true → suc r ≡ at → ws' ≡ set ws r w → fs' ≡ set fs r f → WordPut ws ws' fs fs' at w f r

abbrev pub with_head : List ℕ → (total : ℕ) → Head → List ℕ
with_head ss total k = sets ss ((total - k.count) * 3) (k.phone ∷ k.start ∷ k.end ∷ [])

-- the segment that is done is written, where there is one and another comes in front of it
pub data Written (ss ss' : List ℕ) (total : ℕ) (k r : Head) : Type 0 where
  not_done : (k.count ≡ 0) ⊎ (r.count ≡ k.count) → ss' ≡ ss → Written ss ss' total k r
  is_done : (k.count ≡ 0 → ⊥) → (r.count ≡ k.count → ⊥) → ss' ≡ with_head ss total k → Written ss ss' total k r

pub record BegunIn (ss ss' : List ℕ) (total : ℕ) (k : Head) (p f : ℕ) (r : Head) : Type 0 where
  pub head : r ≡ head_on k p f
  pub written : Written ss ss' total k r

-- ---- stores in front of others

module _ {A : Type 0} where
  set_before : (l : List A) (i j : ℕ) (v : A) (vs : List A) → i < j → set (sets l j vs) i v ≡ sets (set l i v) j vs
  set_before l i j v [] h = refl
  set_before l i j v (x ∷ vs) h = set_before (set l j x) i (suc j) v vs (omega arith) ∙ ap (λ (m : List A). sets m (suc j) vs) (set_comm l j i x v (λ e. omega arith))

  put_three : (l : List A) (i : ℕ) (a b c : A) (vs : List A) → sets (sets l (suc (suc (suc i))) vs) i (a ∷ b ∷ c ∷ []) ≡ sets l i (a ∷ b ∷ c ∷ vs)
  put_three l i a b c vs =
      let k = suc (suc (suc i)) in
      ap (λ (m : List A). set (set m (suc i) b) (suc (suc i)) c) (set_before l i k a vs (omega arith)) ∙ ap (λ (m : List A). set m (suc (suc i)) c) (set_before (set l i a) (suc i) k b vs (omega arith))
      ∙ set_before (set (set l i a) (suc i) b) (suc (suc i)) k c vs (omega arith)

-- ---- the segments that are done

abbrev pub rest_of : List Segment → List Segment
rest_of [] = []
rest_of (s ∷ ss) = ss

abbrev pub Filled : (S S' : List ℕ) → (total : ℕ) → List Segment → Type 0
Filled S S' total ss = S' ≡ sets S ((total - length ss) * 3) (flat ss)

module _ (S S' : List ℕ) (total : ℕ) where
  pub fill_more : (n : ℕ) (k : Head) (s : Segment) (ss : List Segment) → HeadIs n k (s ∷ ss) → length ss < total → Filled S S' total ss → Filled S (with_head S' total k) total (s ∷ ss)
  fill_more n k s ss i l e =
      let at = (total - suc (length ss)) * 3 in
      let z : (total - length ss) * 3 ≡ suc (suc (suc at)) = omega arith in
      let y : (total - k.count) * 3 ≡ at = let v = i.count in omega arith in
      let three : (k.phone ∷ k.start ∷ k.end ∷ []) ≡ (nat_abs s.phone ∷ s.start ∷ s.end ∷ []) = rw (← i.phone, i.start, i.end) in
      ap₂ (λ (m : List ℕ) (j : ℕ). sets m j (k.phone ∷ k.start ∷ k.end ∷ [])) (e ∙ ap (λ (j : ℕ). sets S j (flat ss)) z) y ∙ ap (sets (sets S (suc (suc (suc at))) (flat ss)) at) three
      ∙ put_three S at (nat_abs s.phone) s.start s.end (flat ss)

  pub fill_begun : (S'' : List ℕ) (n : ℕ) (k r : Head) (p f : ℕ) (ss : List Segment) → HeadIs n k ss → length ss ≤ total → r ≡ head_on k p f → Written S' S'' total k r → Filled S S' total (rest_of ss) → Filled S S'' total (rest_of (begun n (pos p) f ss))
  unfolding head_on
  fill_begun S'' n k r zero f ss i l a (not_done c q) e = q ∙ e
  fill_begun S'' n k r zero f ss i l a (is_done d g q) e = absurd (g (ap (λ (x : Head). x.count) a))
  fill_begun S'' n k r (suc p) f [] i l a (not_done c q) e = q ∙ e
  fill_begun S'' n k r (suc p) f [] i l a (is_done d g q) e = absurd (d i.count)
  fill_begun S'' n k r (suc p) f (s ∷ ss) i l a w e =
      subst (λ (b : Bool). Filled S S'' total (rest_of (cond b (segment (pos (suc p)) f s.end ∷ ss) (segment (pos (suc p)) f s.start ∷ (s ∷ ss))))) (ap (λ (x : ℤ). eqℤ x (pos (suc p))) i.phone)
      (go (eqb k.phone (suc p)) (counted (eqb (suc p) 0) (eqb-suc-zero p) (eqb k.phone (suc p)) a) w)
    where
      counted : (z : Bool) → z ≡ false → (b : Bool) → r ≡ cond z k (cond b (record { count = k.count; phone = suc p; start = f; end = k.end }) (record { count = k.count + 1; phone = suc p; start = f; end = k.start }))
          → r.count ≡ cond b k.count (k.count + 1)
      counted true o b a = never (sym o)
      counted false o true a = ap (λ (x : Head). x.count) a
      counted false o false a = ap (λ (x : Head). x.count) a

      go : (b : Bool) → r.count ≡ cond b k.count (k.count + 1) → Written S' S'' total k r → Filled S S'' total (rest_of (cond b (segment (pos (suc p)) f s.end ∷ ss) (segment (pos (suc p)) f s.start ∷ (s ∷ ss))))
      go true c (not_done d q) = q ∙ e
      go true c (is_done d g q) = absurd (g c)
      go false c (not_done (inl z) q) = absurd (let y = i.count in omega arith)
      go false c (not_done (inr z) q) = absurd (omega arith)
      go false c (is_done d g q) = q ∙ fill_more n k s ss i l e

-- ---- lengths only grow

begun_grows : (n : ℕ) (p : ℤ) (f : ℕ) (ss : List Segment) → length ss ≤ length (begun n p f ss)
begun_grows n p f [] = omega arith
begun_grows n p f (s ∷ ss) = go (nonzero p) (eqℤ s.phone p)
  where
    go : (a b : Bool) → suc (length ss) ≤ length (cond a (cond b (segment p f s.end ∷ ss) (segment p f s.start ∷ (s ∷ ss))) (s ∷ ss))
    go true true = omega arith
    go true false = omega arith
    go false b = omega arith

word_grows : (w : ℤ) (ws : List ℤ) → length ws ≤ length (with_word w ws)
word_grows w ws = go (nonzero w)
  where
    go : (b : Bool) → length ws ≤ length (cond b (w ∷ ws) ws)
    go true = omega arith
    go false = omega arith

module _ (rs : List ℕ) (ls : List ℤ) (route : List ℕ) (n : ℕ) where
  words_grow : (f r : ℕ) (t : Trail) → length t.words ≤ length (chain_trail rs ls route n f r t).words
  unfolding chain_trail tell
  words_grow zero r t = omega arith
  words_grow (suc f) zero t = omega arith
  words_grow (suc f) (suc k) t =
      let s = step_of rs ls route n k in
      let a = words_grow f s.next (tell n s t) in
      let b = word_grows s.word t.words in
      omega arith

  segments_grow : (f r : ℕ) (t : Trail) → length t.segments ≤ length (chain_trail rs ls route n f r t).segments
  unfolding chain_trail tell
  segments_grow zero r t = omega arith
  segments_grow (suc f) zero t = omega arith
  segments_grow (suc f) (suc k) t =
      let s = step_of rs ls route n k in
      let back = begun n (pos (back_at (start_of n t.segments) s)) s.at t.segments in
      let a = segments_grow f s.next (tell n s t) in
      let b = begun_grows n (pos (back_at (start_of n t.segments) s)) s.at t.segments in
      let c = begun_grows n (pos s.phone) s.frame back in
      omega arith

-- ---- a word and its frame in front

word_on : (W W' W'' : List ℤ) (F F' F'' : List ℕ) (at : ℕ) (w : ℤ) (f at' total : ℕ) (ws : List ℤ) (fs : List ℕ) → WordPut W' W'' F' F'' at w f at' → at + length ws ≡ total → W' ≡ sets W at ws → F' ≡ sets F at fs
    → (at' + length (with_word w ws) ≡ total) × (W'' ≡ sets W at' (with_word w ws)) × (F'' ≡ sets F at' (cond (nonzero w) (f ∷ fs) fs))
word_on W W' W'' F F' F'' at w f at' total ws fs (no_word e q a b) c u v = rw e (omega arith, rw q (a ∙ u), rw q (b ∙ v))
word_on W W' W'' F F' F'' at w f at' total ws fs (a_word e q a b) c u v =
    rw e (
      omega arith,
      a ∙ ap (λ (x : List ℤ). set x at' w) (u ∙ ap (λ (j : ℕ). sets W j ws) (sym q)) ∙ set_before W at' (suc at') w ws (omega arith),
      b ∙ ap (λ (x : List ℕ). set x at' f) (v ∙ ap (λ (j : ℕ). sets F j fs) (sym q)) ∙ set_before F at' (suc at') f fs (omega arith),
    )

-- ---- the writing walk

-- What is written of the records passed; the rest of the walk gives the whole.
pub record Writing (rs : List ℕ) (ls : List ℤ) (route : List ℕ) (n link : ℕ) (z : Size) (W : List ℤ) (F S : List ℕ) (W' : List ℤ) (F' S' : List ℕ) (at : ℕ) (head : Head) (r : ℕ) : Type 0 where
  pub trail : Trail
  pub chain : trail_from rs ls route n r trail ≡ trail_from rs ls route n link no_trail
  pub low : r ≤ link
  pub at_is : at + length trail.words ≡ z.words
  pub words : W' ≡ sets W at trail.words
  pub frames : F' ≡ sets F at trail.frames
  pub head_is : HeadIs n head trail.segments
  pub segments : Filled S S' z.segments (rest_of trail.segments)

module _ {rs : List ℕ} {ls : List ℤ} {route : List ℕ} {n link used : ℕ} (w : Walkable rs ls used) (low : link ≤ used) {z : Size} (size : SizeIs (trail_from rs ls route n link no_trail) used z) {W : List ℤ} {F S : List ℕ} (fit : Fits z W F S) where
  pub writing_none : (head : Head) → NoFront n head → Writing rs ls route n link z W F S W F S z.words head link
  writing_none head i = record { trail = no_trail; chain = refl; low = omega arith; at_is = omega arith; words = refl; frames = refl; head_is = i; segments = refl }

  module _ {W' : List ℤ} {F' S' : List ℕ} {at : ℕ} {k : Head} {r : ℕ} (i : Writing rs ls route n link z W F S W' F' S' at k r) where
    -- the lengths stay
    pub lengths : (length W' ≡ length W) × (length F' ≡ length F) × (length S' ≡ length S)
    lengths = (ap length i.words ∙ length-sets W at i.trail.words, ap length i.frames ∙ length-sets F at i.trail.frames, ap length i.segments ∙ length-sets S ((z.segments - length (rest_of i.trail.segments)) * 3) (flat (rest_of i.trail.segments)))

    -- one more record, number r
    module _ (s : Step) (d : r ≡ 0 → ⊥) (e : s ≡ step_of rs ls route n (r - 1)) where
      next_chain : trail_from rs ls route n s.next (tell n s i.trail) ≡ trail_from rs ls route n link no_trail
      next_chain = let y = i.low in rw e (sym (chain_next rs ls route n used w r (r - 1) i.trail (omega arith) (omega arith))) ∙ i.chain

      next_words : length (tell n s i.trail).words ≤ z.words
      next_words = let a = words_grow rs ls route n s.next s.next (tell n s i.trail) in let b = ap (λ (t : Trail). length t.words) next_chain in let c = size.words in omega arith

      next_segments : length (tell n s i.trail).segments ≤ z.segments
      next_segments = let a = segments_grow rs ls route n s.next s.next (tell n s i.trail) in let b = ap (λ (t : Trail). length t.segments) next_chain in let c = size.segments in omega arith

      abbrev back : List Segment
      back = begun n (pos (back_at (start_of n i.trail.segments) s)) s.at i.trail.segments

      pub word_asks : WordAsks W' F' at s.word
      unfolding tell
      word_asks =
          let l = lengths in
          let a = i.at_is in
          let y = fit.words in
          let x = fit.frames in
          record { some = λ t. let b : suc (length i.trail.words) ≤ z.words = rw t at next_words in omega arith; words = let v = l.0 in omega arith; frames = let v = l.1 in omega arith }

      pub first_asks : k.count ≤ z.segments
      unfolding tell
      first_asks =
          let a = count_is n k i.trail.segments i.head_is in
          let b = begun_grows n (pos (back_at (start_of n i.trail.segments) s)) s.at i.trail.segments in
          let c = begun_grows n (pos s.phone) s.frame back in
          let g = next_segments in
          omega arith

      module _ (j : Head) (a : j ≡ head_on k (back_in k s) s.at) where
        head_back : HeadIs n j back
        head_back =
            let t = i.trail.segments in
            let q : j ≡ head_on k (back_at (start_of n t) s) s.at = a ∙ ap (λ (x : ℕ). head_on k (back_at x s) s.at) (start_is n k t i.head_is) in
            subst (λ (x : Head). HeadIs n x back) (sym q) (head_begun n k (back_at (start_of n t) s) s.at t i.head_is)

        pub second_asks : j.count ≤ z.segments
        unfolding tell
        second_asks = let g = count_is n j back head_back in let c = begun_grows n (pos s.phone) s.frame back in let q = next_segments in omega arith

        pub writing_next : {W'' : List ℤ} {F'' S1 S2 : List ℕ} {at' : ℕ} {m : Head} → WordPut W' W'' F' F'' at s.word s.frame at' → Written S' S1 z.segments k j → BegunIn S1 S2 z.segments j s.phone s.frame m
            → Writing rs ls route n link z W F S W'' F'' S2 at' m s.next
        unfolding tell
        writing_next {W''} {F''} {S1} {S2} {at'} {m} put first second =
            let t = i.trail in
            let p = back_at (start_of n t.segments) s in
            let q : j ≡ head_on k p s.at = a ∙ ap (λ (x : ℕ). head_on k (back_at x s) s.at) (start_is n k t.segments i.head_is) in
            let c = count_is n k t.segments i.head_is in
            let c' = count_is n j back head_back in
            let l = first_asks in
            let l' = second_asks in
            let o = word_on W W' W'' F F' F'' at s.word s.frame at' z.words t.words t.frames put i.at_is i.words i.frames in
            let y = i.low in
            let x : s.next ≤ r - 1 = rw e (step_low rs ls route n used w (r - 1) (omega arith)) in
            let done = fill_begun S S' z.segments S1 n k j p s.at t.segments i.head_is (omega arith) q first i.segments in
            record {
              trail = tell n s t;
              chain = next_chain;
              low = omega arith;
              at_is = o.0;
              words = o.1;
              frames = o.2;
              head_is = head_told n k j m s t i.head_is a second.head;
              segments = fill_begun S S1 z.segments S2 n j m s.phone s.frame back head_back (omega arith) second.head second.written done;
            }

    -- the oldest record is passed
    module _ (e : r ≡ 0) where
      whole_is : i.trail ≡ trail_from rs ls route n link no_trail
      unfolding chain_trail
      whole_is = rw e at i.chain

      many : length i.trail.segments ≡ z.segments
      many = let a = ap (λ (t : Trail). length t.segments) whole_is in let c = size.segments in omega arith

      pub end_asks : k.count ≤ z.segments
      end_asks = let a = count_is n k i.trail.segments i.head_is in let b = many in omega arith

      ended : {S'' : List ℕ} → S'' ≡ sets S 0 (flat i.trail.segments) → Wrote (trail_from rs ls route n link no_trail) W F S W' F' S''
      ended {S''} q =
          let a : at ≡ 0 = let b = ap (λ (t : Trail). length t.words) whole_is in let c = size.words in let d = i.at_is in omega arith in
          subst (λ (t : Trail). Wrote t W F S W' F' S'') whole_is (record { words = i.words ∙ ap (λ (x : ℕ). sets W x i.trail.words) a; frames = i.frames ∙ ap (λ (x : ℕ). sets F x i.trail.frames) a; segments = q })

      pub end_none : k.count ≡ 0 → Wrote (trail_from rs ls route n link no_trail) W F S W' F' S'
      end_none c = go i.trail.segments i.head_is i.segments (λ q. ended q)
        where
          go : (ss : List Segment) → HeadIs n k ss → Filled S S' z.segments (rest_of ss) → (S' ≡ sets S 0 (flat ss) → Wrote (trail_from rs ls route n link no_trail) W F S W' F' S') → Wrote (trail_from rs ls route n link no_trail) W F S W' F' S'
          go [] h f g = g f
          go (s ∷ ss) h f g = absurd (let y = h.count in omega arith)

      pub end_put : {S'' : List ℕ} → (k.count ≡ 0 → ⊥) → S'' ≡ with_head S' z.segments k → Wrote (trail_from rs ls route n link no_trail) W F S W' F' S''
      end_put {S''} d q = go i.trail.segments i.head_is i.segments many (λ q. ended q)
        where
          go : (ss : List Segment) → HeadIs n k ss → Filled S S' z.segments (rest_of ss) → length ss ≡ z.segments → (S'' ≡ sets S 0 (flat ss) → Wrote (trail_from rs ls route n link no_trail) W F S W' F' S'') → Wrote (trail_from rs ls route n link no_trail) W F S W' F' S''
          go [] h f m g = absurd (d h.count)
          go (s ∷ ss) h f m g =
              let y : (z.segments - suc (length ss)) * 3 ≡ 0 = omega arith in
              g (q ∙ fill_more S S' z.segments n k s ss h (omega arith) f ∙ ap (λ (x : ℕ). sets S x (flat (s ∷ ss))) y)
