-- The walk down a chain of records, one record at a time. Assumes nothing.
use Rattle.std.specs.Prelude.{◌≡◌, ◌⊎◌, Bool, not, ◌||◌, cond, List, [], ◌∷◌, ℤ, pos, ltb, eqb, length, get_or, drop}
use Rattle.std.proofs.Math.Path.{refl}
use Rattle.std.proofs.Common.{sym, ◌∙◌, ap, subst, add-one, drop_of_length-le, eq-eqb, ne_eqb, ltb-true}
use Prim.Native.Nat.{ℕ, zero, suc, ◌+◌, ◌-◌, ◌*◌, ◌≤◌, ◌<◌}
use native.Mathlib.Omega.{arith}
use Rattle.std.proofs.Math.Bool.{true, false}
use Rattle.std.proofs.Math.Dec.{eqb-suc-zero}
use Rattle.lists.specs.Tests.{case, and_both}
use Rattle.lists.specs.Members.{drop_next}
use Rattle.model.specs.Basics.{eqℤ, nonzero}
use Rattle.model.specs.Path.{memℕ}
use Rattle.model.specs.Reads.{Segment}
use Rattle.records.specs.Layout.{prev_at, frame_at, starts_at, kept_at, word_at, kept_word_at, kept_starts_at, kept_phone_at, winner_at}
use Rattle.traceback.specs.declared.Step.{Step}
use Rattle.traceback.specs.declared.Head.{Head}
use Rattle.traceback.specs.Trail.{Trail, no_trail, segment, begun, start_of}
use Rattle.traceback.specs.Chain.{own_step, goes_on, kept_step, takes_kept, step_of, back_at, tell, chain_trail, trail_from, head_on, back_in, Walkable, SizeIs}

module _ (rs : List ℕ) (ls : List ℤ) (route : List ℕ) (n used : ℕ) (w : Walkable rs ls used) where
  pub step_low : (k : ℕ) → k < used → (step_of rs ls route n k).next ≤ k
  unfolding step_of kept_step own_step
  step_low k l = go (takes_kept rs ls route k)
    where
      go : (b : Bool) → (cond b (kept_step rs ls n k) (own_step rs ls k)).next ≤ k
      go true = w.kept_low k l
      go false = w.prev_low k l

  -- any two fuels that suffice
  enough : (f g r : ℕ) (t : Trail) → r ≤ f → r ≤ g → r ≤ used → chain_trail rs ls route n f r t ≡ chain_trail rs ls route n g r t
  unfolding chain_trail
  enough zero zero r t a b c = refl
  enough zero (suc g) zero t a b c = refl
  enough (suc f) zero zero t a b c = refl
  enough (suc f) (suc g) zero t a b c = refl
  enough zero (suc g) (suc k) t a b c = absurd (omega arith)
  enough (suc f) zero (suc k) t a b c = absurd (omega arith)
  enough (suc f) (suc g) (suc k) t a b c =
      let s = step_of rs ls route n k in
      let l = step_low k (omega arith) in
      enough f g s.next (tell n s t) (omega arith) (omega arith) (omega arith)

  -- record number k + 1
  pub chain_next : (r k : ℕ) (t : Trail) → r ≡ suc k → k < used → trail_from rs ls route n r t ≡ trail_from rs ls route n (step_of rs ls route n k).next (tell n (step_of rs ls route n k) t)
  unfolding chain_trail
  chain_next r k t e l =
      let s = step_of rs ls route n k in
      let z = step_low k l in
      rw e (enough k s.next s.next (tell n s t) z (omega arith) (omega arith))

-- ---- a record, as the code reads it

pos_some : (n : ℕ) → (n ≡ 0 → ⊥) → nonzero (pos n) ≡ true
pos_some zero d = absurd (d refl)
pos_some (suc n) d = refl

module _ (rs : List ℕ) (ls : List ℤ) (k : ℕ) where
  pub own_step_is : (p f st : ℕ) (z : ℤ) → p ≡ prev_at rs k → f ≡ frame_at rs k → z ≡ word_at ls k → st ≡ starts_at rs k → record { next = p; frame = f; word = z; phone = st; back = 0; at = 0 } ≡ own_step rs ls k
  unfolding own_step
  own_step_is p f st z a b c d i = record { next = a i; frame = b i; word = c i; phone = d i; back = 0; at = 0 }

  module _ (n p f st w kp : ℕ) (z : ℤ) (a : p ≡ kept_at rs k) (b : f ≡ frame_at rs k) (c : z ≡ kept_word_at ls k) (d : st ≡ kept_starts_at rs k) (e : w ≡ winner_at rs k) (g : kp ≡ kept_phone_at rs k) where
    tests : goes_on (kept_phone_at rs k) (winner_at rs k) (frame_at rs k) n ≡ goes_on kp w f n
    tests = rw (b, e, g)

    pub kept_step_on : goes_on kp w f n ≡ true → record { next = p; frame = f; word = z; phone = st; back = w; at = f + 1 } ≡ kept_step rs ls n k
    unfolding kept_step
    kept_step_on t = rw (tests ∙ t, add-one) (λ i. record { next = a i; frame = b i; word = c i; phone = d i; back = e i; at = suc (b i) })

    pub kept_step_off : goes_on kp w f n ≡ false → record { next = p; frame = f; word = z; phone = st; back = 0; at = 0 } ≡ kept_step rs ls n k
    unfolding kept_step
    kept_step_off t = rw (tests ∙ t) (λ i. record { next = a i; frame = b i; word = c i; phone = d i; back = 0; at = 0 })

pub goes_before : (kp w f n : ℕ) → goes_on kp w f n ≡ true → suc f < n
goes_before kp w f n e = ltb-true (suc f) n (and_both (not (eqb kp w)) (ltb (suc f) n) e).1

-- whether its kept history is taken
module _ (rs : List ℕ) (ls : List ℤ) (route : List ℕ) (k : ℕ) where
  pub takes_word : nonzero (word_at ls k) ≡ true → false ≡ takes_kept rs ls route k
  takes_word e = rw e

  pub takes_starts : nonzero (word_at ls k) ≡ false → (starts_at rs k ≡ 0 → ⊥) → false ≡ takes_kept rs ls route k
  takes_starts e d = rw (e, pos_some (starts_at rs k) d)

  pub takes_join : {b : Bool} (r : ℕ) → r ≡ suc k → nonzero (word_at ls k) ≡ false → starts_at rs k ≡ 0 → b ≡ memℕ r route → b ≡ takes_kept rs ls route k
  takes_join r q e d m = m ∙ rw (e, d, q)

  module _ (n : ℕ) where
    pub step_kept : takes_kept rs ls route k ≡ true → kept_step rs ls n k ≡ step_of rs ls route n k
    unfolding step_of
    step_kept e = rw e

    pub step_own : takes_kept rs ls route k ≡ false → own_step rs ls k ≡ step_of rs ls route n k
    unfolding step_of
    step_own e = rw e

-- ---- the oldest segment, in the code's registers

pub record Front (k : Head) (s : Segment) (later : ℕ) : Type 0 where
  pub count : k.count ≡ suc later
  pub phone : pos k.phone ≡ s.phone
  pub start : k.start ≡ s.start
  pub end : k.end ≡ s.end

pub record NoFront (n : ℕ) (k : Head) : Type 0 where
  pub count : k.count ≡ 0
  pub phone : k.phone ≡ 0
  pub start : k.start ≡ n

abbrev pub HeadIs : (n : ℕ) → Head → List Segment → Type 0
HeadIs n k [] = NoFront n k
HeadIs n k (s ∷ ss) = Front k s (length ss)

pub count_is : (n : ℕ) (k : Head) (ss : List Segment) → HeadIs n k ss → k.count ≡ length ss
count_is n k [] i = i.count
count_is n k (s ∷ ss) i = i.count

pub start_is : (n : ℕ) (k : Head) (ss : List Segment) → HeadIs n k ss → k.start ≡ start_of n ss
start_is n k [] i = i.start
start_is n k (s ∷ ss) i = i.start

pub head_few : (k : Head) (p f : ℕ) → (head_on k p f).count ≤ k.count + 1
unfolding head_on
head_few k p f = go (eqb p 0) (eqb k.phone p)
  where
    go : (a b : Bool)
        → (cond a k (cond b (record { count = k.count; phone = p; start = f; end = k.end }) (record { count = k.count + 1; phone = p; start = f; end = k.start }))).count ≤ k.count + 1
    go true b = omega arith
    go false true = omega arith
    go false false = omega arith

pub head_begun : (n : ℕ) (k : Head) (p f : ℕ) (ss : List Segment) → HeadIs n k ss → HeadIs n (head_on k p f) (begun n (pos p) f ss)
unfolding head_on
head_begun n k zero f ss i = i
head_begun n k (suc q) f [] i = rw (eqb-suc-zero q, ne_eqb k.phone (suc q) (λ e. let z = i.phone in omega arith)) (record { count = let z = i.count in omega arith; phone = refl; start = refl; end = i.start })
head_begun n k (suc q) f (s ∷ ss) i =
    rw (eqb-suc-zero q)
    (subst (λ (b : Bool). HeadIs n (cond (eqb k.phone (suc q)) (record { count = k.count; phone = suc q; start = f; end = k.end }) (record { count = k.count + 1; phone = suc q; start = f; end = k.start }))
    (cond b (segment (pos (suc q)) f s.end ∷ ss) (segment (pos (suc q)) f s.start ∷ (s ∷ ss)))) (ap (λ (x : ℤ). eqℤ x (pos (suc q))) i.phone) (go (eqb k.phone (suc q))))
  where
    go : (b : Bool)
        → HeadIs n (cond b (record { count = k.count; phone = suc q; start = f; end = k.end }) (record { count = k.count + 1; phone = suc q; start = f; end = k.start }))
        (cond b (segment (pos (suc q)) f s.end ∷ ss) (segment (pos (suc q)) f s.start ∷ (s ∷ ss)))
    go true = record { count = i.count; phone = refl; start = refl; end = i.end }
    go false = record { count = let z = i.count in omega arith; phone = refl; start = refl; end = i.start }

-- both starts of a record
pub head_told : (n : ℕ) (k j m : Head) (s : Step) (t : Trail) → HeadIs n k t.segments → j ≡ head_on k (back_in k s) s.at → m ≡ head_on j s.phone s.frame → HeadIs n m (tell n s t).segments
unfolding tell
head_told n k j m s t i a b =
    let back = begun n (pos (back_at (start_of n t.segments) s)) s.at t.segments in
    let e : j ≡ head_on k (back_at (start_of n t.segments) s) s.at = a ∙ ap (λ (x : ℕ). head_on k (back_at x s) s.at) (start_is n k t.segments i) in
    rw b (head_begun n j s.phone s.frame back (subst (λ (x : Head). HeadIs n x back) (sym e) (head_begun n k (back_at (start_of n t.segments) s) s.at t.segments i)))

-- ---- the counting walk

-- what is counted and what is still to come
pub record Measuring (rs : List ℕ) (ls : List ℤ) (route : List ℕ) (n link words : ℕ) (head : Head) (r : ℕ) : Type 0 where
  pub trail : Trail
  pub chain : trail_from rs ls route n r trail ≡ trail_from rs ls route n link no_trail
  pub words_are : words ≡ length trail.words
  pub head_is : HeadIs n head trail.segments
  pub few : words + r ≤ link
  pub many : head.count + r * 2 ≤ link * 2

module _ {rs : List ℕ} {ls : List ℤ} {route : List ℕ} {n : ℕ} (link : ℕ) where
  pub measuring_none : (head : Head) → NoFront n head → Measuring rs ls route n link 0 head link
  measuring_none head i = record { trail = no_trail; chain = refl; words_are = refl; head_is = i; few = omega arith; many = let z = i.count in omega arith }

  module _ {used : ℕ} (w : Walkable rs ls used) (low : link ≤ used) {words words' : ℕ} {k j m : Head} {r : ℕ} (s : Step) where
    pub measuring_next : (r ≡ 0 → ⊥) → s ≡ step_of rs ls route n (r - 1) → ((nonzero s.word ≡ true) × (words' ≡ words + 1)) ⊎ ((nonzero s.word ≡ false) × (words' ≡ words)) → j ≡ head_on k (back_in k s) s.at → m ≡ head_on j s.phone s.frame
        → Measuring rs ls route n link words k r → Measuring rs ls route n link words' m s.next
    unfolding tell
    measuring_next d e c a b i =
        let z : r ≡ suc (r - 1) = omega arith in
        let few = i.few in
        let many = i.many in
        let l = step_low rs ls route n used w (r - 1) (omega arith) in
        let le : s.next ≤ r - 1 = rw e l in
        record {
          trail = tell n s i.trail;
          chain = rw e (sym (chain_next rs ls route n used w r (r - 1) i.trail z (omega arith))) ∙ i.chain;
          words_are = case c (λ x. rw x.0 (let y = x.1 in let v = i.words_are in omega arith)) (λ x. rw x.0 (let y = x.1 in let v = i.words_are in omega arith));
          head_is = head_told n k j m s i.trail i.head_is a b;
          few = case c (λ x. let y = x.1 in omega arith) (λ x. let y = x.1 in omega arith);
          many =
              let y = head_few k (back_in k s) s.at in
              let v = head_few j s.phone s.frame in
              let ya : j.count ≤ k.count + 1 = rw a y in
              let vb : m.count ≤ j.count + 1 = rw b v in
              omega arith;
        }

  pub measuring_end : {used words : ℕ} {head : Head} {r : ℕ} → link ≤ used → r ≡ 0 → Measuring rs ls route n link words head r → SizeIs (trail_from rs ls route n link no_trail) used (record { words = words; segments = head.count })
  unfolding chain_trail
  measuring_end {r = r} l e i =
      let c : i.trail ≡ trail_from rs ls route n link no_trail = rw e at i.chain in
      record { words = rw (← c) i.words_are; segments = rw (← c) (count_is n _ i.trail.segments i.head_is); few = (let z = i.few in omega arith, let z = i.many in omega arith) }

-- ---- looking for a record on the route

module _ (route : List ℕ) (r i : ℕ) (so_far : memℕ r route ≡ memℕ r (drop i route)) where
  pub mem_end : length route ≤ i → false ≡ memℕ r route
  mem_end l = sym (so_far ∙ ap (memℕ r) (drop_of_length-le route {i = i} l))

  module _ (l : i < length route) where
    in_turn : memℕ r route ≡ (eqb r (get_or route i 0) || memℕ r (drop (i + 1) route))
    in_turn = so_far ∙ ap (memℕ r) (drop_next route i 0 l)

    pub mem_here : r ≡ get_or route i 0 → true ≡ memℕ r route
    mem_here e = sym (in_turn ∙ ap (λ (b : Bool). b || memℕ r (drop (i + 1) route)) (eq-eqb r (get_or route i 0) e))

    pub mem_not : (r ≡ get_or route i 0 → ⊥) → memℕ r route ≡ memℕ r (drop (i + 1) route)
    mem_not d = in_turn ∙ ap (λ (b : Bool). b || memℕ r (drop (i + 1) route)) (ne_eqb r (get_or route i 0) d)
