-- The walk down a chain is the definition's trace, whatever the records stand for. Assumes nothing.
use Rattle.std.specs.Prelude.{◌≡◌, Bool, ◌&&◌, cond, ℤ, pos, ltb, eqb, Float}
use Rattle.std.proofs.Math.Path.{refl, sym, ap}
use Rattle.std.proofs.Common.{◌∙◌, arith, eq-eqb, ne_eqb}
use Prim.Native.Nat.{ℕ, zero, suc, ◌-◌, ◌≤◌, ◌<◌}
use Rattle.std.proofs.Math.Bool.{true, false, not}
use mathlib.Core.List.Memᴰ.{head as here}
use mathlib.Core.List.Memᴰ.{tail as there}
use mathlib.Core.List.{List, [], ◌∷◌, map}
use Rattle.lists.specs.Tests.{case, lt_or_le, eq_or_not, or_neither}
use Rattle.lists.specs.Lists.{◌∈◌}
use Rattle.model.specs.Basics.{nonzero}
use Rattle.model.specs.Path.{Path, memℕ}
use Rattle.model.specs.Reads.{Segment, recs_on, trace}
use Rattle.records.specs.History.{History, tag}
use Rattle.records.specs.Layout.{Store, store, Rec, rec_at, is_link_rec, prev_at, kept_at, frame_at, starts_at, word_at, kept_word_at, kept_starts_at, kept_phone_at, winner_at}
use Rattle.records.specs.Stands.{Stands, top_by, tag_top}
use Rattle.stores.specs.Shown.{Is}
use Rattle.traceback.specs.declared.Step.{Step}
use Rattle.traceback.specs.Trail.{Trail, no_trail, begun, start_of, resumed, add_to, resumed_in, trail_of, add_nothing}
use Rattle.traceback.specs.Along.{history_trail, path_trail}
use Rattle.traceback.specs.Chain.{takes_kept, own_step, kept_step, back_at, tell, chain_trail, trail_from}
use Rattle.traceback.specs.Walk.{step_own, step_kept}

-- the model's numbers of records: of the joins on a route
abbrev pub numbers_of : (ℕ → History) → List ℕ → List ℕ
numbers_of h route = map (λ (r : ℕ). tag (h r) - 1) route

-- a route names records in use
abbrev pub Routed : (used : ℕ) → List ℕ → Type 0
Routed used route = (r : ℕ) → r ∈ route → (0 < r) × (r ≤ used)

-- ---- what a record adds

-- nothing goes on
begun_none : (n start : ℕ) (s : Step) (ss : List Segment) → s.back ≡ 0 → begun n (pos (back_at start s)) s.at ss ≡ ss
begun_none n start s ss e = rw e (go (eqb start s.at))
  where
    go : (b : Bool) → begun n (pos (cond b 0 0)) s.at ss ≡ ss
    go true = refl
    go false = refl

module _ (rs : List ℕ) (ls : List ℤ) (n k : ℕ) (t : Trail) where
  abbrev told : Step → List Segment → Trail
  told s ss = add_to n s.frame s.word (pos s.phone) (record { words = t.words; frames = t.frames; segments = ss })

  tell_own : tell n (own_step rs ls k) t ≡ add_to n (frame_at rs k) (word_at ls k) (pos (starts_at rs k)) t
  unfolding tell own_step
  tell_own = ap (told (own_step rs ls k)) (begun_none n (start_of n t.segments) (own_step rs ls k) t.segments refl)

  back_is : begun n (pos (back_at (start_of n t.segments) (kept_step rs ls n k))) (kept_step rs ls n k).at t.segments ≡ resumed n (frame_at rs k) (pos (kept_phone_at rs k)) (pos (winner_at rs k)) t.segments
  unfolding kept_step
  back_is = go (not (eqb (kept_phone_at rs k) (winner_at rs k))) (ltb (suc (frame_at rs k)) n)
    where
      ss : List Segment
      ss = t.segments

      f : ℕ
      f = frame_at rs k

      w : ℕ
      w = winner_at rs k

      last : (c : Bool) → begun n (pos (cond c 0 w)) (suc f) ss ≡ cond (not c) (begun n (pos w) (suc f) ss) ss
      last true = refl
      last false = refl

      none : (c : Bool) → begun n (pos (cond c 0 0)) 0 ss ≡ ss
      none true = refl
      none false = refl

      go : (a l : Bool) → begun n (pos (cond (eqb (start_of n ss) (cond (a && l) (suc f) 0)) 0 (cond (a && l) w 0))) (cond (a && l) (suc f) 0) ss ≡ cond (a && l && not (eqb (start_of n ss) (suc f))) (begun n (pos w) (suc f) ss) ss
      go true true = last (eqb (start_of n ss) (suc f))
      go true false = none (eqb (start_of n ss) 0)
      go false true = none (eqb (start_of n ss) 0)
      go false false = none (eqb (start_of n ss) 0)

  tell_kept : tell n (kept_step rs ls n k) t ≡ add_to n (frame_at rs k) (kept_word_at ls k) (pos (kept_starts_at rs k)) (resumed_in n (frame_at rs k) (pos (kept_phone_at rs k)) (pos (winner_at rs k)) t)
  unfolding tell kept_step
  tell_kept = ap (told (kept_step rs ls n k)) back_is

-- ---- the route, by record numbers and by the model's

module _ {s : Store} {used : ℕ} {h : ℕ → History} (ok : Stands s used h) (k num : ℕ) (l : k < used) (e : tag (h (suc k)) ≡ suc num) where
  test_same : (r : ℕ) → 0 < r → r ≤ used → eqb num (tag (h r) - 1) ≡ eqb (suc k) r
  test_same r a b = case (eq_or_not (suc k) r) (λ q. eq-eqb num (tag (h r) - 1) (let z : tag (h r) ≡ suc num = rw (← q) e in omega arith) ∙ sym (eq-eqb (suc k) r q))
      (λ q. ne_eqb num (tag (h r) - 1) (λ z. case (lt_or_le r (suc k)) (λ y. let v = ok.ascends r (suc k) y l in let u = ok.ascends 0 r a b in omega arith) (λ y. let v = ok.ascends (suc k) r (omega arith) b in omega arith)) ∙ sym (ne_eqb (suc k) r q))

  mem_same : (route : List ℕ) → Routed used route → memℕ num (numbers_of h route) ≡ memℕ (suc k) route
  mem_same [] d = refl
  mem_same (r ∷ route) d =
      let z = d r (here refl) in
      rw (test_same r z.0 z.1, mem_same route (λ x m. d x (there m)))

-- ---- the walk

module _ (rs : List ℕ) (ls : List ℤ) (gs : List Float) (route : List ℕ) (n used : ℕ) (h : ℕ → History) (ok : Stands (store rs ls gs) used h) (routed : Routed used route) where
  abbrev along : ℕ → Trail → Trail
  along r t = history_trail (numbers_of h route) n (h r) t

  module _ (f k : ℕ) (t : Trail) (l : k < used) where
    abbrev rec : Rec
    rec = rec_at (store rs ls gs) k

    abbrev num : ℕ
    num = (ok.each k l).number

    abbrev before : Trail
    before = add_to n (frame_at rs k) (word_at ls k) (pos (starts_at rs k)) t

    abbrev beside : Trail
    beside = add_to n (frame_at rs k) (kept_word_at ls k) (pos (kept_starts_at rs k)) (resumed_in n (frame_at rs k) (pos (kept_phone_at rs k)) (pos (winner_at rs k)) t)

    own_way : takes_kept rs ls route k ≡ false → chain_trail rs ls route n (suc f) (suc k) t ≡ chain_trail rs ls route n f (prev_at rs k) before
    unfolding chain_trail own_step
    own_way e = ap (λ (x : Step). chain_trail rs ls route n f x.next (tell n x t)) (sym (step_own rs ls route k n e)) ∙ ap (chain_trail rs ls route n f (prev_at rs k)) (tell_own rs ls n k t)

    kept_way : takes_kept rs ls route k ≡ true → chain_trail rs ls route n (suc f) (suc k) t ≡ chain_trail rs ls route n f (kept_at rs k) beside
    unfolding chain_trail kept_step
    kept_way e = ap (λ (x : Step). chain_trail rs ls route n f x.next (tell n x t)) (sym (step_kept rs ls route k n e)) ∙ ap (chain_trail rs ls route n f (kept_at rs k)) (tell_kept rs ls n k t)

    stands_as : (b : Bool) → is_link_rec rec ≡ b → h (suc k) ≡ top_by b rec num (h (prev_at rs k)) (h (kept_at rs k))
    unfolding rec_at
    stands_as b e = (ok.each k l).is ∙ ap (λ (x : Bool). top_by x rec num (h (prev_at rs k)) (h (kept_at rs k))) e

    on_route : memℕ num (numbers_of h route) ≡ memℕ (suc k) route
    on_route = mem_same ok k num l (ap tag (ok.each k l).is ∙ tag_top rec num (h rec.prev) (h rec.kept)) route routed

    as_link : is_link_rec rec ≡ true → along (suc k) t ≡ along (prev_at rs k) before
    unfolding history_trail rec_at
    as_link e = ap (λ (x : History). history_trail (numbers_of h route) n x t) (stands_as true e)

    abbrev fork : Bool → Trail
    fork m = elim m as (λ x. Trail) [ true ↦ along (kept_at rs k) beside | false ↦ along (prev_at rs k) t ]

    as_join : (m : Bool) → is_link_rec rec ≡ false → memℕ (suc k) route ≡ m → along (suc k) t ≡ fork m
    unfolding history_trail rec_at
    as_join m e q = ap (λ (x : History). history_trail (numbers_of h route) n x t) (stands_as false e) ∙ ap fork (on_route ∙ q)

    -- the two agree at a record, where they do at the records that it names
    chain_step : ((u : Trail) → chain_trail rs ls route n f (prev_at rs k) u ≡ along (prev_at rs k) u) → ((u : Trail) → chain_trail rs ls route n f (kept_at rs k) u ≡ along (kept_at rs k) u) → chain_trail rs ls route n (suc f) (suc k) t ≡ along (suc k) t
    unfolding rec_at
    chain_step own kept = go (is_link_rec rec) refl (memℕ (suc k) route) refl
      where
        go : (b : Bool) → is_link_rec rec ≡ b → (m : Bool) → memℕ (suc k) route ≡ m → chain_trail rs ls route n (suc f) (suc k) t ≡ along (suc k) t
        go true e m q = own_way (ap (λ (x : Bool). not x && memℕ (suc k) route) e) ∙ own before ∙ sym (as_link e)
        go false e true q = kept_way (ap (λ (x : Bool). not x && memℕ (suc k) route) e ∙ q) ∙ kept beside ∙ sym (as_join true e q)
        go false e false q =
            let z = or_neither (nonzero (word_at ls k)) (nonzero (pos (starts_at rs k))) e in
            own_way (ap (λ (x : Bool). not x && memℕ (suc k) route) e ∙ q) ∙ own before ∙ ap (along (prev_at rs k)) (add_nothing n (frame_at rs k) (word_at ls k) (pos (starts_at rs k)) t z.0 z.1) ∙ sym (as_join false e q)

  chain_history : (f r : ℕ) (t : Trail) → r ≤ f → r ≤ used → chain_trail rs ls route n f r t ≡ along r t
  unfolding chain_trail history_trail rec_at
  chain_history zero zero t a b = rw ok.none
  chain_history (suc f) zero t a b = rw ok.none
  chain_history zero (suc k) t a b = absurd (omega arith)
  chain_history (suc f) (suc k) t a b =
      let p = (ok.each k b).prev_low in
      let q = (ok.each k b).kept_low in
      chain_step f k t b (λ u. chain_history f (prev_at rs k) u (omega arith) (omega arith)) (λ u. chain_history f (kept_at rs k) u (omega arith) (omega arith))

  -- a trace of the path that record `link` stands for
  pub trail_is : (link : ℕ) (p : Path) (cost : Float) → Is h used link p → trace n (numbers_of h route) p cost ≡ (let o = trail_from rs ls route n link no_trail in record { words = o.words; word_frames = o.frames; phones = o.segments; cost = cost })
  unfolding trace trail_of
  trail_is link p cost i =
      let e : trail_of n (recs_on (numbers_of h route) n p []) ≡ trail_from rs ls route n link no_trail =
      path_trail (numbers_of h route) n p [] i.own i.frames ∙ ap (λ (x : History). history_trail (numbers_of h route) n x no_trail) (sym i.is) ∙ sym (chain_history link link no_trail (omega arith) i.low) in
      ap (λ (o : Trail). record { words = o.words; word_frames = o.frames; phones = o.segments; cost = cost }) e
