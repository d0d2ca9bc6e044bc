-- One arriving arc, from what its parts leave to what the definition gives. Assumes nothing.
use Rattle.std.specs.Prelude.{is_some, ◌≡◌, ℕ, suc, ◌+◌, ◌*◌, ◌^◌, ◌<◌, ◌≤◌, Bool, true, false, cond, ◌⊎◌, List, ◌∷◌, ◌++◌, length, ℤ, nat_lt, slice_index_or, slice_set, Float, Result, Ok, Err}
use Rattle.std.proofs.Math.Path.{refl, ap, subst}
use Rattle.std.proofs.Common.{sym, ◌∙◌, inl, inr}
use native.Mathlib.Omega.{arith}
use Rattle.std.proofs.Math.Option.{Option, none, some}
use Rattle.lists.specs.Tests.{case, or_neither}
use Rattle.real32.specs.Small.{tame}
use Rattle.model.specs.Basics.{◌≺◌, ◌≼◌, ◌⊖◌, Outcome, ok}
use Rattle.model.specs.Graph.{Arc}
use Rattle.model.specs.Path.{Path, Token, paths}
use Rattle.model.specs.Arrive.{Pass, total, Here, Work, Meets as Met, past_cutoff, vacant, better, not_better, against, meets, path_in_hand, Change, arc_cut, token_stays, token_wins, token_joins, settle, passed, put, place_of}
use Rattle.model.proofs.Came.{SettledBy, settle_settled}
use Rattle.model.specs.Accepted.{Ok as Accepted}
use Rattle.tokens.specs.declared.Token.{Token as Stored}
use Rattle.tokens.specs.Layout.{Cell, cell_at, requeued_at, place_in, TokenPut, token_of}
use Rattle.records.specs.History.{History}
use Rattle.records.specs.Layout.{store, Room}
use Rattle.records.specs.Stands.{Stands}
use Rattle.compaction.specs.declared.Made.{Made}
use Rattle.compaction.specs.Count.{Known, Tight}
use Rattle.compaction.specs.Carried.{Holds}
use Rattle.copy_laws.specs.Tables.{vacant as vacancies}
use Rattle.copy_laws.proofs.Tables.{vacant_fill, vacant_same}
use Rattle.stores.specs.Shown.{Shows, shows_none, shows_token, Shown}
use Rattle.stores.specs.Grown.{Grown, is_grown, shown_grown}
use Rattle.stores.specs.Tables.{shown_put, shown_aside}
use Rattle.stores.specs.Rep.{Lent, lent, store_of, Rep, rep_as, room_as, Old}
use Rattle.stores.specs.Roots.{rep_known, rep_covers, rep_holds}
use Rattle.stores.specs.Moved.{rep_moved}
use Rattle.arrivals.specs.declared.Arrival.{Arrival}
use Rattle.arrivals.specs.declared.Setting.{Setting}
use Rattle.arrivals.specs.declared.Going.{Going}
use Rattle.arrivals.specs.declared.Counts.{Counts}
use Rattle.arrivals.specs.declared.Settled.{Settled}
use Rattle.arrivals.specs.declared.Settled.TheVariants.{Stays as Stay, Wins as Win, Joins as Join}
use Rattle.arrivals.specs.declared.Arrived.{Arrived}
use Rattle.arrivals.specs.declared.Arrived.TheVariants.{Cut, Stays, Wins, Joins}
use Rattle.arrivals.specs.Arrival.{links, is_cut_off, meets_at, cut_test, meets_same}
use Rattle.arrivals.specs.Settled.{with_link, counts, SettleAsks, SettledIs}
use Rattle.arrivals.specs.Settles.{Scene, TokenOn, SettleEnds, ends_refused, ends_stays, ends_wins, ends_joins, settled_is}
use Rattle.arrivals.specs.Room.{RoomIs, not_wanted, room_made}
use Rattle.arrivals.specs.Stood.{Stood, Given, ArrivedBy, arrived_refused, arrived_cut, arrived_stays, arrived_wins, arrived_joins}
use Rattle.refusals.specs.declared.Reason.{Reason}
use Rattle.refusals.specs.declared.Reason.TheVariants.{SumTooLarge}

abbrev pub going : (used seq link : ℕ) → Going
going u q l = record { used = u; seq = q; link = l }

-- what the definition gives
abbrev pub comes_of : {g : Setting} {m : Lent} {cutoff : Float} {y : Going} {x : Stored} {a : Arrival} → Given g m cutoff y x a → Outcome Change
comes_of G = settle G.H G.P G.t G.arc G.w (meets G.w.cutoff (total G.H.graph G.P G.t G.arc) (place_of G.w G.arc))

-- what one arriving arc leaves
abbrev pub ArriveIs : (g : Setting) → (m m' : Lent) → (cutoff : Float) → Going → Stored → Arrival → Result Arrived Reason → Type 0
ArriveIs g m m' cutoff y x a r = (G : Given g m cutoff y x a) → ArrivedBy g m m' G.H G.P G.t G.arc G.w G.done (comes_of G) r

-- ---- seqs

module _ (H : Here) (P : Pass) (t : Token) (arc : Arc) (w : Work) (cut tot : Float) (inside : arc.target < length w.table) (few : w.seq + vacancies w.table < 2 ^ 32) (u : Token) where
  -- There is still a seq for every state without a token.
  abbrev Left : ℕ → Type 0
  Left q = q + vacancies (slice_set w.table arc.target (some u)) < 2 ^ 32

  filled : place_of w arc ≡ none → (q : ℕ) → q ≡ suc w.seq → Left q
  filled e q d = omega (arith, vacant_fill w.table arc.target u inside e)

  replaced : (held : Token) → place_of w arc ≡ some held → Left w.seq
  replaced held e = omega (arith, vacant_same w.table arc.target held u e)

  settled_by : (z : Change) (m : Met) → settle H P t arc w m ≡ ok z → SettledBy H P t arc w m z
  settled_by z m e = subst (Accepted (SettledBy H P t arc w m)) e (settle_settled H P t arc w m)

  abbrev seq_of : Change → ℕ
  seq_of arc_cut = 0
  seq_of token_stays = 0
  seq_of (token_wins v q) = suc q
  seq_of (token_joins v) = 0

  -- by what the arc met
  abbrev of_met : Bool → Option Token → Met
  of_met b o = elim b as (λ x. Met) [ true ↦ past_cutoff | false ↦ against tot o ]

  abbrev of_cost : Bool → Token → Met
  of_cost b held = cond b (better (held.cost ⊖ tot) held) (not_better (tot ⊖ held.cost) held)

  wins_left : (q : ℕ) (b : Bool) (o : Option Token) → place_of w arc ≡ o → settle H P t arc w (of_met b o) ≡ ok (token_wins u q) → Left q
  wins_left q true o e s = let z = ap seq_of (settled_by (token_wins u q) past_cutoff s) in absurd (omega arith)
  wins_left q false none e s = let z = ap seq_of (settled_by (token_wins u q) vacant s).2 in filled e q (omega arith)
  wins_left q false (some held) e s = go (tot ≺ held.cost) s
    where
      go : (b : Bool) → settle H P t arc w (of_cost b held) ≡ ok (token_wins u q) → Left q
      go true s = let z = ap seq_of (settled_by (token_wins u q) (better (held.cost ⊖ tot) held) s).2.2 in subst Left (omega arith) (replaced held e)
      go false s = case (settled_by (token_wins u q) (not_better (tot ⊖ held.cost) held) s).1 (λ z. let k = ap seq_of z in absurd (omega arith)) (λ z. let k = ap seq_of z in absurd (omega arith))

  abbrev joins_of : Change → ℕ
  joins_of arc_cut = 0
  joins_of token_stays = 0
  joins_of (token_wins v q) = 0
  joins_of (token_joins v) = 1

  joins_left : (b : Bool) (o : Option Token) → place_of w arc ≡ o → settle H P t arc w (of_met b o) ≡ ok (token_joins u) → Left w.seq
  joins_left true o e s = let z = ap joins_of (settled_by (token_joins u) past_cutoff s) in absurd (omega arith)
  joins_left false none e s = let z = ap joins_of (settled_by (token_joins u) vacant s).2 in absurd (omega arith)
  joins_left false (some held) e s = replaced held e

  pub seqs_won : (q : ℕ) → settle H P t arc w (meets cut tot (place_of w arc)) ≡ ok (token_wins u q) → Left q
  unfolding meets
  seqs_won q = wins_left q (cut ≼ tot) (place_of w arc) refl

  pub seqs_joined : settle H P t arc w (meets cut tot (place_of w arc)) ≡ ok (token_joins u) → Left w.seq
  unfolding meets
  seqs_joined = joins_left (cut ≼ tot) (place_of w arc) refl

-- ---- what the tests say

module _ (g : Setting) (m : Lent) (cutoff : Float) (y : Going) (x : Stored) (a : Arrival) (G : Given g m cutoff y x a) where
  abbrev H : Here
  H = G.H

  abbrev P : Pass
  P = G.P

  abbrev t : Token
  t = G.t

  abbrev arc : Arc
  arc = G.arc

  abbrev w : Work
  w = G.w

  abbrev tot : Float
  tot = total H.graph P t arc

  abbrev cell : Cell
  cell = cell_at m.tokens m.sums (place_in g.side a.target)

  abbrev By : Lent → Result Arrived Reason → Type 0
  By m' r = ArrivedBy g m m' H P t arc w G.done (comes_of G) r

  -- the code's test is the model's
  test_is : (w.cutoff ≼ tot) ≡ is_cut_off (meets_at cutoff a.total cell)
  test_is = ap (λ (z : Float). z ≼ tot) G.cutoff_is ∙ ap (λ (z : Float). cutoff ≼ z) (sym G.arrival.total) ∙ sym (cut_test cutoff a.total cell)

  -- at or above the cutoff
  pub cut_is : is_cut_off (meets_at cutoff a.total cell) ≡ true → (m' : Lent) → m' ≡ m → By m' (Ok Cut)
  unfolding meets settle
  cut_is e m' q = rw (test_is ∙ e, meets) (arrived_cut q)

  pub old_is : Old g.side g.states g.cap m G.done
  old_is = let r = G.stood.rep in record { h = r.h; used = y.used; fits = G.stood.fits; stands = r.stands; finished = r.finished }

  -- the live paths, as the model lists them
  live_is : (F : List Path → Type 0) → F (t.path ∷ (paths w.table ++ paths G.done)) → F (path_in_hand H w t.path)
  live_is F = subst (λ (qs : List Path). F (t.path ∷ (paths w.table ++ qs))) (sym G.pass.before)

  -- what safety asks first
  pub target_room : (a.target * 8 + 8 ≤ length m.tokens) × (a.target * 4 + 4 ≤ length m.sums)
  target_room = let p = G.stood.places in let l = G.target in (omega (arith, p.tokens), omega (arith, p.sums))

  pub room_asks : Holds (store_of m) m.tokens (g.states * 2) y.used y.link
  room_asks = rep_holds G.pass.side G.stood.rep g.cap G.stood.fits G.pass.small G.stood.places

  -- 12, for the total
  pub total_refused : is_cut_off (meets_at cutoff a.total cell) ≡ false → tame a.total ≡ false → By m (Err SumTooLarge)
  unfolding meets settle
  total_refused e q = go (place_of w arc)
    where
      big : tame tot ≡ false
      big = ap tame (sym G.arrival.total) ∙ q

      go : (o : Option Token) → ArrivedBy g m m H P t arc w G.done (settle H P t arc w (meets w.cutoff tot o)) (Err SumTooLarge)
      go none = rw (test_is ∙ e, meets, big) (arrived_refused SumTooLarge old_is)
      go (some u) = rw (test_is ∙ e, meets) (of_cost (tot ≺ u.cost))
        where
          of_cost : (b : Bool) → ArrivedBy g m m H P t arc w G.done (settle H P t arc w (cond b (better (u.cost ⊖ tot) u) (not_better (tot ⊖ u.cost) u))) (Err SumTooLarge)
          of_cost true = rw big (arrived_refused SumTooLarge old_is)
          of_cost false = rw big (arrived_refused SumTooLarge old_is)

  -- ---- with room made

  module _ (passes : is_cut_off (meets_at cutoff a.total cell) ≡ false) (small : tame a.total ≡ true) (tk₁ rs₁ : List ℕ) (ls₁ : List ℤ) (gs₁ : List Float) (long : length tk₁ ≡ length m.tokens) (room : Room (store rs₁ ls₁ gs₁) g.cap) where
    abbrev m₁ : Lent
    m₁ = lent tk₁ m.sums rs₁ ls₁ gs₁

    abbrev x₁ : Made → Stored
    x₁ v = with_link x v.x

    abbrev y₁ : Made → Going
    y₁ v = going v.used y.seq v.x

    -- the stores stand for the same work, and the meter is exact
    pub record Ready (v : Made) : Type 0 where
      pub stood : Stood g m₁ (y₁ v) G.done t.path w
      pub scene : Scene H P t arc w g (x₁ v) a (store_of m₁) v.used stood.rep.h

    -- from what the stores stand for
    make_ready : (v : Made) (r : Rep g.side g.states m₁ v.used v.x t.path G.done w.table w.fresh) → v.used ≤ g.cap → ((q : ℕ) → requeued_at tk₁ q ≡ requeued_at m.tokens q)
        → (Tight 2 g.cap r.h v.used (path_in_hand H w t.path) ⊎ ((links (x₁ v) a ≡ false) × (is_some g.margin ≡ false))) → Ready v
    make_ready v r f e d =
        let z = G.stood in
        let c = G.pass in
        record {
          stood = record {
            places = record { tokens = let k = z.places.tokens in omega arith; sums = z.places.sums; store = room };
            fits = f;
            rep = r;
            seq = z.seq;
            seqs = z.seqs;
            requeued = λ s l. z.requeued s l ∙ ap (nat_lt 0) (sym (e (place_in g.side s)));
          };
          scene = record {
            arrival = G.arrival;
            phone = G.phone;
            frame = c.frame;
            margin = c.margin;
            full = c.full;
            fits = f;
            stands = r.stands;
            hand = r.hand;
            newest = r.newest;
            known = live_is (Known r.h v.used) (rep_known c.side r);
            meter = d;
          };
        }

    pub ready : (v : Made) → RoomIs (store_of m) (store rs₁ ls₁ gs₁) m.tokens tk₁ g y.used (with_link x y.link) a v → Ready v
    ready v (not_wanted e s k) =
        let d : m₁ ≡ m = λ i. lent (k i) m.sums (s i).records (s i).labels (s i).gaps in
        make_ready v (rep_as m m₁ d G.stood.rep) G.stood.fits (λ q. ap (λ (l : List ℕ). requeued_at l q) k) (inr (or_neither (links (with_link x y.link) a) (is_some g.margin) e))
    ready v (room_made R) =
        let r = G.stood.rep in
        let c = R.carried in
        make_ready v (rep_moved G.pass.side r c) (let a = c.few in let b = G.stood.fits in omega arith) c.others.requeued
        (inl (live_is (Tight 2 g.cap (λ j. r.h (c.old j)) v.used) (R.tight r.h (t.path ∷ (paths w.table ++ paths G.done)) r.stands (rep_covers G.pass.side r))))

    -- ---- and the arc settled

    -- What `arrive` gives for what `settle` gave; where that is a token, once it is put.
    abbrev pub FinishedBy : Made → (rs₂ : List ℕ) → (ls₂ : List ℤ) → (gs₂ : List Float) → Result Settled Reason → Type 0
    FinishedBy v rs₂ ls₂ gs₂ (Err e) = By (lent tk₁ m.sums rs₂ ls₂ gs₂) (Err e)
    FinishedBy v rs₂ ls₂ gs₂ (Ok Stay) = By (lent tk₁ m.sums rs₂ ls₂ gs₂) (Ok (Stays (going v.used y.seq v.x)))
    FinishedBy v rs₂ ls₂ gs₂ (Ok (Win z k)) =
        (tk₂ : List ℕ) (sm₂ : List Float) → length tk₂ ≡ length tk₁ → length sm₂ ≡ length m.sums → TokenPut tk₁ tk₂ m.sums sm₂ (place_in g.side a.target) z → By (lent tk₂ sm₂ rs₂ ls₂ gs₂) (Ok (Wins (going k.used k.seq v.x)))
    FinishedBy v rs₂ ls₂ gs₂ (Ok (Join z k)) =
        (tk₂ : List ℕ) (sm₂ : List Float) → length tk₂ ≡ length tk₁ → length sm₂ ≡ length m.sums → TokenPut tk₁ tk₂ m.sums sm₂ (place_in g.side a.target) z → By (lent tk₂ sm₂ rs₂ ls₂ gs₂) (Ok (Joins (going k.used k.seq v.x)))

    module _ (v : Made) (R : Ready v) (rs₂ : List ℕ) (ls₂ : List ℤ) (gs₂ : List Float) (room₂ : Room (store rs₂ ls₂ gs₂) g.cap) where
      abbrev m₂ : Lent
      m₂ = lent tk₁ m.sums rs₂ ls₂ gs₂

      abbrev h : ℕ → History
      h = R.stood.rep.h

      -- the state's place, before and after room was made
      shows : Shows h v.used (cell_at tk₁ m.sums (place_in g.side a.target)) (place_of w arc)
      shows = subst (λ (s : ℕ). Shows h v.used (cell_at tk₁ m.sums (place_in g.side a.target)) (slice_index_or w.table s none)) G.arrival.target (R.stood.rep.progress.place a.target G.target)

      shown : Shows G.stood.rep.h y.used cell (place_of w arc)
      shown = subst (λ (s : ℕ). Shows G.stood.rep.h y.used cell (slice_index_or w.table s none)) G.arrival.target (G.stood.rep.progress.place a.target G.target)

      -- a state that has no token yet leaves a seq for it
      seq_left : place_of w arc ≡ none → suc w.seq < 2 ^ 32
      seq_left e =
          let l : arc.target < length w.table = let z = R.stood.rep.progress.size in let k = G.target in let d = G.arrival.target in omega arith in
          omega (arith, vacant_fill w.table arc.target t l e, G.stood.seqs)

      settled : (r : Result Settled Reason) → SettledIs (store_of m₁) (store_of m₂) g (counts v.used y.seq) (x₁ v) a (cell_at tk₁ m.sums (place_in g.side a.target)) (meets_at cutoff a.total cell) r
          → SettleEnds h v.used (store_of m₁) (store_of m₂) g.cap w.fresh w.seq (comes_of G) r
      settled r f =
          let c₁ = cell_at tk₁ m.sums (place_in g.side a.target) in
          let e : cutoff ≼ a.total ≡ false = sym (cut_test cutoff a.total cell) ∙ passes in
          let k = counts v.used y.seq in
          let same = meets_same G.stood.rep.h h y.used v.used cutoff a.total cell c₁ (place_of w arc) shown shows in
          subst (λ (z : Met). SettleEnds h v.used (store_of m₁) (store_of m₂) g.cap w.fresh w.seq (settle H P t arc w z) r) (λ i. meets (sym G.cutoff_is i) (G.arrival.total i) (place_of w arc))
          (settled_is H P t arc w g k (x₁ v) a (store_of m₁) h R.scene (ap tame (sym G.arrival.total) ∙ small) R.stood.seq (store_of m₂) c₁ cutoff a.total G.arrival.total e seq_left (place_of w arc) refl shows r
          (subst (λ z. SettledIs (store_of m₁) (store_of m₂) g k (x₁ v) a c₁ z r) same f))

      -- ---- the stores after it

      grown_old : (h' : ℕ → History) (used' : ℕ) → used' ≤ g.cap → Grown h v.used h' used' → Stands (store_of m₂) used' h' → Old g.side g.states g.cap m₂ G.done
      grown_old h' used' fits gr st = record { h = h'; used = used'; fits = fits; stands = st; finished = shown_grown gr R.stood.rep.finished }

      -- the same work, two numbers later
      later : m₂ ≡ m₁ → Stood g m₂ (y₁ v) G.done t.path (passed P tot w)
      unfolding passed
      later e =
          let z = R.stood in
          subst (λ (n : Lent). Stood g n (y₁ v) G.done t.path (passed P tot w)) (sym e)
          (record {
            places = z.places;
            fits = z.fits;
            rep = record { h = h; stands = z.rep.stands; finished = z.rep.finished; progress = z.rep.progress; hand = z.rep.hand; newest = let k = z.rep.newest in omega arith };
            seq = z.seq;
            seqs = z.seqs;
            requeued = z.requeued;
          })

      -- with a token put
      put_on : (z : Stored) (k : Counts) (u : Token) (q : ℕ) → TokenOn h v.used (store_of m₂) k.used g.cap z u (w.fresh + 2) → q ≡ k.seq → q + vacancies (slice_set w.table arc.target (some u)) < 2 ^ 32
          → (tk₂ : List ℕ) (sm₂ : List Float) → length tk₂ ≡ length tk₁ → length sm₂ ≡ length m.sums → TokenPut tk₁ tk₂ m.sums sm₂ (place_in g.side a.target) z
          → Stood g (lent tk₂ sm₂ rs₂ ls₂ gs₂) (going k.used k.seq v.x) G.done t.path (put arc.target u q (passed P tot w))
      unfolding put passed
      put_on z k u q T e few tk₂ sm₂ lt ls p =
          let s = R.stood in
          record {
            places = record { tokens = let c = s.places.tokens in omega arith; sums = let c = s.places.sums in omega arith; store = room₂ };
            fits = T.fits;
            rep = record {
              h = T.h';
              stands = T.stands;
              finished = shown_aside g.side a.target G.pass.side p (shown_grown T.grown s.rep.finished);
              progress = subst (λ (i : ℕ). Shown T.h' k.used tk₂ sm₂ g.side g.states (slice_set w.table i (some u))) G.arrival.target (shown_put G.target p T.token (shown_grown T.grown s.rep.progress));
              hand = is_grown T.grown s.rep.hand;
              newest = T.newest;
            };
            seq = e;
            seqs = few;
            requeued = λ r l. s.requeued r l ∙ ap (nat_lt 0) (sym (p.requeued (place_in g.side r)));
          }

      inside : arc.target < length w.table
      inside = let z = R.stood.rep.progress.size in let k = G.target in let d = G.arrival.target in omega arith

      finish_by : (o : Outcome Change) → comes_of G ≡ o → (r : Result Settled Reason) → SettleEnds h v.used (store_of m₁) (store_of m₂) g.cap w.fresh w.seq o r → FinishedBy v rs₂ ls₂ gs₂ r
      finish_by o e r (ends_refused n z) = rw e (arrived_refused n (grown_old z.h' z.used' z.fits z.grown z.stands))
      finish_by o e r (ends_stays q) = rw e (arrived_stays (later (λ i. lent tk₁ m.sums (q i).records (q i).labels (q i).gaps)))
      finish_by o e r (ends_wins {u} {y = z} {k} T) =
          λ tk₂ sm₂ lt ls p. rw e (arrived_wins (put_on z k u k.seq T refl (seqs_won H P t arc w w.cutoff tot inside R.stood.seqs u k.seq e) tk₂ sm₂ lt ls p))
      finish_by o e r (ends_joins {u} {y = z} {k} T q) =
          λ tk₂ sm₂ lt ls p. rw e (arrived_joins (put_on z k u w.seq T q (seqs_joined H P t arc w w.cutoff tot inside R.stood.seqs u e) tk₂ sm₂ lt ls p))

      pub finished : (r : Result Settled Reason) → SettledIs (store_of m₁) (store_of m₂) g (counts v.used y.seq) (x₁ v) a (cell_at tk₁ m.sums (place_in g.side a.target)) (meets_at cutoff a.total cell) r → FinishedBy v rs₂ ls₂ gs₂ r
      finished r f = finish_by (comes_of G) refl r (settled r f)

      -- what safety asks before the arc is settled
      held_low : (o : Option Token) (c : Cell) → Shows h v.used c o → (token_of c).link ≤ v.used
      held_low none c (shows_none e) = omega arith
      held_low (some u) c (shows_token z e i) = let d = ap (λ (b : Cell). b.held) e in let l = i.link.low in omega arith

      pub settle_asks : SettleAsks (store_of m₁) g (counts v.used y.seq) (x₁ v) (token_of (cell_at tk₁ m.sums (place_in g.side a.target)))
      settle_asks =
          record {
            h = h;
            stands = R.stood.rep.stands;
            room = room;
            fits = R.stood.fits;
            small = G.pass.small;
            source_low = R.stood.rep.hand.low;
            held_low = held_low (place_of w arc) (cell_at tk₁ m.sums (place_in g.side a.target)) shows;
          }

-- ---- all of it

module _ (g : Setting) (m : Lent) (cutoff : Float) (y : Going) (x : Stored) (a : Arrival) (G : Given g m cutoff y x a) (passes : is_cut_off (meets_at cutoff a.total (cell_at m.tokens m.sums (place_in g.side a.target))) ≡ false)
    (small : tame a.total ≡ true) (tk₁ rs₁ : List ℕ) (ls₁ : List ℤ) (gs₁ : List Float) (lt : length tk₁ ≡ length m.tokens) (lr : length rs₁ ≡ length m.records) (ll : length ls₁ ≡ length m.labels) (lg : length gs₁ ≡ length m.gaps) (v : Made)
    (found : RoomIs (store_of m) (store rs₁ ls₁ gs₁) m.tokens tk₁ g y.used (with_link x y.link) a v) where
  abbrev room_then : Room (store rs₁ ls₁ gs₁) g.cap
  room_then = room_as m.records rs₁ m.labels ls₁ m.gaps gs₁ lr ll lg G.stood.places.store

  abbrev then_ready : Ready g m cutoff y x a G passes small tk₁ rs₁ ls₁ gs₁ lt room_then v
  then_ready = ready g m cutoff y x a G passes small tk₁ rs₁ ls₁ gs₁ lt room_then v found

  pub then_asks : SettleAsks (store rs₁ ls₁ gs₁) g (counts v.used y.seq) (with_link x v.x) (token_of (cell_at tk₁ m.sums (place_in g.side a.target)))
  then_asks = settle_asks g m cutoff y x a G passes small tk₁ rs₁ ls₁ gs₁ lt room_then v then_ready rs₁ ls₁ gs₁ room_then

  pub arrived : (rs₂ : List ℕ) (ls₂ : List ℤ) (gs₂ : List Float) → length rs₂ ≡ length rs₁ → length ls₂ ≡ length ls₁ → length gs₂ ≡ length gs₁ → (r : Result Settled Reason)
      → SettledIs (store rs₁ ls₁ gs₁) (store rs₂ ls₂ gs₂) g (counts v.used y.seq) (with_link x v.x) a (cell_at tk₁ m.sums (place_in g.side a.target)) (meets_at cutoff a.total (cell_at m.tokens m.sums (place_in g.side a.target))) r
      → FinishedBy g m cutoff y x a G passes small tk₁ rs₁ ls₁ gs₁ lt room_then v rs₂ ls₂ gs₂ r
  arrived rs₂ ls₂ gs₂ kr kl kg r f = finished g m cutoff y x a G passes small tk₁ rs₁ ls₁ gs₁ lt room_then v then_ready rs₂ ls₂ gs₂ (room_as rs₁ rs₂ ls₁ ls₂ gs₁ gs₂ kr kl kg room_then) r f
