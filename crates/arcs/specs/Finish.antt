-- The end of one arriving arc: the lowered cutoff, and the push.
use Rattle.std.specs.Prelude.{◌≡◌, ◌⊎◌, ℕ, suc, ◌-◌, ◌<◌, Bool, true, false, not, ◌&&◌, ◌||◌, List, ◌∷◌, ltb, ℤ, length, get_or, Float, Result, Ok, Err}
use Rattle.std.proofs.Math.Path.{refl}
use Rattle.std.proofs.Common.{sym, ap, ap₂, ◌∙◌, subst, subst₂, inl, inr, arith, length-set, lt-ltb, le-ltb, eq-eqb, ne_eqb}
use Rattle.lists.specs.Tests.{eq_or_not, never}
use Rattle.model.specs.Basics.{over, Outcome, ok, refused, ◌>>=◌}
use Rattle.model.specs.Graph.{Arc, has_eps}
use Rattle.model.specs.Path.{Path, Token, Table, memℕ}
use Rattle.model.specs.Arrive.{Here, Work as ModelWork, Change, total, lower, passed, put, push, push_winner, push_joined, finish}
use Rattle.tokens.specs.Layout.{place_in, cell_at, requeued_at, Requeued}
use Rattle.stores.specs.Tables.{shown_same}
use Rattle.stores.specs.Rep.{Lent, lent, Old}
use Rattle.arrivals.specs.declared.Arrival.{Arrival}
use Rattle.arrivals.specs.declared.Setting.{Setting}
use Rattle.arrivals.specs.declared.Going.{Going}
use Rattle.arrivals.specs.declared.Arrived.{Arrived}
use Rattle.arrivals.specs.declared.Arrived.TheVariants.{Cut, Stays, Wins, Joins}
use Rattle.arrivals.specs.Stood.{Stood, ArrivedBy, arrived_refused, arrived_cut, arrived_stays, arrived_wins, arrived_joins}
use Rattle.arcs.specs.declared.Pass.{Pass}
use Rattle.arcs.specs.declared.Pass.TheVariants.{Emitting, Nonemitting}
use Rattle.arcs.specs.declared.Work.{Work}
use Rattle.arcs.specs.Part.{pass_of, lowered}
use Rattle.arcs.specs.Queue.{Queued, queued-length, queued_put}
use Rattle.arcs.specs.Passed.{Ground, At, PassedBy, passed_refused, passed_on, moved_by, queued_on, PushIs, push_full, push_on}
use Rattle.refusals.specs.declared.Reason.{Reason}
use Rattle.refusals.specs.declared.Reason.TheVariants.{QueueFull}
use Rattle.refusals.specs.Numbers.{number_of}

-- ---- what the parts of it leave, as the code has it

abbrev pub requeues_at : Pass → (tokens eps : List ℕ) → (side s : ℕ) → Bool
requeues_at (Emitting off ad) tk eps b s = false
requeues_at Nonemitting tk eps b s = ltb 0 (get_or eps s 0) && not (ltb 0 (requeued_at tk (place_in b s)))

pub data WinnerIs (qs qs' : List ℕ) (x : Work) (s : ℕ) (pass : Pass) : Result Work Reason → Type 0 where
  winner_stays : {off ad : Float} → pass ≡ Emitting off ad → qs' ≡ qs → WinnerIs qs qs' x s pass (Ok x)
  winner_pushed : {r : Result Work Reason} → pass ≡ Nonemitting → PushIs qs qs' x s r → WinnerIs qs qs' x s pass r

pub data JoinedIs (tk tk' eps qs qs' : List ℕ) (b : ℕ) (pass : Pass) (x : Work) (s : ℕ) : Result Work Reason → Type 0 where
  joined_stays : requeues_at pass tk eps b s ≡ false → tk' ≡ tk → qs' ≡ qs → JoinedIs tk tk' eps qs qs' b pass x s (Ok x)
  joined_pushed : {r : Result Work Reason} → requeues_at pass tk eps b s ≡ true → Requeued tk tk' (place_in b s) → PushIs qs qs' x s r → JoinedIs tk tk' eps qs qs' b pass x s r

pub data FinishIs (tk tk' eps qs qs' : List ℕ) (b : ℕ) (pass : Pass) (x : Work) (a : Arrival) (came : Arrived) : Result Work Reason → Type 0 where
  finish_cut : came ≡ Cut → tk' ≡ tk → qs' ≡ qs → FinishIs tk tk' eps qs qs' b pass x a came (Ok x)
  finish_stays : {y : Going} {x' : Work} → came ≡ Stays y → x' ≡ moved_by pass x a.total y → tk' ≡ tk → qs' ≡ qs → FinishIs tk tk' eps qs qs' b pass x a came (Ok x')
  finish_wins : {y : Going} {x' : Work} {r : Result Work Reason} → came ≡ Wins y → x' ≡ moved_by pass x a.total y → tk' ≡ tk → WinnerIs qs qs' x' a.target pass r → FinishIs tk tk' eps qs qs' b pass x a came r
  finish_joins : {y : Going} {x' : Work} {r : Result Work Reason} → came ≡ Joins y → x' ≡ moved_by pass x a.total y → JoinedIs tk tk' eps qs qs' b pass x' a.target r → FinishIs tk tk' eps qs qs' b pass x a came r

-- ---- a push

-- the same stores for a work that differs in its queue alone
queue_aside : {g : Setting} {m : Lent} {y : Going} {done : Table} {p : Path} (w v : ModelWork) → v.table ≡ w.table → v.seq ≡ w.seq → v.fresh ≡ w.fresh → v.requeued ≡ w.requeued → Stood g m y done p w → Stood g m y done p v
queue_aside w v a b c d s = record { places = s.places; fits = s.fits; rep = rw (a, c) s.rep; seq = b ∙ s.seq; seqs = rw (a, b) s.seqs; requeued = rw d s.requeued }

abbrev on_queue : ModelWork → (s : ℕ) → (requeued : List ℕ) → ModelWork
on_queue w s re = record { table = w.table; seq = w.seq; fresh = w.fresh; cutoff = w.cutoff; queue = s ∷ w.queue; requeued = re }

push_full_lem : (H : Here) (s : ℕ) (re : List ℕ) (w : ModelWork) → over (suc (length w.queue)) H.limits.queue ≡ true → push H s re w ≡ refused 14
unfolding push
push_full_lem H s re w e = ap (λ (b : Bool). elim b as (λ z. Outcome ModelWork) [ true ↦ refused 14 | false ↦ ok (on_queue w s re) ]) e

push_ok : (H : Here) (s : ℕ) (re : List ℕ) (w : ModelWork) → over (suc (length w.queue)) H.limits.queue ≡ false → push H s re w ≡ ok (on_queue w s re)
unfolding push
push_ok H s re w e = ap (λ (b : Bool). elim b as (λ z. Outcome ModelWork) [ true ↦ refused 14 | false ↦ ok (on_queue w s re) ]) e

module _ {g : Setting} {H : Here} {done : Table} {eps : List ℕ} {places : ℕ} (G : Ground g H done eps places) {m : Lent} {p : Path} where
  old : {y : Going} {w : ModelWork} → Stood g m y done p w → Old g.side g.states g.cap m done
  old {y} s = record { h = s.rep.h; used = y.used; fits = s.fits; stands = s.rep.stands; finished = s.rep.finished }

  -- `re` are the requeued states that the stores tell of already
  pub pushed : (qs qs' : List ℕ) → length qs ≡ places → (x : Work) (s : ℕ) → s < g.states → (re : List ℕ) (w : ModelWork)
      → At g m qs x done p (record { table = w.table; seq = w.seq; fresh = w.fresh; cutoff = w.cutoff; queue = w.queue; requeued = re }) → (r : Result Work Reason) → PushIs qs qs' x s r → PassedBy g m qs' done p (push H s re w) r
  pushed qs qs' long x s low re w A r (push_full l e) =
      let k = queued-length g.states qs x.queued w.queue A.queue in
      let o = push_full_lem H s re w (G.queue (suc (length w.queue)) ∙ lt-ltb places (suc (length w.queue)) (omega arith)) in
      subst (λ (z : Outcome ModelWork). PassedBy g m qs' done p z (Err QueueFull)) (sym o) (passed_refused QueueFull (old A.stood))
  pushed qs qs' long x s low re w A r (push_on l e) =
      let k = queued-length g.states qs x.queued w.queue A.queue in
      let o = push_ok H s re w (G.queue (suc (length w.queue)) ∙ le-ltb places (suc (length w.queue)) (omega arith)) in
      subst (λ (z : Outcome ModelWork). PassedBy g m qs' done p z (Ok (queued_on x))) (sym o)
      (subst (λ (q : List ℕ). PassedBy g m q done p (ok (on_queue w s re)) (Ok (queued_on x))) (sym e)
      (passed_on
      (record {
        stood = queue_aside _ _ refl refl refl refl A.stood;
        cutoff = A.cutoff;
        fits = let z = length-set qs x.queued s in omega arith;
        queue = queued_put g.states qs x.queued w.queue s low l A.queue;
      })))

  -- ---- a token that a loser was joined to

  -- the state told as requeued
  requeued_now : {y : Going} (tk tk' : List ℕ) (s : ℕ) → m.tokens ≡ tk → length tk' ≡ length tk → s < g.states → Requeued tk tk' (place_in g.side s) → (w : ModelWork) → Stood g m y done p w
      → Stood g (lent tk' m.sums m.records m.labels m.gaps) y done p (record { table = w.table; seq = w.seq; fresh = w.fresh; cutoff = w.cutoff; queue = w.queue; requeued = s ∷ w.requeued })
  requeued_now tk tk' s e long low R w S =
      record {
        places = record { tokens = let z = S.places.tokens in let k = ap length e in omega arith; sums = S.places.sums; store = S.places.store };
        fits = S.fits;
        rep = record {
          h = S.rep.h;
          stands = S.rep.stands;
          finished = shown_same (λ i l. cells (place_in (1 - g.side) i)) S.rep.finished;
          progress = shown_same (λ i l. cells (place_in g.side i)) S.rep.progress;
          hand = S.rep.hand;
          newest = S.rep.newest;
        };
        seq = S.seq;
        seqs = S.seqs;
        requeued = λ i l. told i l (eq_or_not i s);
      }
    where
      cells : (q : ℕ) → cell_at tk' m.sums q ≡ cell_at m.tokens m.sums q
      cells q = R.cells q m.sums ∙ ap (λ (t : List ℕ). cell_at t m.sums q) (sym e)

      told : (i : ℕ) → i < g.states → (i ≡ s) ⊎ (i ≡ s → ⊥) → memℕ i (s ∷ w.requeued) ≡ ltb 0 (requeued_at tk' (place_in g.side i))
      told i l (inl d) = ap (λ (b : Bool). b || memℕ i w.requeued) (eq-eqb i s d) ∙ sym (ap (λ (k : ℕ). ltb 0 (requeued_at tk' (place_in g.side k))) d ∙ ap (ltb 0) R.there)
      told i l (inr d) = ap (λ (b : Bool). b || memℕ i w.requeued) (ne_eqb i s d) ∙ S.requeued i l ∙ ap (λ (t : List ℕ). ltb 0 (requeued_at t (place_in g.side i))) e ∙ ap (ltb 0) (sym (R.elsewhere (place_in g.side i) (λ q. d (omega arith))))

  -- the numbers moved on
  moved_on : {m₀ : Lent} {w v : ModelWork} (pass : Pass) (ls : List Float) (qs : List ℕ) (x : Work) (tot : Float) (y : Going) → v.cutoff ≡ lower (pass_of pass ls) tot w.cutoff → v.queue ≡ w.queue → At g m₀ qs x done p w
      → Stood g m y done p v → At g m qs (moved_by pass x tot y) done p v
  moved_on pass ls qs x tot y c q A S =
      record { stood = S; cutoff = c ∙ ap (lower (pass_of pass ls) tot) A.cutoff ∙ sym (lowered pass ls tot x.cutoff); fits = A.fits; queue = subst (Queued g.states qs x.queued) (sym q) A.queue }

-- ---- all of it

-- whether a join sends the state back, in the model and in the stores
requeues_is : {g : Setting} {H : Here} {done : Table} {eps : List ℕ} {places : ℕ} (G : Ground g H done eps places) {m : Lent} {y : Going} {p : Path} (w : ModelWork) → Stood g m y done p w → (s : ℕ) → s < g.states
    → (has_eps H.graph s && not (memℕ s w.requeued)) ≡ requeues_at Nonemitting m.tokens eps g.side s
requeues_is G w S s l = ap₂ (λ (a b : Bool). a && not b) (sym (G.eps_is s l)) (S.requeued s l)

abbrev after_join : Here → ℕ → ModelWork → Bool → Outcome ModelWork
after_join H s w b = elim b as (λ z. Outcome ModelWork) [ true ↦ push H s (s ∷ w.requeued) w | false ↦ ok w ]

module _ {g : Setting} {H : Here} {done : Table} {eps : List ℕ} {places : ℕ} (G : Ground g H done eps places) (tk tk' : List ℕ) (sm : List Float) (rs : List ℕ) (rl : List ℤ) (gs : List Float) (long : length tk' ≡ length tk) (qs qs' : List ℕ)
    (room : length qs ≡ places) (p : Path) (s : ℕ) (low : s < g.states) (x : Work) (w : ModelWork) (A : At g (lent tk sm rs rl gs) qs x done p w) where
  winner : (pass : Pass) (ls : List Float) (r : Result Work Reason) → WinnerIs qs qs' x s pass r → PassedBy g (lent tk sm rs rl gs) qs' done p (push_winner H (pass_of pass ls) s w) r
  winner pass ls r (winner_stays d e) =
      subst₂ (λ (P : Pass) (q : List ℕ). PassedBy g (lent tk sm rs rl gs) q done p (push_winner H (pass_of P ls) s w) r) (sym d) (sym e) (passed_on A)
  winner pass ls r (winner_pushed d P) = subst (λ (P : Pass). PassedBy g (lent tk sm rs rl gs) qs' done p (push_winner H (pass_of P ls) s w) r) (sym d) (pushed G qs qs' room x s low w.requeued w A r P)

  joined_to : (pass : Pass) (ls : List Float) (r : Result Work Reason) → JoinedIs tk tk' eps qs qs' g.side pass x s r → PassedBy g (lent tk' sm rs rl gs) qs' done p (push_joined H (pass_of pass ls) s w) r
  joined_to (Emitting off ad) ls r (joined_stays b e d) = subst₂ (λ (z q : List ℕ). PassedBy g (lent z sm rs rl gs) q done p (ok w) r) (sym e) (sym d) (passed_on A)
  joined_to (Emitting off ad) ls r (joined_pushed b R P) = never b
  joined_to Nonemitting ls r (joined_stays b e d) =
      subst (λ (o : Outcome ModelWork). PassedBy g (lent tk' sm rs rl gs) qs' done p o r) (sym (ap (after_join H s w) (requeues_is G w A.stood s low ∙ b)))
      (subst₂ (λ (z q : List ℕ). PassedBy g (lent z sm rs rl gs) q done p (ok w) r) (sym e) (sym d) (passed_on A))
  joined_to Nonemitting ls r (joined_pushed b R P) =
      subst (λ (o : Outcome ModelWork). PassedBy g (lent tk' sm rs rl gs) qs' done p o r) (sym (ap (after_join H s w) (requeues_is G w A.stood s low ∙ b)))
      (pushed G qs qs' room x s low (s ∷ w.requeued) w (record { stood = requeued_now G tk tk' s refl long low R w A.stood; cutoff = A.cutoff; fits = A.fits; queue = A.queue }) r P)

module _ {g : Setting} {H : Here} {done : Table} {eps : List ℕ} {places : ℕ} (G : Ground g H done eps places) (tk tk' : List ℕ) (sm : List Float) (rs : List ℕ) (rl : List ℤ) (gs : List Float) (long : length tk' ≡ length tk) (qs qs' : List ℕ)
    (room : length qs ≡ places) (pass : Pass) (ls : List Float) (m₀ : Lent) (t : Token) (arc : Arc) (x : Work) (a : Arrival) (w : ModelWork) (A : At g m₀ qs x done t.path w) (is : a.total ≡ total H.graph (pass_of pass ls) t arc)
    (to : a.target ≡ arc.target) (low : a.target < g.states) where
  abbrev tot : Float
  tot = total H.graph (pass_of pass ls) t arc

  abbrev Ends : Outcome Change → Result Work Reason → Type 0
  Ends o r = PassedBy g (lent tk' sm rs rl gs) qs' done t.path (o >>= finish H (pass_of pass ls) arc.target tot w) r

  now : {v : ModelWork} (y : Going) → v.cutoff ≡ lower (pass_of pass ls) tot w.cutoff → v.queue ≡ w.queue → Stood g (lent tk sm rs rl gs) y done t.path v → At g (lent tk sm rs rl gs) qs (moved_by pass x a.total y) done t.path v
  now y c q S = moved_on G pass ls qs x a.total y (c ∙ ap (λ (z : Float). lower (pass_of pass ls) z w.cutoff) (sym is)) q A S

  same_tokens : (o : Outcome ModelWork) (r : Result Work Reason) → tk' ≡ tk → PassedBy g (lent tk sm rs rl gs) qs' done t.path o r → PassedBy g (lent tk' sm rs rl gs) qs' done t.path o r
  same_tokens o r e = subst (λ (z : List ℕ). PassedBy g (lent z sm rs rl gs) qs' done t.path o r) (sym e)

  same_queue : (o : Outcome ModelWork) (r : Result Work Reason) → qs' ≡ qs → PassedBy g (lent tk sm rs rl gs) qs done t.path o r → PassedBy g (lent tk sm rs rl gs) qs' done t.path o r
  same_queue o r e = subst (λ (z : List ℕ). PassedBy g (lent tk sm rs rl gs) z done t.path o r) (sym e)

  abbrev Came : Outcome Change → Arrived → Type 0
  Came o came = ArrivedBy g m₀ (lent tk sm rs rl gs) H (pass_of pass ls) t arc w done o (Ok came)

  refused_so : (o : Outcome Change) (n : Reason) → ArrivedBy g m₀ (lent tk sm rs rl gs) H (pass_of pass ls) t arc w done o (Err n) → tk' ≡ tk → Ends o (Err n)
  refused_so o n (arrived_refused k z) e = same_tokens (refused (number_of n)) (Err n) e (passed_refused n z)

  cut_so : (o : Outcome Change) → Came o Cut → tk' ≡ tk → qs' ≡ qs → Ends o (Ok x)
  unfolding finish
  cut_so o (arrived_cut d) e q = same_tokens (ok w) (Ok x) e (same_queue (ok w) (Ok x) q (passed_on (subst (λ (m : Lent). At g m qs x done t.path w) (sym d) A)))

  module _ (y : Going) (x' : Work) (moves : x' ≡ moved_by pass x a.total y) where
    now_as : {v : ModelWork} → v.cutoff ≡ lower (pass_of pass ls) tot w.cutoff → v.queue ≡ w.queue → Stood g (lent tk sm rs rl gs) y done t.path v → At g (lent tk sm rs rl gs) qs x' done t.path v
    now_as {v} c q S = subst (λ (z : Work). At g (lent tk sm rs rl gs) qs z done t.path v) (sym moves) (now y c q S)

    stays_so : (o : Outcome Change) → Came o (Stays y) → tk' ≡ tk → qs' ≡ qs → Ends o (Ok x')
    unfolding finish passed
    stays_so o (arrived_stays S) e q = same_tokens _ (Ok x') e (same_queue _ (Ok x') q (passed_on (now_as refl refl S)))

    wins_so : (o : Outcome Change) (r : Result Work Reason) → Came o (Wins y) → tk' ≡ tk → WinnerIs qs qs' x' a.target pass r → Ends o r
    unfolding finish passed put
    wins_so o r (arrived_wins S) e W =
        same_tokens _ r e (winner G tk tk' sm rs rl gs long qs qs' room t.path arc.target (omega arith) x' _ (now_as refl refl S) pass ls r (subst (λ (s : ℕ). WinnerIs qs qs' x' s pass r) to W))

    joins_so : (o : Outcome Change) (r : Result Work Reason) → Came o (Joins y) → JoinedIs tk tk' eps qs qs' g.side pass x' a.target r → Ends o r
    unfolding finish passed put
    joins_so o r (arrived_joins S) J =
        joined_to G tk tk' sm rs rl gs long qs qs' room t.path arc.target (omega arith) x' _ (now_as refl refl S) pass ls r (subst (λ (s : ℕ). JoinedIs tk tk' eps qs qs' g.side pass x' s r) to J)

  pub finished : (o : Outcome Change) (came : Arrived) (r : Result Work Reason) → Came o came → FinishIs tk tk' eps qs qs' g.side pass x a came r → Ends o r
  finished o came r B (finish_cut c e q) = cut_so o (subst (Came o) c B) e q
  finished o came r B (finish_stays {y} {x'} c d e q) = stays_so y x' d o (subst (Came o) c B) e q
  finished o came r B (finish_wins {y} {x'} c d e W) = wins_so y x' d o r (subst (Came o) c B) e W
  finished o came r B (finish_joins {y} {x'} c d J) = joins_so y x' d o r (subst (Came o) c B) J
