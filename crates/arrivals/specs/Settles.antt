-- What comes of an arc is the definition's `settle`, for any pass. Assumes nothing.
use Rattle.std.specs.Prelude.{◌≡◌, ℕ, suc, ◌+◌, ◌-◌, ◌^◌, ◌<◌, ◌≤◌, Bool, true, false, cond, not, ◌&&◌, ◌⊎◌, List, ◌++◌, ℤ, pos, ◌==◌, nat_lt, Float, is_some, Option as RustOption, Some, None, Result, Ok, Err}
use Rattle.std.proofs.Math.Path.{refl, sym, ap, subst}
use Rattle.std.proofs.Common.{◌∙◌}
use native.Mathlib.Omega.{arith}
use Rattle.std.proofs.Math.Nat.{mod-eq_of_lt}
use Rattle.std.proofs.Math.Option.{Option, none, some}
use borrow.Author.Tests.{lt-ltb, le-ltb}
use Rattle.lists.specs.Tests.{case, never}
use Rattle.real32.specs.Small.{tame}
use Rattle.model.specs.Basics.{◌≺◌, ◌≼◌, ◌⊖◌, Outcome, ok, refused, ◌>>=◌, check}
use Rattle.model.specs.Graph.{Arc}
use Rattle.model.specs.Path.{Step, Path, arc_onto, Token, paths, is_link, full_at}
use Rattle.model.specs.Arrive.{Pass, total, Here, Work, Meets as Met, vacant, better, not_better, step_on, arriving, joined, keeps, keep, path_in_hand, check_winner, Change, token_stays, token_wins, token_joins, or_else, joins_or_stays, fills, beats, loses, settle, place_of, meets}
use Rattle.tokens.specs.declared.Token.{Token as Stored}
use Rattle.tokens.specs.Layout.{Cell, cell_of, token_of}
use Rattle.records.specs.History.{History, tag, history_of}
use Rattle.records.specs.Layout.{Store, store}
use Rattle.records.specs.Stands.{Stands, put, put_same}
use Rattle.joins.specs.Keep.{KeepIs, joins_loser}
use Rattle.joins.specs.Model.{margin_of, token_loses, arrival_loses, KeepFor, KeepComes, keep_comes, joined_tag, joined_plain}
use Rattle.compaction.specs.Count.{Known, Tight, full_is, known_quiet, tight_quiet, tight_less}
use Rattle.stores.specs.Shown.{beside_in, timed, none_beside, Is, TokenIs, Shows, shows_none, shows_token}
use Rattle.stores.specs.Grown.{Grown, grown_self, grown_put, grown_then, is_grown}
use Rattle.arrivals.specs.declared.Arrival.{Arrival}
use Rattle.arrivals.specs.declared.Setting.{Setting}
use Rattle.arrivals.specs.declared.Counts.{Counts}
use Rattle.arrivals.specs.declared.Meets.{Meets}
use Rattle.arrivals.specs.declared.Meets.TheVariants.{Vacant, Better, NotBetter}
use Rattle.arrivals.specs.declared.Settled.{Settled}
use Rattle.arrivals.specs.declared.Settled.TheVariants.{Stays, Wins, Joins}
use Rattle.arrivals.specs.Arrival.{ArrivalIs, links, starts_of, starts_is, meets_at}
use Rattle.arrivals.specs.declared.Linked.{Linked}
use Rattle.arrivals.specs.PutOn.{linked, PutOnIs}
use Rattle.arrivals.specs.Winner.{WonBy, won as won_by}
use Rattle.arrivals.specs.Settled.{SettledIs, settled_fills, settled_beats, settled_loses, with_link, new_token, next_seq, FillIs, fill_refused, fill_wins, won_with, BeatIs, beat_refused, beat_wins, lost_with, LoseIs, lose_keeps}
use Rattle.refusals.specs.declared.Reason.{Reason}
use Rattle.refusals.specs.Numbers.{number_of}

-- What is known where an arc's total has passed the cutoff: the code's values are the model's, and of the store either two more records have places or all are live, unless no record can be wanted.
pub record Scene (H : Here) (P : Pass) (t : Token) (arc : Arc) (w : Work) (g : Setting) (x : Stored) (a : Arrival) (s : Store) (used : ℕ) (h : ℕ → History) : Type 0 where
  pub arrival : ArrivalIs H P t arc a
  pub phone : pos x.phone ≡ t.phone
  pub frame : g.frame ≡ H.frame
  pub margin : H.margin ≡ margin_of g.margin
  pub full : (ps : List Path) → H.limits.full ps ≡ full_at g.cap ps
  pub fits : used ≤ g.cap
  pub stands : Stands s used h
  pub hand : Is h used x.link t.path
  pub newest : tag (h used) ≤ w.fresh
  pub known : Known h used (path_in_hand H w t.path)
  pub meter : Tight 2 g.cap h used (path_in_hand H w t.path) ⊎ ((links x a ≡ false) × (is_some g.margin ≡ false))

-- the store after records were put on
pub record Survives (h : ℕ → History) (used : ℕ) (s' : Store) (cap : ℕ) : Type 0 where
  pub h' : ℕ → History
  pub used' : ℕ
  pub fits : used' ≤ cap
  pub grown : Grown h used h' used'
  pub stands : Stands s' used' h'

-- and the token that stands for the model's
pub record TokenOn (h : ℕ → History) (used : ℕ) (s' : Store) (used' cap : ℕ) (y : Stored) (u : Token) (fresh : ℕ) : Type 0 where
  pub h' : ℕ → History
  pub grown : Grown h used h' used'
  pub stands : Stands s' used' h'
  pub token : TokenIs h' used' y u
  pub newest : tag (h' used') ≤ fresh
  pub fits : used' ≤ cap

and_false : (b : Bool) → (b && false) ≡ false
and_false true = refl
and_false false = refl

none_where : (o : RustOption Float) → is_some o ≡ false → o ≡ None
none_where None e = refl
none_where (Some x) e = never (sym e)

-- what the code answers, by what the model gives
pub data SettleEnds (h : ℕ → History) (used : ℕ) (s s' : Store) (cap fresh seq : ℕ) : Outcome Change → Result Settled Reason → Type 0 where
  ends_refused : (e : Reason) → Survives h used s' cap → SettleEnds h used s s' cap fresh seq (refused (number_of e)) (Err e)
  ends_stays : s' ≡ s → SettleEnds h used s s' cap fresh seq (ok token_stays) (Ok Stays)
  ends_wins : {u : Token} {y : Stored} {k : Counts} → TokenOn h used s' k.used cap y u (fresh + 2) → SettleEnds h used s s' cap fresh seq (ok (token_wins u k.seq)) (Ok (Wins y k))
  ends_joins : {u : Token} {y : Stored} {k : Counts} → TokenOn h used s' k.used cap y u (fresh + 2) → seq ≡ k.seq → SettleEnds h used s s' cap fresh seq (ok (token_joins u)) (Ok (Joins y k))

pub survives_same : (h : ℕ → History) (used cap : ℕ) (s s' : Store) → used ≤ cap → Stands s used h → s' ≡ s → Survives h used s' cap
survives_same h used cap s s' fits st e = record { h' = h; used' = used; fits = fits; grown = grown_self h used; stands = subst (λ (z : Store). Stands z used h) (sym e) st }

module _ (H : Here) (P : Pass) (t : Token) (arc : Arc) (w : Work) (g : Setting) (k : Counts) (x : Stored) (a : Arrival) (s : Store) (h : ℕ → History) (S : Scene H P t arc w g x a s k.used h)
    (small : tame (total H.graph P t arc) ≡ true) (seq_is : w.seq ≡ k.seq) where
  abbrev Ends : Store → Outcome Change → Result Settled Reason → Type 0
  Ends s' o r = SettleEnds h k.used s s' g.cap w.fresh w.seq o r

  -- 13 for the arc's own record
  exact : links x a ≡ true → H.limits.full (path_in_hand H w t.path) ≡ (k.used == g.cap)
  exact l =
      S.full (path_in_hand H w t.path) ∙
      case S.meter (λ m. full_is s k.used h S.stands (path_in_hand H w t.path) S.known g.cap S.fits (tight_less 1 g.cap h k.used (path_in_hand H w t.path) m)) (λ m. never (sym m.0 ∙ l))

  -- the new token
  new_is : (h' : ℕ → History) (used' l p q : ℕ) → p ≡ q → Is h' used' l (arc_onto (step_on H P t arc w.fresh false) t.path) → TokenIs h' used' (new_token a l p) (arriving H P t arc w.fresh q false)
  unfolding arriving
  new_is h' used' l p q e i = record { cost = S.arrival.total; graph = S.arrival.graph; link = i; phone = S.arrival.phone; seq = e }

  -- ---- into an empty state

  module _ (rs' : List ℕ) (ls' : List ℤ) where
    abbrev s' : Store
    s' = store rs' ls' s.gaps

    on_by : (r : Result Linked Reason) → PutOnIs s.records rs' s.labels ls' g k.used x a r
        → WonBy H P t arc w g x a S.arrival S.phone S.frame s.records rs' s.labels ls' s.gaps k.used h S.stands S.hand S.newest S.fits exact r
    on_by = won_by H P t arc w g x a S.arrival S.phone S.frame s.records rs' s.labels ls' s.gaps k.used h S.stands S.hand S.newest S.fits exact

    pub fills_is : suc w.seq < 2 ^ 32 → (r : Result Settled Reason) → FillIs s.records rs' s.labels ls' g k x a r → Ends s' (settle H P t arc w vacant) r
    unfolding settle fills
    fills_is room (Err e) (fill_refused p) =
        let o = on_by (Err e) p in
        rw (small, o.0) (ends_refused e (survives_same h k.used g.cap s s' S.fits S.stands o.1))
    fills_is room (Ok Stays) x'' = elim x'' [ ]
    fills_is room (Ok (Joins _ _)) x5 = elim x5 [ ]
    fills_is room (Ok (Wins y c)) (fill_wins {l} {u} p) =
        let o = on_by (Ok (linked l u)) p in
        let e : next_seq k ≡ suc w.seq = mod-eq_of_lt (omega arith) ∙ omega arith in
        rw (small, o.checked, sym e)
        (ends_wins (record { h' = o.on.h'; grown = o.on.grown; stands = o.on.stands; token = new_is o.on.h' u l (next_seq k) (next_seq k) refl o.on.is; newest = let n = o.on.newest in omega arith; fits = o.few }))

  -- ---- with a token there

  -- the model's token that the arc meets, as the place holds it
  module _ (held : Token) (y : Stored) (there : TokenIs h k.used y held) (gap : Float) where
    -- a token with the join on top of its records
    joined_on : (h' : ℕ → History) (used' : ℕ) (s' : Store) (z : Stored) (u lost : Token) (r : ℕ) → Grown h k.used h' used' → used' < g.cap → TokenIs h' used' z u → beside_in H.frame lost.path → timed lost.path → r ≡ suc used'
        → Stands s' (suc used') (put h' (suc used') (history_of (joined H (suc w.fresh) u lost).path)) → TokenOn h k.used s' r g.cap (with_link z r) (joined H (suc w.fresh) u lost) (w.fresh + 2)
    unfolding joined
    joined_on h' used' s' z u lost r gr d i beside-of lost-frames e st =
        let v = history_of (joined H (suc w.fresh) u lost).path in
        subst (λ (j : ℕ). TokenOn h k.used s' j g.cap (with_link z j) (joined H (suc w.fresh) u lost) (w.fresh + 2)) (sym e)
        (record {
          h' = put h' (suc used') v;
          grown = grown_then gr (grown_put h' used' v);
          stands = st;
          token = record { cost = i.cost; graph = i.graph; link = record { low = omega arith; is = put_same h' (suc used') v; own = joined_plain H (suc w.fresh) u lost i.link.own; frames = (beside-of, lost-frames, i.link.frames) }; phone = i.phone; seq = i.seq };
          newest = rw (put_same h' (suc used') v, joined_tag H (suc w.fresh) u lost) (omega arith);
          fits = d;
        })

    beside_frame : (step_on H P t arc w.fresh true).frame ≡ H.frame
    unfolding step_on
    beside_frame = refl

    -- where a loser can be kept the meter is exact
    kept_full : (z : Store) (h' : ℕ → History) (used' : ℕ) (p : Path) (won lost : Token) → Stands z used' h' → used' ≤ g.cap → Known h' used' (path_in_hand H w p)
        → (Tight 2 g.cap h k.used (path_in_hand H w t.path) → Tight 1 g.cap h' used' (path_in_hand H w p)) → keeps H.margin gap won lost ≡ true → H.limits.full (path_in_hand H w p) ≡ (used' == g.cap)
    unfolding keeps
    kept_full z h' used' p won lost st f kn ti q =
        S.full (path_in_hand H w p) ∙
        case S.meter (λ m. full_is z used' h' st (path_in_hand H w p) kn g.cap f (ti m))
        (λ m. never (sym (ap (λ (o : Option Float). keeps o gap won lost) (S.margin ∙ ap margin_of (none_where g.margin m.1))) ∙ q))

    room_of : {z z' : Store} {used' frame : ℕ} {margin : RustOption Float} {won lost : Stored} {over : ℤ} {starts r : ℕ} → KeepIs z z' used' g.cap frame margin gap won lost over starts (Ok (Some r)) → used' < g.cap
    room_of (joins_loser b l p) = l

    -- an arrival that is not better
    abbrev new : Token
    new = arriving H P t arc w.fresh 0 true

    abbrev beside : Step
    beside = step_on H P t arc w.fresh true

    module _ (e : gap ≡ total H.graph P t arc ⊖ held.cost) where
      F : KeepFor H (path_in_hand H w new.path) (suc w.fresh) held new h s k.used g.cap g.frame g.margin gap y (new_token a x.link 0) a.word (starts_of x a)
      unfolding arriving step_on
      F =
          let quiet : (is_link beside && not beside.beside) ≡ false = and_false (is_link beside) in
          record {
            stands = S.stands;
            fresh = let n = S.newest in omega arith;
            full_is = kept_full s h k.used new.path held new S.stands S.fits (known_quiet h k.used beside t.path (paths w.table ++ H.before) quiet S.known)
                (λ m. tight_less 1 g.cap h k.used (path_in_hand H w new.path) (tight_quiet h k.used beside t.path (paths w.table ++ H.before) quiet 2 g.cap m));
            margin_is = S.margin;
            frame_is = sym S.frame;
            gap_is = sym e;
            won_graph = sym there.graph;
            lost_graph = sym S.arrival.graph;
            won_phone = sym there.phone;
            lost_phone = sym S.arrival.phone;
            won_low = there.link.low;
            lost_low = S.hand.low;
            won_is = there.link.is;
            loses = arrival_loses there.link.own there.link.is S.stands there.link.low beside t.path refl S.newest (sym S.arrival.word) (sym (starts_is H P t arc a x w.fresh true S.arrival S.phone)) S.hand.own S.hand.is;
          }

    -- an arrival that is better
    abbrev won : Token
    won = arriving H P t arc w.fresh held.seq false

    module _ (rs₁ : List ℕ) (ls₁ : List ℤ) (l u : ℕ) (p : PutOnIs s.records rs₁ s.labels ls₁ g k.used x a (Ok (linked l u))) (e : gap ≡ held.cost ⊖ total H.graph P t arc) where
      abbrev on_it : WonBy H P t arc w g x a S.arrival S.phone S.frame s.records rs₁ s.labels ls₁ s.gaps k.used h S.stands S.hand S.newest S.fits exact (Ok (linked l u))
      on_it = on_by rs₁ ls₁ (Ok (linked l u)) p

      G : KeepFor H (path_in_hand H w won.path) (suc w.fresh) won held on_it.on.h' (store rs₁ ls₁ s.gaps) u g.cap g.frame g.margin gap (new_token a l y.seq) y (pos 0) 0
      unfolding arriving
      G =
          let o = on_it in
          let old = is_grown o.on.grown there.link in
          record {
            stands = o.on.stands;
            fresh = o.on.newest;
            full_is = kept_full (store rs₁ ls₁ s.gaps) o.on.h' u won.path won held o.on.stands o.few (o.known S.known) (o.tight 1);
            margin_is = S.margin;
            frame_is = sym S.frame;
            gap_is = sym e;
            won_graph = sym S.arrival.graph;
            lost_graph = sym there.graph;
            won_phone = sym S.arrival.phone;
            lost_phone = sym there.phone;
            won_low = o.on.is.low;
            lost_low = old.low;
            won_is = o.on.is.is;
            loses = token_loses o.on.is.own o.on.is.is held.path old.own old.is;
          }

    module _ (s' : Store) where
      pub loses_is : gap ≡ total H.graph P t arc ⊖ held.cost → (r : Result Settled Reason) → LoseIs s s' g k gap x a y r → Ends s' (settle H P t arc w (not_better gap held)) r
      unfolding settle loses arriving
      loses_is e r (lose_keeps q c) = go q (keep_comes (F e) c) c
        where
          go : (q : Result (RustOption ℕ) Reason) → KeepComes H (path_in_hand H w new.path) (suc w.fresh) gap held new h s s' k.used q → KeepIs s s' k.used g.cap g.frame g.margin gap y (new_token a x.link 0) a.word (starts_of x a) q
              → Ends s' (check 12 (tame (total H.graph P t arc)) >>= λ u. keep H (path_in_hand H w new.path) (suc w.fresh) gap held new >>= λ j. ok (joins_or_stays j)) (lost_with y k.used k.seq q)
          go (Ok None) o c = rw (small, o.0) (ends_stays o.1)
          go (Err z) o c = rw (small, o.0) (ends_refused z (survives_same h k.used g.cap s s' S.fits S.stands o.1))
          go (Ok (Some r)) o c = rw (small, o.0) (ends_joins (joined_on h k.used s' y held new r (grown_self h k.used) (room_of c) there (λ b. beside_frame, S.hand.own) S.hand.frames o.1 o.2) seq_is)

      pub beats_is : gap ≡ held.cost ⊖ total H.graph P t arc → (r : Result Settled Reason) → BeatIs s s' g k gap x a y r → Ends s' (settle H P t arc w (better gap held)) r
      unfolding settle beats
      beats_is e r (beat_refused {e = n} p q) =
          let o = on_by s'.records s'.labels (Err n) p in
          rw (small, o.0) (ends_refused n (survives_same h k.used g.cap s s' S.fits S.stands (ap (store s'.records s'.labels) q ∙ o.1)))
      beats_is e r (beat_wins {l} {u} q rs₁ ls₁ p c) = go q (keep_comes (G rs₁ ls₁ l u p e) c) c
        where
          o : WonBy H P t arc w g x a S.arrival S.phone S.frame s.records rs₁ s.labels ls₁ s.gaps k.used h S.stands S.hand S.newest S.fits exact (Ok (linked l u))
          o = on_by rs₁ ls₁ (Ok (linked l u)) p

          as_is : TokenIs o.on.h' u (new_token a l y.seq) won
          as_is = new_is o.on.h' u l y.seq held.seq there.seq o.on.is

          stands_as : (z : Store) → s' ≡ z → Stands z u o.on.h' → Stands s' u o.on.h'
          stands_as z d = subst (λ (v : Store). Stands v u o.on.h') (sym d)

          go : (q : Result (RustOption ℕ) Reason) → KeepComes H (path_in_hand H w won.path) (suc w.fresh) gap won held o.on.h' (store rs₁ ls₁ s.gaps) s' u q → KeepIs (store rs₁ ls₁ s.gaps) s' u g.cap g.frame g.margin gap (new_token a l y.seq) y (pos 0) 0 q
              → Ends s' (check 12 (tame (total H.graph P t arc)) >>= λ u. check_winner H w P t arc >>= λ u. keep H (path_in_hand H w won.path) (suc w.fresh) gap won held >>= λ j. ok (token_wins (or_else won j) w.seq)) (won_with (new_token a l y.seq) u k.seq q)
          go (Ok None) d c =
              rw (small, o.checked, d.0, seq_is)
              (ends_wins (record { h' = o.on.h'; grown = o.on.grown; stands = stands_as (store rs₁ ls₁ s.gaps) d.1 o.on.stands; token = as_is; newest = let n = o.on.newest in omega arith; fits = o.few }))
          go (Err z) d c =
              rw (small, o.checked, d.0) (ends_refused z (record { h' = o.on.h'; used' = u; fits = o.few; grown = o.on.grown; stands = stands_as (store rs₁ ls₁ s.gaps) d.1 o.on.stands }))
          go (Ok (Some r)) d c = rw (small, o.checked, d.0, seq_is) (ends_wins (joined_on o.on.h' u s' (new_token a l y.seq) won held r o.on.grown (room_of c) as_is (none_beside H.frame held.path there.link.own) there.link.frames d.1 d.2))

  -- ---- by what the arc meets

  module _ (s' : Store) (c : Cell) (cut tot : Float) (total_is : tot ≡ total H.graph P t arc) (passes : cut ≼ tot ≡ false) (room : place_of w arc ≡ none → suc w.seq < 2 ^ 32) where
    abbrev Goal : Met → Result Settled Reason → Type 0
    Goal m r = Ends s' (settle H P t arc w m) r

    abbrev Comes : Meets → Result Settled Reason → Type 0
    Comes m r = SettledIs s s' g k x a c m r

    vacant_is_lem : place_of w arc ≡ none → (r : Result Settled Reason) → Comes Vacant r → Goal vacant r
    vacant_is_lem e r (settled_fills f q) = let d : store s'.records s'.labels s.gaps ≡ s' = ap (store s'.records s'.labels) (sym q) in subst (λ (z : Store). Ends z (settle H P t arc w vacant) r) d (fills_is s'.records s'.labels (room e) r f)

    module _ (held : Token) (y : Stored) (cell : c ≡ cell_of y) (there : TokenIs h k.used y held) where
      -- what the code reads in the place
      read_is : token_of c ≡ y
      read_is = ap token_of cell ∙ λ j. record { cost = y.cost; graph = y.graph; link = less j; phone = y.phone; seq = y.seq }
        where
          less : suc y.link - 1 ≡ y.link
          less = omega arith

      cost_is : c.cost ≡ held.cost
      cost_is = ap (λ (z : Cell). z.cost) cell ∙ there.cost

      token_is : (b : Bool) → (r : Result Settled Reason) → Comes (cond b (Better (c.cost ⊖ tot)) (NotBetter (tot ⊖ c.cost))) r → Goal (cond b (better (held.cost ⊖ tot) held) (not_better (tot ⊖ held.cost) held)) r
      token_is true r (settled_beats f) = beats_is held y there (held.cost ⊖ tot) s' (ap (λ (z : Float). held.cost ⊖ z) total_is) r (rw (read_is, cost_is) at f)
      token_is false r (settled_loses f) = loses_is held y there (tot ⊖ held.cost) s' (ap (λ (z : Float). z ⊖ held.cost) total_is) r (rw (read_is, cost_is) at f)

    pub settled_is : (o : Option Token) → place_of w arc ≡ o → Shows h k.used c o → (r : Result Settled Reason) → Comes (meets_at cut tot c) r → Goal (meets cut tot o) r
    unfolding meets_at meets
    settled_is none e (shows_none d) r f = let n : nat_lt 0 c.held ≡ false = le-ltb 0 c.held (omega arith) in rw (passes, meets) (vacant_is_lem e r (rw (passes, n) at f))
    settled_is (some held) e (shows_token y d i) r f =
        let n : nat_lt 0 c.held ≡ true = lt-ltb 0 c.held (let z = ap (λ (z : Cell). z.held) d in omega arith) in
        rw (passes, meets) (token_is held y d i (tot ≺ held.cost) r (subst (λ (z : Float). Comes (cond (tot ≺ z) (Better (c.cost ⊖ tot)) (NotBetter (tot ⊖ c.cost))) r) (cost_is held y d i) (rw (passes, n) at f)))
