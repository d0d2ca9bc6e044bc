-- A frame. Assumes nothing.
use Rattle.std.specs.Prelude.{max, ◌≡◌, ◌⊎◌, Bool, true, false, not, ◌&&◌, cond, List, [], ◌∷◌, ◌++◌, leb, ltb, eqb, length, get_or, Float, Result, Ok, Err}
use Rattle.std.proofs.Math.Path.{refl, ap, subst}
use Rattle.std.proofs.Common.{sym, ◌∙◌, subst₂, inl, inr, mul-le-mul_right}
use Prim.Native.Nat.{ℕ, suc, ◌+◌, ◌-◌, ◌*◌, ◌^◌, ◌≤◌, ◌<◌}
use native.Mathlib.Omega.{arith}
use Rattle.std.proofs.Math.Nat.{max-eq_left, max-eq_right}
use Rattle.std.proofs.Math.Option.{Option, none, some}
use mathlib.Core.List.Memᴰ.{head as here}
use mathlib.Core.List.Memᴰ.{tail as there}
use Rattle.std.proofs.Math.Dec.{T}
use Rattle.lists.specs.Lists.{◌∈◌, all}
use Rattle.lists.specs.Tests.{below_more, holds, case, lt_or_le}
use Rattle.real32.specs.Small.{tame}
use Rattle.model.specs.Basics.{first_of, refuse, at_frames, over, Outcome, ok, refused, ◌>>=◌}
use Rattle.model.specs.Graph.{Graph, states}
use Rattle.model.specs.Path.{Path, empty_path, arc_onto, branch_on, is_link, word, Token, Table, tokens, Limits}
use Rattle.model.specs.Cutoff.{Config as Settings}
use Rattle.model.specs.Arrive.{Here, Work as ModelWork}
use Rattle.model.specs.Passes.{State, done, emitting_pass, nonemitting_pass, check_frame, frame}
use Rattle.model.specs.Calls.{frame_call, Answer, refusal_answer, said, call, Said}
use Rattle.model.specs.Accepted.{Ok as Accepted}
use Rattle.model.proofs.Accepted.{weaken}
use Rattle.copy_laws.specs.Walks.{Heard}
use Rattle.copy_laws.specs.Tables.{At as TokenAt}
use Rattle.copy_laws.specs.Shapes.{Falling}
use Rattle.copy_laws.specs.Active.{Active}
use Rattle.copy_laws.specs.Kept.{hearing, Since}
use Rattle.copy_laws.proofs.Kept.{emitting_active}
use Rattle.copy_laws.specs.States.{Standing, Usable, in_frame}
use Rattle.copy_laws.proofs.States.{usable, frame_standing}
use Rattle.cutoff.specs.declared.Config.{Config}
use Rattle.cutoff.specs.Costs.{config_of, Fine}
use Rattle.tokens.specs.declared.Token.{Token as Stored}
use Rattle.tokens.specs.Layout.{place_in, Cell, cell_at, token_of}
use Rattle.records.specs.History.{History, no_history, tag, history_of, link_onto}
use Rattle.records.specs.Stands.{Stands}
use Rattle.stores.specs.Shown.{Shows, shows_none, shows_token, Shown}
use Rattle.stores.specs.Rep.{Lent, Lens, store_of}
use Rattle.refusals.specs.declared.Place.TheVariants.{AtFrames}
use Rattle.arrivals.specs.declared.Setting.{Setting}
use Rattle.arcs.specs.declared.Work.{Work}
use Rattle.arcs.specs.Passed.{Ground, At}
use Rattle.arcs.specs.Ended.{EndedBy, ended_refused, ended_on}
use Rattle.arcs.specs.State.{Tables, tables}
use Rattle.emitting.specs.Whole.{PassGiven, EmittingIs}
use Rattle.nonemitting.specs.Pass.{NonemittingGiven, NonemittingIs}
use Rattle.checks.specs.Frame.{number_of as number_or, frame_number}
use Rattle.decoder.specs.declared.Decoder.{Decoder}
use Rattle.decoder.specs.declared.Called.{Called}
use Rattle.decoder.specs.declared.Called.TheVariants.{Done, Refused}
use Rattle.decoder.specs.Represents.{setting_of, Represents, CalledBy, called_done, called_refused}
use Rattle.decoder.specs.Begin.{moved_to, turned_of, back_side, other_side, fixed_moved, none_newer, BeginGiven}
use Rattle.refusals.specs.declared.Reason.{Reason}
use Rattle.refusals.specs.Numbers.{number_of, refused_at}

-- ---- the two passes

-- the tables without the frame
abbrev pub unheard : Tables → Tables
unheard T = let p = T.arcs in tables T.offsets p.ilabels p.olabels p.weights p.nextstates p.tid2pdf p.tid2phone []

-- what is given to the emitting pass, which leaves no queue
pub record RunGiven (g : Setting) (m : Lent) (qs eps : List ℕ) (T : Tables) (c : Config) (used seq : ℕ) : Type 0 where
  pub pass : PassGiven g m qs eps T used seq
  pub idle : Accepted (λ w. (w.queue ≡ []) × (w.requeued ≡ [])) (emitting_pass pass.H (config_of c) T.arcs.loglikes pass.done seq pass.fresh)

abbrev pub run_of : Here → Settings → List Float → Table → (seq fresh : ℕ) → Outcome ModelWork
run_of H c ls ts q n = emitting_pass H c ls ts q n >>= λ w. nonemitting_pass H w

abbrev pub RunIs : (g : Setting) → (m m' : Lent) → (qs qs' eps : List ℕ) → Tables → Config → (used seq : ℕ) → Result Work Reason → Type 0
RunIs g m m' qs qs' eps T c used seq r = (G : RunGiven g m qs eps T c used seq) → EndedBy g m' qs' G.pass.done (run_of G.pass.H (config_of c) T.arcs.loglikes G.pass.done seq G.pass.fresh) r

module _ {g : Setting} {m : Lent} {qs eps : List ℕ} {T : Tables} {c : Config} {used seq : ℕ} (G : RunGiven g m qs eps T c used seq) where
  abbrev emits : Outcome ModelWork
  emits = emitting_pass G.pass.H (config_of c) T.arcs.loglikes G.pass.done seq G.pass.fresh

  module _ (m' : Lent) (qs' : List ℕ) (r : Result Work Reason) (E : EmittingIs g m m' qs qs' eps T c used seq r) where
    abbrev By : Lent → List ℕ → Outcome ModelWork → Result Work Reason → Type 0
    By m qs = EndedBy g m qs G.pass.done

    pub run_stops : (z : Reason) → r ≡ Err z → By m' qs' (emits >>= λ w. nonemitting_pass G.pass.H w) (Err z)
    run_stops z e = go emits (subst (By m' qs' emits) e (E G.pass))
      where
        go : (o : Outcome ModelWork) → By m' qs' o (Err z) → By m' qs' (o >>= λ w. nonemitting_pass G.pass.H w) (Err z)
        go o (ended_refused j old) = ended_refused z old

    module _ (x : Work) (e : r ≡ Ok x) (long : length qs' ≡ length qs) where
      -- the work that the emitting pass leaves
      pub record Emitted : Type 0 where
        pub w : ModelWork
        pub p : Path
        pub is : emits ≡ ok w
        pub at : At g m' qs' x G.pass.done p w

      pub emitted : Emitted
      emitted = go emits refl (subst (By m' qs' emits) e (E G.pass))
        where
          go : (o : Outcome ModelWork) → emits ≡ o → By m' qs' o (Ok x) → Emitted
          go o q (ended_on {w = w} p A) = record { w = w; p = p; is = q; at = A }

      pub none_waits : (emitted.w.queue ≡ []) × (emitted.w.requeued ≡ [])
      none_waits = subst (Accepted (λ w. (w.queue ≡ []) × (w.requeued ≡ []))) emitted.is G.idle

      abbrev pub run_given : NonemittingGiven g m' qs' eps (unheard T) x
      run_given =
          let of = G.pass.of in
          record {
            H = G.pass.H;
            w = emitted.w;
            done = G.pass.done;
            p = emitted.p;
            ground = subst (Ground g G.pass.H G.pass.done eps) (sym long) G.pass.ground;
            at = emitted.at;
            of = record { offsets = of.offsets; ilabels = of.ilabels; olabels = of.olabels; weights = of.weights; nextstates = of.nextstates; pdfs = of.pdfs; phones = of.phones; heard = tt };
            none_queued = none_waits.0;
            none_requeued = none_waits.1;
          }

      pub run_ends : (m'' : Lent) (qs'' : List ℕ) (r' : Result Work Reason) → NonemittingIs g m' m'' qs' qs'' eps (unheard T) x r' → By m'' qs'' (emits >>= λ w. nonemitting_pass G.pass.H w) r'
      run_ends m'' qs'' r' N = subst (λ (o : Outcome ModelWork). By m'' qs'' (o >>= λ w. nonemitting_pass G.pass.H w) r') (sym emitted.is) (N run_given).ends

-- ---- what the copy's invariant gives the passes

-- an active token stands in some place
at_some : (ts : Table) (t : Token) → t ∈ tokens ts → (s : ℕ) × TokenAt ts s t
at_some [] t m = elim m [ ]
at_some (none ∷ ts) t m = let (s, e) = at_some ts t m in (suc s, e)
at_some (some u ∷ ts) t (here e) = (0, ap some (sym e))
at_some (some u ∷ ts) t (there m) = let (s, e) = at_some ts t m in (suc s, e)

pub fine_is : (g : Graph) (fs : List Heard) (ts : Table) (q n : ℕ) → Active g fs ts q n → Fine ts
fine_is g fs ts q n a t m = let (s, e) = at_some ts t m in let u = (a.sound s t e).sums in (holds u.cost_tame, u.cost.1)

-- The numbers of a path fall, so that its newest record's is below them all.
tag_falls : (f : ℕ) (p : Path) → Falling f p → tag (history_of p) ≤ f
unfolding tag history_of
tag_falls f empty_path d = omega arith
tag_falls f (arc_onto s p) d = go (is_link s && not s.beside) (tag_falls s.number p d.1)
  where
    go : (b : Bool) → tag (history_of p) ≤ s.number → tag (cond b (link_onto s.number s.frame (word s) s.starts (history_of p)) (history_of p)) ≤ f
    go true l = let z = d.0 in omega arith
    go false l = let z = d.0 in omega arith
tag_falls f (branch_on m k p) d = let z = d.0 in omega arith

-- ---- the finished table, with fewer records

-- the newest record of the finished tokens
pub record NewestIs (tk : List ℕ) (sm : List Float) (b n r : ℕ) : Type 0 where
  pub covers : (s : ℕ) → s < n → (token_of (cell_at tk sm (place_in b s))).link ≤ r
  pub some_link : (r ≡ 0) ⊎ ((s : ℕ) × (s < n) × ((token_of (cell_at tk sm (place_in b s))).link ≡ r))

stands_fewer : {h : ℕ → History} {used k : ℕ} (m : Lent) → k ≤ used → Stands (store_of m) used h → Stands (store_of m) k h
stands_fewer m l S = record { none = S.none; each = λ j i. S.each j (omega arith); ascends = λ i j a b. S.ascends i j a (omega arith) }

module _ {h : ℕ → History} {used : ℕ} {tk : List ℕ} {sm : List Float} {b n r : ℕ} {ts : Table} (W : Shown h used tk sm b n ts) (N : NewestIs tk sm b n r) where
  fewer : r ≤ used
  fewer = go N.some_link
    where
      of_place : (s : ℕ) (o : Option Token) → Shows h used (cell_at tk sm (place_in b s)) o → (token_of (cell_at tk sm (place_in b s))).link ≤ used
      of_place s none (shows_none e) = omega arith
      of_place s (some t) (shows_token y e i) = let z = ap (λ (c : Cell). c.held) e in let l = i.link.low in omega arith

      go : (r ≡ 0) ⊎ ((s : ℕ) × (s < n) × ((token_of (cell_at tk sm (place_in b s))).link ≡ r)) → r ≤ used
      go (inl e) = omega arith
      go (inr (s, l, e)) = let z = of_place s (get_or ts s none) (W.place s l) in omega arith

  shown_fewer : Shown h r tk sm b n ts
  shown_fewer = record { size = W.size; place = λ s l. of_place s l (get_or ts s none) (W.place s l) }
    where
      of_place : (s : ℕ) → s < n → (o : Option Token) → Shows h used (cell_at tk sm (place_in b s)) o → Shows h r (cell_at tk sm (place_in b s)) o
      of_place s l none (shows_none e) = shows_none e
      of_place s l (some t) (shows_token y e i) =
          let low : y.link ≤ r = let z = N.covers s l in let k = ap (λ (c : Cell). c.held) e in omega arith in
          shows_token y e (record { cost = i.cost; graph = i.graph; link = record { low = low; is = i.link.is; own = i.link.own; frames = i.link.frames }; phone = i.phone; seq = i.seq })

  -- its model number is one of the table's own
  newest_low : (f : ℕ) → h 0 ≡ no_history → ((s : ℕ) (t : Token) → TokenAt ts s t → Falling f t.path) → tag (h r) ≤ f
  newest_low f z falls = go N.some_link
    where
      of_place : (s : ℕ) → s < n → (token_of (cell_at tk sm (place_in b s))).link ≡ r → (o : Option Token) → get_or ts s none ≡ o → Shows h used (cell_at tk sm (place_in b s)) o → tag (h r) ≤ f
      of_place s l e none q (shows_none d) = let k : r ≡ 0 = omega arith in subst (λ (v : History). tag v ≤ f) (sym (ap h k ∙ z)) (none_newer f)
      of_place s l e (some t) q (shows_token y d i) =
          let k : y.link ≡ r = let x = ap (λ (c : Cell). c.held) d in omega arith in
          subst (λ (v : History). tag v ≤ f) (sym (ap h (sym k) ∙ i.link.is)) (tag_falls f t.path (falls s t q))

      go : (r ≡ 0) ⊎ ((s : ℕ) × (s < n) × ((token_of (cell_at tk sm (place_in b s))).link ≡ r)) → tag (h r) ≤ f
      go (inl e) = subst (λ (v : History). tag v ≤ f) (sym (ap h e ∙ z)) (none_newer f)
      go (inr (s, l, e)) = of_place s l e (get_or ts s none) refl (W.place s l)

-- none of no states, and one state more
pub newest_none : (tk : List ℕ) (sm : List Float) (b : ℕ) → NewestIs tk sm b 0 0
newest_none tk sm b = record { covers = λ s l. absurd (omega arith); some_link = inl refl }

-- the greater of two is one of them
pub one_of : (r l k : ℕ) → k ≡ max r l → (r ≤ k) × (l ≤ k) × ((k ≡ r) ⊎ (k ≡ l))
one_of r l k m =
    case (lt_or_le r l)
    (λ h. let e = m ∙ max-eq_right (omega arith) in (omega arith, omega arith, inr e))
    (λ h. let e = m ∙ max-eq_left h in (omega arith, omega arith, inl e))

pub newest_more : (tk : List ℕ) (sm : List Float) (b n r k : ℕ) → NewestIs tk sm b n r → (x : Stored) → x ≡ token_of (cell_at tk sm (place_in b n)) → (r ≤ k) × (x.link ≤ k) × ((k ≡ r) ⊎ (k ≡ x.link)) → NewestIs tk sm b (n + 1) k
newest_more tk sm b n r k N x e (up, over-it, one) =
    record { covers = below_more (λ s. (token_of (cell_at tk sm (place_in b s))).link ≤ k) n (λ s l. let z = N.covers s l in omega arith) (subst (λ (y : Stored). y.link ≤ k) e over-it); some_link = go one N.some_link }
  where
    go : (k ≡ r) ⊎ (k ≡ x.link) → (r ≡ 0) ⊎ ((s : ℕ) × (s < n) × ((token_of (cell_at tk sm (place_in b s))).link ≡ r)) → (k ≡ 0) ⊎ ((s : ℕ) × (s < n + 1) × ((token_of (cell_at tk sm (place_in b s))).link ≡ k))
    go (inl q) (inl z) = inl (q ∙ z)
    go (inl q) (inr (s, l, z)) = inr (s, omega arith, z ∙ sym q)
    go (inr q) w = inr (n, omega arith, sym (q ∙ ap (λ (y : Stored). y.link) e))

-- ---- a frame

-- back at the finished table
pub record BackIs (tk : List ℕ) (sm : List Float) (d r : Decoder) : Type 0 where
  pub used : ℕ
  pub is : r ≡ moved_to d d.side d.frames d.seq used
  pub newest : NewestIs tk sm (1 - d.side) d.graph.states used

pub begin_from : {g : Graph} {c : Settings} {l : Limits} {T : Tables} {m : Lent} {eps : List ℕ} {places : ℕ} {d : Decoder} {fs : List Heard} {st : State} → Represents g c l T m eps places d fs st → BeginGiven g c l T m eps places d st
begin_from R = record { fixed = R.fixed; fair = R.standing.margin; margin_is = R.margin_is; idle = R.idle }

bind_twice : {A B C : Type 0} (m : Outcome A) (f : A → Outcome B) (k : B → Outcome C) → (m >>= λ a. f a >>= k) ≡ ((m >>= f) >>= k)
bind_twice (ok a) f k = refl
bind_twice (refused n) f k = refl

-- the tables with a frame
abbrev pub heard_by : Tables → List Float → Tables
heard_by T ls = let p = T.arcs in tables T.offsets p.ilabels p.olabels p.weights p.nextstates p.tid2pdf p.tid2phone ls

module _ {g : Graph} {c : Settings} {l : Limits} {T : Tables} {m : Lent} {eps : List ℕ} {places : ℕ} {d : Decoder} {fs : List Heard} {st : State} (R : Represents g c l T m eps places d fs st) (ls : List Float) where
  abbrev checked : (n pdfs : ℕ) → Option ℕ
  checked n pdfs = first_of (refuse 10 (leb 65_536 n) ∷ refuse 8 (not (eqb (length ls) pdfs)) ∷ refuse 9 (not (all tame ls)) ∷ [])

  check_is : check_frame g st ls ≡ checked d.frames d.graph.pdfs
  unfolding check_frame
  check_is = λ k. checked (R.frames_are k) (sym R.fixed.pdfs_are k)

  named : (a b t : Bool) → let o = first_of (refuse 10 a ∷ refuse 8 b ∷ refuse 9 t ∷ []) in (number_or o ≡ 0 → o ≡ none) × ((number_or o ≡ 0 → ⊥) → o ≡ some (number_or o))
  named true b t = (λ e. absurd (omega arith), λ e. refl)
  named false true t = (λ e. absurd (omega arith), λ e. refl)
  named false false true = (λ e. absurd (omega arith), λ e. refl)
  named false false false = (λ e. refl, λ e. absurd (e refl))

  tests : (frame_number ls d.frames d.graph.pdfs ≡ 0 → checked d.frames d.graph.pdfs ≡ none) × ((frame_number ls d.frames d.graph.pdfs ≡ 0 → ⊥) → checked d.frames d.graph.pdfs ≡ some (frame_number ls d.frames d.graph.pdfs))
  tests = named (leb 65_536 d.frames) (not (eqb (length ls) d.graph.pdfs)) (not (all tame ls))

  pub no_fault : (n : ℕ) → n ≡ frame_number ls d.frames d.graph.pdfs → n ≡ 0 → check_frame g st ls ≡ none
  no_fault n e z = check_is ∙ tests.0 (sym e ∙ z)

  pub a_fault : (n : ℕ) → n ≡ frame_number ls d.frames d.graph.pdfs → (n ≡ 0 → ⊥) → check_frame g st ls ≡ some n
  a_fault n e z = check_is ∙ tests.1 (λ q. z (e ∙ q)) ∙ ap some (sym e)

  refused_so : (n : ℕ) → check_frame g st ls ≡ some n → CalledBy g c l T m eps places (call g c l (frame_call ls) st) (Refused d (record { number = n; place = AtFrames d.frames }))
  unfolding call frame
  refused_so n e =
      subst (λ (o : Option ℕ). CalledBy g c l T m eps places (said st (at_frames st.frames) (elim o as (λ z. Outcome State) [ none ↦ emitting_pass (in_frame g l st) c ls st.table st.seq st.fresh >>= λ w. nonemitting_pass (in_frame g l st) w >>= λ v. ok (done st (suc st.frames) v) | some n ↦ refused n ])) (Refused d (record { number = n; place = AtFrames d.frames }))) (sym e)
      (called_refused fs (ap (λ (k : ℕ). refusal n k) R.frames_are) R)
    where
      refusal : ℕ → ℕ → Answer
      refusal n k = refusal_answer (record { number = n; place = at_frames k })

  -- refused before the passes
  pub frame_refused : (n : ℕ) → check_frame g st ls ≡ some n → (r : Called) → r ≡ Refused d (record { number = n; place = AtFrames d.frames }) → CalledBy g c l T m eps places (call g c l (frame_call ls) st) r
  frame_refused n e r q = subst (CalledBy g c l T m eps places (call g c l (frame_call ls) st)) (sym q) (refused_so n e)

  module _ (e : check_frame g st ls ≡ none) where
    pub can : Usable g st ls
    can = usable g st ls e

    abbrev H : Here
    H = in_frame g l st

    frame_is : frame g c l ls st ≡ (run_of H c ls st.table st.seq st.fresh >>= λ v. ok (done st (suc st.frames) v))
    unfolding frame
    frame_is =
        ap (λ (o : Option ℕ). elim o as (λ z. Outcome State) [ none ↦ emitting_pass H c ls st.table st.seq st.fresh >>= λ w. nonemitting_pass H w >>= λ v. ok (done st (suc st.frames) v) | some n ↦ refused n ]) e ∙
        bind_twice (emitting_pass H c ls st.table st.seq st.fresh) (nonemitting_pass H) (λ v. ok (done st (suc st.frames) v))

    runs : call g c l (frame_call ls) st ≡ said st (at_frames st.frames) (run_of H c ls st.table st.seq st.fresh >>= λ v. ok (done st (suc st.frames) v))
    unfolding call
    runs = ap (said st (at_frames st.frames)) frame_is

    pub few_seqs : d.seq + d.graph.states < 2 ^ 32
    few_seqs =
        let n = states g in
        let k = suc (length fs) in
        let x : n * k ≤ 65_535 * k = mul-le-mul_right k R.fixed.good.shape.states_few in
        let y = R.standing.active.room in
        let z = R.standing.frames in
        let w = can.few in
        let s = R.seq_is in
        let a = R.fixed.states_are in
        let b = R.fixed.good.shape.states_few in
        omega arith

    module _ (qs : List ℕ) (room : length qs ≡ places) where
      pub ground : Ground (setting_of d) H st.table eps (length qs)
      ground =
          let f = R.fixed in
          record {
            pass = record {
              side = f.side;
              few = let z = f.good.shape.states_few in let a = f.states_are in omega arith;
              small = f.small;
              before = refl;
              frame = sym R.frames_are;
              margin = R.margin_is;
              full = f.limits.full;
            };
            good = f.good;
            states = f.states_are;
            eps_long = f.eps_long;
            eps_is = f.eps_is;
            queue = λ k. ap (over k) f.limits.queue ∙ ap (λ (n : ℕ). ltb n k) (sym room);
          }

      abbrev pub pass_given : PassGiven (setting_of d) m qs eps (heard_by T ls) d.used d.seq
      pass_given =
          let f = R.fixed in
          record {
            H = H;
            done = st.table;
            fresh = st.fresh;
            h = R.h;
            ground = ground;
            of = record {
              offsets = f.of.offsets;
              ilabels = f.of.ilabels;
              olabels = f.of.olabels;
              weights = f.of.weights;
              nextstates = f.of.nextstates;
              pdfs = f.of.pdfs;
              phones = f.of.phones;
              heard = let z = can.long in omega arith;
            };
            places = f.stores;
            fits = R.fits;
            stands = R.stands;
            finished = R.finished;
            newest = R.newest;
            seqs = few_seqs;
            fine = fine_is g fs st.table st.seq st.fresh R.standing.active;
          }

      emits_idle : Accepted (λ w. (w.queue ≡ []) × (w.requeued ≡ [])) (emitting_pass H c ls st.table st.seq st.fresh)
      emits_idle =
          weaken (Since g (fs ++ (hearing ls st.table ∷ [])) st.fresh) (λ w. (w.queue ≡ []) × (w.requeued ≡ [])) (emitting_pass H c ls st.table st.seq st.fresh) (λ w s. (s.no_queue, s.none_requeued))
          (emitting_active H c ls st.table st.seq st.fresh fs R.fixed.good R.fixed.floats R.standing.frames R.standing.active)

      -- the decoder's settings and seq are the copy's
      pub idle_now : Accepted (λ w. (w.queue ≡ []) × (w.requeued ≡ [])) (emitting_pass H (config_of d.config) ls st.table d.seq st.fresh)
      idle_now = subst₂ (λ (k : Settings) (q : ℕ). Accepted (λ w. (w.queue ≡ []) × (w.requeued ≡ [])) (emitting_pass H k ls st.table q st.fresh)) (sym R.fixed.config_is) R.seq_is emits_idle

      abbrev asks : RunGiven (setting_of d) m qs eps (heard_by T ls) d.config d.used d.seq
      asks = record { pass = pass_given; idle = idle_now }

      pub run_asks : (s : Setting) → s ≡ setting_of d → (k : Config) → k ≡ d.config → RunGiven s m qs eps (heard_by T ls) k d.used d.seq
      run_asks s s-is k k-is = subst₂ (λ (s : Setting) (k : Config). RunGiven s m qs eps (heard_by T ls) k d.used d.seq) (sym s-is) (sym k-is) asks

      module _ (s : Setting) (s-is : s ≡ setting_of d) (cf : Config) (cf-is : cf ≡ d.config) (m' : Lent) (L : Lens m m') (qs' : List ℕ) (r : Result Work Reason) (run : RunIs s m m' qs qs' eps (heard_by T ls) cf d.used d.seq r) where
        abbrev Ends : Outcome ModelWork → Result Work Reason → Type 0
        Ends = EndedBy (setting_of d) m' qs' st.table

        ran : RunIs (setting_of d) m m' qs qs' eps (heard_by T ls) d.config d.used d.seq r
        ran = subst₂ (λ (s : Setting) (k : Config). RunIs s m m' qs qs' eps (heard_by T ls) k d.used d.seq r) s-is cf-is run

        ends : Ends (run_of H c ls st.table st.seq st.fresh) r
        ends = subst₂ (λ (k : Settings) (q : ℕ). Ends (run_of H k ls st.table q st.fresh) r) R.fixed.config_is (sym R.seq_is) (ran asks)

        framed : Outcome ModelWork → Said
        framed o = said st (at_frames st.frames) (o >>= λ v. ok (done st (suc st.frames) v))

        pub frame_on : (x : Work) → r ≡ Ok x → (d' : Decoder) → d' ≡ turned_of d (d.frames + 1) x → CalledBy g c l T m' eps places (call g c l (frame_call ls) st) (Done d')
        unfolding framed
        frame_on x q d' z = subst (λ (y : Decoder). CalledBy g c l T m' eps places (call g c l (frame_call ls) st) (Done y)) (sym z) (go (run_of H c ls st.table st.seq st.fresh) refl (subst (Ends _) q ends))
          where
            next : d.frames + 1 ≡ suc st.frames
            next = let k = R.frames_are in omega arith

            go : (o : Outcome ModelWork) → run_of H c ls st.table st.seq st.fresh ≡ o → Ends o (Ok x) → CalledBy g c l T m' eps places (call g c l (frame_call ls) st) (Done (turned_of d (d.frames + 1) x))
            go o b (ended_on {w = v} p A) =
                let made : frame g c l ls st ≡ ok (done st (suc st.frames) v) = frame_is ∙ ap (λ (o : Outcome ModelWork). o >>= λ v. ok (done st (suc st.frames) v)) b in
                subst (λ (s : Said). CalledBy g c l T m' eps places s (Done (turned_of d (d.frames + 1) x))) (sym (runs ∙ ap framed b))
                (called_done (fs ++ (hearing ls st.table ∷ [])) refl
                (record {
                  fixed = fixed_moved R.fixed m' L (1 - d.side) (d.frames + 1) x.seq x.used (other_side d.side R.fixed.side);
                  standing = subst (Accepted (Standing g (fs ++ (hearing ls st.table ∷ [])))) made (frame_standing g R.fixed.good R.fixed.floats c l st fs ls R.standing);
                  margin_is = R.margin_is;
                  idle = R.idle;
                  frames_are = sym next;
                  seq_is = A.stood.seq;
                  fits = A.stood.fits;
                  h = A.stood.rep.h;
                  stands = A.stood.rep.stands;
                  finished = subst (λ (b : ℕ). Shown A.stood.rep.h x.used m'.tokens m'.sums b d.graph.states v.table) (sym (back_side d.side R.fixed.side)) A.stood.rep.progress;
                  newest = A.stood.rep.newest;
                }))

        pub frame_back : (e : Reason) → r ≡ Err e → (b : Decoder) → BackIs m'.tokens m'.sums d b → (r' : Called) → r' ≡ Refused b (refused_at e (AtFrames b.frames)) → CalledBy g c l T m' eps places (call g c l (frame_call ls) st) r'
        unfolding framed
        frame_back e q b B r' z =
            subst (CalledBy g c l T m' eps places (call g c l (frame_call ls) st)) (sym (z ∙ ap (λ (y : Decoder). Refused y (refused_at e (AtFrames y.frames))) B.is))
            (go (run_of H c ls st.table st.seq st.fresh) refl (subst (Ends _) q ends))
          where
            go : (o : Outcome ModelWork) → run_of H c ls st.table st.seq st.fresh ≡ o → Ends o (Err e) → CalledBy g c l T m' eps places (call g c l (frame_call ls) st) (Refused (moved_to d d.side d.frames d.seq B.used) (refused_at e (AtFrames d.frames)))
            go o b (ended_refused j old) =
                let low = fewer old.finished B.newest in
                subst (λ (s : Said). CalledBy g c l T m' eps places s (Refused (moved_to d d.side d.frames d.seq B.used) (refused_at e (AtFrames d.frames)))) (sym (runs ∙ ap framed b))
                (called_refused fs (ap (λ (i : ℕ). refusal_answer (record { number = number_of e; place = at_frames i })) R.frames_are)
                (record {
                  fixed = fixed_moved R.fixed m' L d.side d.frames d.seq B.used R.fixed.side;
                  standing = R.standing;
                  margin_is = R.margin_is;
                  idle = R.idle;
                  frames_are = R.frames_are;
                  seq_is = R.seq_is;
                  fits = let z = old.fits in omega arith;
                  h = old.h;
                  stands = stands_fewer m' low old.stands;
                  finished = shown_fewer old.finished B.newest;
                  newest = newest_low old.finished B.newest st.fresh old.stands.none (λ s t a. (R.standing.active.sound s t a).falls);
                }))
