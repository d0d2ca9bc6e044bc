-- The whole pass: the pushes, then the loop. Assumes nothing.
use Rattle.std.specs.Prelude.{◌≡◌, refl, ℕ, ◌*◌, ◌≤◌, List, [], T, length, get_or, Float, Result, Ok, Err}
use Rattle.std.proofs.Common.{sym, ap, ◌∙◌, subst, arith}
use Rattle.std.proofs.Math.Option.{Option, none, some}
use Rattle.std.specs.Float.{binary32, nan}
use Rattle.std.specs.Float.Ieee.{fits}
use Rattle.model.specs.Basics.{Outcome, ok, ◌>>=◌}
use Rattle.model.specs.Path.{Path, Token, Table}
use Rattle.model.specs.Arrive.{Here, Work as ModelWork}
use Rattle.model.specs.Passes.{drain, fuel, nonemitting_pass}
use Rattle.model.specs.Accepted.{Ok as Accepted}
use Rattle.tokens.specs.Layout.{Cell, cell_at, place_in}
use Rattle.records.specs.History.{History}
use Rattle.copy_laws.proofs.Tables.{at_length, none≢some, some_same}
use Rattle.copy_laws.specs.Begun.{Starts}
use Rattle.copy_laws.proofs.Begun.{push_starts}
use Rattle.copy_laws.specs.Spending.{Fits}
use Rattle.copy_laws.specs.Ends.{Emptied, Runs}
use Rattle.copy_laws.proofs.Ends.{runs_empty, pass_runs}
use Rattle.stores.specs.Shown.{Shows, shows_token, Shown}
use Rattle.stores.specs.Rep.{Lent}
use Rattle.arrivals.specs.declared.Setting.{Setting}
use Rattle.arcs.specs.declared.Pass.TheVariants.{Nonemitting}
use Rattle.arcs.specs.declared.Work.{Work}
use Rattle.arcs.specs.Passed.{Ground, At, PassedBy, passed_refused, passed_on}
use Rattle.arcs.specs.State.{Tables, TablesOf}
use Rattle.arcs.specs.Ended.{EndedBy, ended_refused}
use Rattle.nonemitting.specs.Pushes.{PushGiven, pushes_of}
use Rattle.nonemitting.specs.Drain.{DrainGiven, DrainIs}
use Rattle.nonemitting.specs.Once.{runs_once}
use Rattle.refusals.specs.declared.Reason.{Reason}

-- any path may be in hand when the pass begins: record 0 stands for the empty one
pub record NonemittingGiven (g : Setting) (m : Lent) (qs eps : List ℕ) (T : Tables) (x : Work) : Type 0 where
  pub H : Here
  pub w : ModelWork
  pub done : Table
  pub p : Path
  pub ground : Ground g H done eps (length qs)
  pub at : At g m qs x done p w
  pub of : TablesOf H.graph Nonemitting T
  pub none_queued : w.queue ≡ []
  pub none_requeued : w.requeued ≡ []

-- what the pass leaves
pub record Nonemitted {g : Setting} {m : Lent} {qs eps : List ℕ} {T : Tables} {x : Work} (G : NonemittingGiven g m qs eps T x) (m' : Lent) (qs' : List ℕ) (r : Result Work Reason) : Type 0 where
  pub ends : EndedBy g m' qs' G.done (nonemitting_pass G.H G.w) r
  pub emptied : Emptied (nonemitting_pass G.H G.w)

abbrev pub NonemittingIs : (g : Setting) → (m m' : Lent) → (qs qs' eps : List ℕ) → Tables → Work → Result Work Reason → Type 0
NonemittingIs g m m' qs qs' eps T x r = (G : NonemittingGiven g m qs eps T x) → Nonemitted G m' qs' r

-- ---- costs in the stores are f32 values

-- what the code knows of a slice of f32 values
abbrev pub Known : List Float → Type 0
Known sm = (i : ℕ) → T (fits binary32 (get_or sm i nan))

costs_fit : (h : ℕ → History) (used : ℕ) (tk : List ℕ) (sm : List Float) (b n : ℕ) (ts : Table) → Known sm → Shown h used tk sm b n ts → Fits ts
unfolding cell_at
costs_fit h used tk sm b n ts known S s t e = go (get_or ts s none) e (S.place s (let z = at_length ts s t e in let k = S.size in omega arith))
  where
    go : (o : Option Token) → o ≡ some t → Shows h used (cell_at tk sm (place_in b s)) o → T (fits binary32 t.cost)
    go none q i = none≢some t q
    go (some u) q (shows_token y c i) =
        subst (λ (z : Float). T (fits binary32 z)) (ap (λ (x : Cell). x.cost) c ∙ i.cost ∙ ap (λ (x : Token). x.cost) (some_same u t q)) (known (place_in b s * 2))

module _ {g : Setting} {m : Lent} {qs eps : List ℕ} {T : Tables} {x : Work} (G : NonemittingGiven g m qs eps T x) where
  abbrev pub push_given : PushGiven g m qs eps x
  push_given = record { H = G.H; w = G.w; done = G.done; p = G.p; ground = G.ground; at = G.at; none_requeued = G.none_requeued }

  pub push_asks : (g.side ≤ 1) × (g.states * 8 ≤ length m.tokens) × (g.states ≤ length eps)
  push_asks = (G.ground.pass.side, G.at.stood.places.tokens, G.ground.eps_long)

  module _ (known : Known m.sums) where
    costs : Fits G.w.table
    costs = costs_fit G.at.stood.rep.h x.used m.tokens m.sums g.side g.states G.w.table known G.at.stood.rep.progress

    runs : Runs G.H G.w (nonemitting_pass G.H G.w)
    runs = pass_runs G.H (λ s a i. (G.ground.good.arc s a i).target) G.w (G.at.stood.rep.progress.size ∙ G.ground.states) costs G.none_queued G.none_requeued

    ends_so : (m' : Lent) (qs' : List ℕ) (r : Result Work Reason) → EndedBy g m' qs' G.done (nonemitting_pass G.H G.w) r → Nonemitted G m' qs' r
    ends_so m' qs' r E = record { ends = E; emptied = runs_empty G.H G.w (nonemitting_pass G.H G.w) runs }

    -- a push is refused
    pub push_stops : (qs' : List ℕ) (r : Result Work Reason) (n : Reason) → r ≡ Err n → PassedBy g m qs' G.done G.p (pushes_of push_given) r → Nonemitted G m qs' (Err n)
    unfolding nonemitting_pass
    push_stops qs' r n e P = ends_so m qs' (Err n) (go (pushes_of push_given) (subst (PassedBy g m qs' G.done G.p (pushes_of push_given)) e P))
      where
        go : (o : Outcome ModelWork) → PassedBy g m qs' G.done G.p o (Err n) → EndedBy g m qs' G.done (o >>= λ v. drain (fuel G.H.graph) G.H v) (Err n)
        go o (passed_refused j z) = ended_refused n z

    -- all are pushed
    module _ (qs' : List ℕ) (long : length qs' ≡ length qs) (r : Result Work Reason) (x' : Work) (e : r ≡ Ok x') (P : PassedBy g m qs' G.done G.p (pushes_of push_given) r) where
      record Queue : Type 0 where
        v : ModelWork
        at : At g m qs' x' G.done G.p v
        is : pushes_of push_given ≡ ok v

      queue : Queue
      queue = go (pushes_of push_given) refl (subst (PassedBy g m qs' G.done G.p (pushes_of push_given)) e P)
        where
          go : (o : Outcome ModelWork) → pushes_of push_given ≡ o → PassedBy g m qs' G.done G.p o (Ok x') → Queue
          go o q (passed_on {w} A) = record { v = w; at = A; is = q }

      starts : Starts G.H.graph G.w queue.v
      starts = subst (Accepted (Starts G.H.graph G.w)) queue.is (push_starts G.H G.w)

      pub drain_given : DrainGiven g m qs' eps T x'
      drain_given =
          record {
            H = G.H;
            w = queue.v;
            done = G.done;
            p = G.p;
            ground = subst (Ground g G.H G.done eps) (sym long) G.ground;
            at = queue.at;
            of = G.of;
            costs = subst Fits (sym starts.same.table) costs;
          }

      pub drained : (m' : Lent) (qs'' : List ℕ) (r' : Result Work Reason) → DrainIs g m m' qs' qs'' eps T x' r' → Nonemitted G m' qs'' r'
      unfolding drain_given
      drained m' qs'' r' D =
          let d = D drain_given in
          ends_so m' qs'' r' (subst (λ (o : Outcome ModelWork). EndedBy g m' qs'' G.done o r') (sym (runs_once G.H G.w queue.v (nonemitting_pass G.H G.w) d.outcome runs queue.is d.loops)) d.ends)
