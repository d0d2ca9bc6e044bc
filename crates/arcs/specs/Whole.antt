-- One arriving arc, whole. Assumes nothing.
use Rattle.std.specs.Prelude.{◌≡◌, ℕ, ◌+◌, ◌*◌, ◌≤◌, ◌<◌, List, ℤ, length, Float, Result, Ok, Err}
use Rattle.std.proofs.Math.Path.{refl}
use Rattle.std.proofs.Common.{arith}
use Rattle.model.specs.Basics.{Outcome, ◌>>=◌}
use Rattle.model.specs.Graph.{Arc}
use Rattle.model.specs.Path.{Token, Table}
use Rattle.model.specs.Arrive.{Pass as ModelPass, Here, Work as ModelWork, Change, total, finish, arrive}
use Rattle.tokens.specs.declared.Token.{Token as Stored}
use Rattle.stores.specs.Rep.{Lent, lent}
use Rattle.arrivals.specs.declared.Arrival.{Arrival}
use Rattle.arrivals.specs.declared.Setting.{Setting}
use Rattle.arrivals.specs.declared.Arrived.{Arrived}
use Rattle.arrivals.specs.Arrival.{ArrivalIs}
use Rattle.arrivals.specs.Stood.{Given, ArrivedBy, arrived_refused}
use Rattle.arrivals.specs.Arrives.{ArriveIs, comes_of}
use Rattle.arcs.specs.declared.Pass.{Pass}
use Rattle.arcs.specs.declared.Work.{Work}
use Rattle.arcs.specs.Part.{pass_of, SourceIs}
use Rattle.arcs.specs.Passed.{Ground, going_of, At, PassedBy, passed_refused}
use Rattle.arcs.specs.Finish.{FinishIs, finished}
use Rattle.refusals.specs.declared.Reason.{Reason}

pub record WholeGiven (g : Setting) (m : Lent) (qs eps : List ℕ) (pass : Pass) (x : Work) (source : Stored) (a : Arrival) : Type 0 where
  pub H : Here
  pub loglikes : List Float
  pub t : Token
  pub arc : Arc
  pub w : ModelWork
  pub done : Table
  pub ground : Ground g H done eps (length qs)
  pub at : At g m qs x done t.path w
  pub arrival : ArrivalIs H (pass_of pass loglikes) t arc a
  pub token : SourceIs source t
  pub target : a.target < g.states

abbrev pub WholeIs : (g : Setting) → (m m' : Lent) → (qs qs' eps : List ℕ) → Pass → Work → Stored → Arrival → Result Work Reason → Type 0
WholeIs g m m' qs qs' eps pass x source a r = (G : WholeGiven g m qs eps pass x source a) → PassedBy g m' qs' G.done G.t.path (arrive G.H (pass_of pass G.loglikes) G.t G.arc G.w) r

module _ {g : Setting} {m : Lent} {qs eps : List ℕ} {pass : Pass} {x : Work} {source : Stored} {a : Arrival} (G : WholeGiven g m qs eps pass x source a) where
  -- what the arc itself is given
  abbrev pub arc_given : Given g m x.cutoff (going_of x) source a
  arc_given =
      record {
        H = G.H;
        P = pass_of pass G.loglikes;
        t = G.t;
        arc = G.arc;
        w = G.w;
        done = G.done;
        pass = G.ground.pass;
        stood = G.at.stood;
        cutoff_is = G.at.cutoff;
        arrival = G.arrival;
        phone = G.token.phone;
        target = G.target;
      }

  -- the arc is refused
  pub whole_stops : (m' : Lent) (e : Reason) → ArriveIs g m m' x.cutoff (going_of x) source a (Err e) → PassedBy g m' qs G.done G.t.path (arrive G.H (pass_of pass G.loglikes) G.t G.arc G.w) (Err e)
  unfolding arrive
  whole_stops m' e came-by = go (comes_of arc_given) (came-by arc_given)
    where
      P : ModelPass
      P = pass_of pass G.loglikes

      go : (o : Outcome Change) → ArrivedBy g m m' G.H P G.t G.arc G.w G.done o (Err e)
          → PassedBy g m' qs G.done G.t.path (o >>= finish G.H P G.arc.target (total G.H.graph P G.t G.arc) G.w) (Err e)
      go o (arrived_refused j z) = passed_refused e z

  pub whole : (tk tk' : List ℕ) (sm : List Float) (rs : List ℕ) (rl : List ℤ) (gs : List Float) (qs' : List ℕ) (came : Arrived) (r : Result Work Reason) → length tk' ≡ length tk → ArriveIs g m (lent tk sm rs rl gs) x.cutoff (going_of x) source a (Ok came)
      → FinishIs tk tk' eps qs qs' g.side pass x a came r → PassedBy g (lent tk' sm rs rl gs) qs' G.done G.t.path (arrive G.H (pass_of pass G.loglikes) G.t G.arc G.w) r
  unfolding arrive
  whole tk tk' sm rs rl gs qs' came r long came-by ends =
      finished G.ground tk tk' sm rs rl gs long qs qs' refl pass G.loglikes m G.t G.arc x a G.w G.at G.arrival.total G.arrival.target G.target (comes_of arc_given) came r (came-by arc_given) ends

  -- what safety asks of its end
  pub end_asks : (tk : List ℕ) → length tk ≡ length m.tokens → (g.side ≤ 1) × (a.target * 8 + 8 ≤ length tk) × (a.target < length eps)
  end_asks tk long =
      let low = G.target in
      (G.ground.pass.side, let z = G.at.stood.places.tokens in omega arith, let z = G.ground.eps_long in omega arith)
