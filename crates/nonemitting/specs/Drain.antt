-- The queue's loop: last in, first out, until the queue is empty. Assumes nothing.
use Rattle.std.specs.Prelude.{◌≡◌, refl, ℕ, ◌-◌, ◌≤◌, ◌<◌, List, [], ◌∷◌, length, get_or, Result, Ok, Err}
use Rattle.std.proofs.Common.{sym, ap, ◌∙◌, arith}
use Rattle.std.proofs.Math.Path.{subst}
use Rattle.std.proofs.Math.Option.{none}
use Rattle.lists.specs.Lists.{◌∈◌}
use Rattle.model.specs.Basics.{Outcome, ok, refused}
use Rattle.model.specs.Graph.{Arc, states, arcs_of}
use Rattle.model.specs.Path.{Path, Table}
use Rattle.model.specs.Arrive.{Here, Work as ModelWork}
use Rattle.model.specs.Passes.{popped, expand}
use Rattle.model.specs.Accepted.{Ok as Accepted}
use Rattle.copy_laws.specs.Spending.{Fits, left}
use Rattle.copy_laws.specs.Ends.{Loops, loop_ends, loop_refused, loop_turns}
use Rattle.copy_laws.proofs.Ends.{Going as Lasts, turn_goes}
use Rattle.stores.specs.Rep.{Lent}
use Rattle.arrivals.specs.declared.Setting.{Setting}
use Rattle.arcs.specs.declared.Pass.TheVariants.{Nonemitting}
use Rattle.arcs.specs.declared.Work.{Work}
use Rattle.arcs.specs.Queue.{Queued}
use Rattle.arcs.specs.Passed.{Ground, At}
use Rattle.arcs.specs.State.{Tables, TablesOf}
use Rattle.arcs.specs.Ended.{EndedBy, ended_refused, ended_on}
use Rattle.nonemitting.specs.Expand.{ExpandGiven, ExpandIs}
use Rattle.nonemitting.specs.Measure.{left_in, left_is}
use Rattle.refusals.specs.declared.Reason.{Reason}
use Rattle.refusals.specs.Numbers.{number_of}

pub record DrainGiven (g : Setting) (m : Lent) (qs eps : List ℕ) (T : Tables) (x : Work) : Type 0 where
  pub H : Here
  pub w : ModelWork
  pub done : Table
  pub p : Path
  pub ground : Ground g H done eps (length qs)
  pub at : At g m qs x done p w
  pub of : TablesOf H.graph Nonemitting T
  pub costs : Fits w.table

-- what the loop comes to
pub record Drained {g : Setting} {m : Lent} {qs eps : List ℕ} {T : Tables} {x : Work} (G : DrainGiven g m qs eps T x) (m' : Lent) (qs' : List ℕ) (r : Result Work Reason) : Type 0 where
  pub outcome : Outcome ModelWork
  pub loops : Loops G.H G.w outcome
  pub ends : EndedBy g m' qs' G.done outcome r

abbrev pub DrainIs : (g : Setting) → (m m' : Lent) → (qs qs' eps : List ℕ) → Tables → Work → Result Work Reason → Type 0
DrainIs g m m' qs qs' eps T x r = (G : DrainGiven g m qs eps T x) → Drained G m' qs' r

-- one state less in the queue
abbrev pub unqueued : Work → Work
unqueued x = record { used = x.used; seq = x.seq; link = x.link; cutoff = x.cutoff; queued = x.queued - 1 }

-- ---- a state popped

record Popped (n : ℕ) (qs : List ℕ) (k : ℕ) (q : List ℕ) : Type 0 where
  s : ℕ
  rest : List ℕ
  is : q ≡ s ∷ rest
  low : s < n
  last : get_or qs (k - 1) 0 ≡ s
  queue : Queued n qs (k - 1) rest

pop : (n : ℕ) (qs : List ℕ) (k : ℕ) (q : List ℕ) → 0 < k → Queued n qs k q → Popped n qs k q
pop n qs k [] l e = absurd (omega arith)
pop n qs k (s ∷ rest) l e = record { s = s; rest = rest; is = refl; low = e.0; last = e.2; queue = e.3 }

empty : (n : ℕ) (qs : List ℕ) (k : ℕ) (q : List ℕ) → k ≤ 0 → Queued n qs k q → q ≡ []
empty n qs k [] l e = refl
empty n qs k (s ∷ rest) l e = let z = e.1 in absurd (omega arith)

-- ---- the loop

module _ {g : Setting} {m : Lent} {qs eps : List ℕ} {T : Tables} {x : Work} (G : DrainGiven g m qs eps T x) where
  inside : (s : ℕ) (a : Arc) → a ∈ arcs_of G.H.graph s → a.target < states G.H.graph
  inside s a i = (G.ground.good.arc s a i).target

  -- the turns so far
  pub record SoFar (m' : Lent) (qs' : List ℕ) (x' : Work) : Type 0 where
    pub w' : ModelWork
    pub p : Path
    pub at : At g m' qs' x' G.done p w'
    pub costs : Fits w'.table
    pub rest : (o : Outcome ModelWork) → Loops G.H w' o → Loops G.H G.w o

  pub far_start : SoFar m qs x
  far_start = record { w' = G.w; p = G.p; at = G.at; costs = G.costs; rest = λ o l. l }

  module _ {m' : Lent} {qs' : List ℕ} {x' : Work} (F : SoFar m' qs' x') where
    pub far_end : x'.queued ≤ 0 → Drained G m' qs' (Ok x')
    far_end l = record { outcome = ok F.w'; loops = F.rest (ok F.w') (loop_ends (empty g.states qs' x'.queued F.w'.queue l F.at.queue)); ends = ended_on F.p F.at }

    module _ (some : 0 < x'.queued) where
      abbrev top : Popped g.states qs' x'.queued F.w'.queue
      top = pop g.states qs' x'.queued F.w'.queue some F.at.queue

      abbrev after : ModelWork
      after = popped F.w' top.rest

      module _ (k : length qs' ≡ length qs) (s : ℕ) (is : s ≡ get_or qs' (x'.queued - 1) 0) where
        given_top : ExpandGiven g m' qs' eps T (unqueued x') top.s
        given_top =
            record {
              H = G.H;
              w = after;
              done = G.done;
              p = F.p;
              ground = subst (Ground g G.H G.done eps) (sym k) G.ground;
              at = record {
                stood = record { places = F.at.stood.places; fits = F.at.stood.fits; rep = F.at.stood.rep; seq = F.at.stood.seq; seqs = F.at.stood.seqs; requeued = F.at.stood.requeued };
                cutoff = F.at.cutoff;
                fits = let z = F.at.fits in omega arith;
                queue = top.queue;
              };
              of = G.of;
              low = top.low;
            }

        pub state_given : ExpandGiven g m' qs' eps T (unqueued x') s
        state_given = subst (ExpandGiven g m' qs' eps T (unqueued x')) (sym (is ∙ top.last)) given_top

        module _ {m'' : Lent} {qs'' : List ℕ} {r : Result Work Reason} (step : ExpandIs g m' m'' qs' qs'' eps T (unqueued x') s r) where
          abbrev turned : Outcome ModelWork
          turned = expand G.H top.s (get_or F.w'.table top.s none) after

          step_top : EndedBy g m'' qs'' G.done turned r
          unfolding given_top
          step_top = subst (λ (j : ℕ). ExpandIs g m' m'' qs' qs'' eps T (unqueued x') j r) (is ∙ top.last) step given_top

          pub far_stop : (n : Reason) → r ≡ Err n → Drained G m'' qs'' (Err n)
          far_stop n e = go turned refl (subst (EndedBy g m'' qs'' G.done turned) e step_top)
            where
              go : (o : Outcome ModelWork) → turned ≡ o → EndedBy g m'' qs'' G.done o (Err n) → Drained G m'' qs'' (Err n)
              go o q (ended_refused j z) = record { outcome = refused (number_of n); loops = F.rest (refused (number_of n)) (loop_refused top.s top.rest (number_of n) top.is q); ends = ended_refused n z }

          module _ (x'' : Work) (e : r ≡ Ok x'') where
            record Turn : Type 0 where
              v : ModelWork
              p : Path
              at : At g m'' qs'' x'' G.done p v
              goes : turned ≡ ok v

            turn : Turn
            turn = go turned refl (subst (EndedBy g m'' qs'' G.done turned) e step_top)
              where
                go : (o : Outcome ModelWork) → turned ≡ o → EndedBy g m'' qs'' G.done o (Ok x'') → Turn
                go o q (ended_on {w} p A) = record { v = w; p = p; at = A; goes = q }

            abbrev len : ℕ
            len = states G.H.graph

            lasts : Lasts G.H inside (left len F.w' - 1) turn.v
            lasts =
                subst (Accepted (Lasts G.H inside (left len F.w' - 1))) turn.goes
                (turn_goes G.H inside (left len F.w' - 1) top.s top.rest F.w' top.is (record { long = F.at.stood.rep.progress.size ∙ G.ground.states; costs = F.costs; small = omega arith }))

            pub far_next : SoFar m'' qs'' x''
            far_next = record { w' = turn.v; p = turn.p; at = turn.at; costs = lasts.costs; rest = λ o l. F.rest o (loop_turns top.s top.rest turn.v top.is turn.goes l) }

            pub far_less : left_in m''.tokens m''.sums g.side g.states x''.queued < left_in m'.tokens m'.sums g.side g.states x'.queued
            far_less =
                let a = left_is turn.at ∙ ap (λ (n : ℕ). left n turn.v) G.ground.states in
                let b = left_is F.at ∙ ap (λ (n : ℕ). left n F.w') G.ground.states in
                let c = lasts.small in
                let d : 0 < left len F.w' = let z = ap length top.is in omega arith in
                omega arith
