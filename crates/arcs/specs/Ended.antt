-- What comes of a step after which any path may be in hand, and another path taken in hand. Assumes nothing.
use Rattle.std.specs.Prelude.{ℕ, List, Result, Ok, Err}
use Rattle.model.specs.Basics.{Outcome, ok, refused}
use Rattle.model.specs.Path.{Path, Table}
use Rattle.model.specs.Arrive.{Work as ModelWork}
use Rattle.stores.specs.Shown.{Is}
use Rattle.stores.specs.Rep.{Lent, Old}
use Rattle.arrivals.specs.declared.Setting.{Setting}
use Rattle.arcs.specs.declared.Work.{Work}
use Rattle.arcs.specs.Passed.{At, PassedBy, passed_refused, passed_on}
use Rattle.refusals.specs.declared.Reason.{Reason}
use Rattle.refusals.specs.Numbers.{number_of}

pub data EndedBy (g : Setting) (m : Lent) (qs : List ℕ) (done : Table) : Outcome ModelWork → Result Work Reason → Type 0 where
  ended_refused : (e : Reason) → Old g.side g.states g.cap m done → EndedBy g m qs done (refused (number_of e)) (Err e)
  ended_on : {w : ModelWork} {x : Work} → (p : Path) → At g m qs x done p w → EndedBy g m qs done (ok w) (Ok x)

pub ended : {g : Setting} {m : Lent} {qs : List ℕ} {done : Table} {p : Path} {o : Outcome ModelWork} {r : Result Work Reason} → PassedBy g m qs done p o r → EndedBy g m qs done o r
ended (passed_refused e z) = ended_refused e z
ended {p = p} (passed_on A) = ended_on p A

-- another record in hand
abbrev pub with_link : Work → (link : ℕ) → Work
with_link x l = record { used = x.used; seq = x.seq; link = l; cutoff = x.cutoff; queued = x.queued }

pub in_hand : {g : Setting} {m : Lent} {qs : List ℕ} {x : Work} {done : Table} {p : Path} {w : ModelWork} (l : ℕ) (q : Path) (A : At g m qs x done p w) → Is A.stood.rep.h x.used l q → At g m qs (with_link x l) done q w
in_hand l q A i =
    let s = A.stood in
    record {
      stood = record {
        places = s.places;
        fits = s.fits;
        rep = record { h = s.rep.h; stands = s.rep.stands; finished = s.rep.finished; progress = s.rep.progress; hand = i; newest = s.rep.newest };
        seq = s.seq;
        seqs = s.seqs;
        requeued = s.requeued;
      };
      cutoff = A.cutoff;
      fits = A.fits;
      queue = A.queue;
    }
