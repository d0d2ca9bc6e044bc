-- Where a pass stands: what does not change during it, what the stores stand for, and what one arriving arc leaves.
use Rattle.std.specs.Prelude.{◌≡◌, ℕ, ◌+◌, ◌^◌, ◌<◌, ◌≤◌, List, pos, nat_lt, Float, Result, Ok, Err}
use Rattle.model.specs.Basics.{Outcome, ok, refused}
use Rattle.model.specs.Graph.{Arc}
use Rattle.model.specs.Path.{Path, Token, Table, paths, memℕ, full_at}
use Rattle.model.specs.Arrive.{Pass, total, Here, Work, Change, arc_cut, token_stays, token_wins, token_joins, passed, put}
use Rattle.tokens.specs.declared.Token.{Token as Stored}
use Rattle.tokens.specs.Layout.{place_in, requeued_at}
use Rattle.joins.specs.Model.{margin_of}
use Rattle.copy_laws.specs.Tables.{vacant}
use Rattle.stores.specs.Rep.{Lent, Places, Rep, Old}
use Rattle.arrivals.specs.declared.Arrival.{Arrival}
use Rattle.arrivals.specs.declared.Setting.{Setting}
use Rattle.arrivals.specs.declared.Going.{Going}
use Rattle.arrivals.specs.declared.Arrived.{Arrived}
use Rattle.arrivals.specs.declared.Arrived.TheVariants.{Cut, Stays, Wins, Joins}
use Rattle.arrivals.specs.Arrival.{ArrivalIs}
use Rattle.refusals.specs.declared.Reason.{Reason}
use Rattle.refusals.specs.Numbers.{number_of}

-- the setting is the model's; the finished table is `done`
pub record PassIs (g : Setting) (H : Here) (done : Table) : Type 0 where
  pub side : g.side ≤ 1
  pub few : g.states ≤ 65535
  pub small : g.cap ≤ 1048576
  pub before : H.before ≡ paths done
  pub frame : g.frame ≡ H.frame
  pub margin : H.margin ≡ margin_of g.margin
  pub full : (ps : List Path) → H.limits.full ps ≡ full_at g.cap ps

-- The stores stand for the work, with a path in hand. There is a seq for every state that has none yet.
pub record Stood (g : Setting) (m : Lent) (y : Going) (done : Table) (p : Path) (w : Work) : Type 0 where
  pub places : Places g.states g.cap m
  pub fits : y.used ≤ g.cap
  pub rep : Rep g.side g.states m y.used y.link p done w.table w.fresh
  pub seq : w.seq ≡ y.seq
  pub seqs : w.seq + vacant w.table < 2 ^ 32
  pub requeued : (s : ℕ) → s < g.states → memℕ s w.requeued ≡ nat_lt 0 (requeued_at m.tokens (place_in g.side s))

-- what one arriving arc is given
pub record Given (g : Setting) (m : Lent) (cutoff : Float) (y : Going) (x : Stored) (a : Arrival) : Type 0 where
  pub H : Here
  pub P : Pass
  pub t : Token
  pub arc : Arc
  pub w : Work
  pub done : Table
  pub pass : PassIs g H done
  pub stood : Stood g m y done t.path w
  pub cutoff_is : w.cutoff ≡ cutoff
  pub arrival : ArrivalIs H P t arc a
  pub phone : pos x.phone ≡ t.phone
  pub target : a.target < g.states

-- what it leaves, by what the definition's `settle` gives
pub data ArrivedBy (g : Setting) (m m' : Lent) (H : Here) (P : Pass) (t : Token) (arc : Arc) (w : Work) (done : Table) : Outcome Change → Result Arrived Reason → Type 0 where
  arrived_refused : (e : Reason) → Old g.side g.states g.cap m' done → ArrivedBy g m m' H P t arc w done (refused (number_of e)) (Err e)
  arrived_cut : m' ≡ m → ArrivedBy g m m' H P t arc w done (ok arc_cut) (Ok Cut)
  arrived_stays : {y : Going} → Stood g m' y done t.path (passed P (total H.graph P t arc) w) → ArrivedBy g m m' H P t arc w done (ok token_stays) (Ok (Stays y))
  arrived_wins : {y : Going} {u : Token} {q : ℕ} → Stood g m' y done t.path (put arc.target u q (passed P (total H.graph P t arc) w)) → ArrivedBy g m m' H P t arc w done (ok (token_wins u q)) (Ok (Wins y))
  arrived_joins : {y : Going} {u : Token} → Stood g m' y done t.path (put arc.target u w.seq (passed P (total H.graph P t arc) w)) → ArrivedBy g m m' H P t arc w done (ok (token_joins u)) (Ok (Joins y))
