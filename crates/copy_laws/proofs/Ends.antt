-- The fuel of the definition's queue is no limit: on every accepted graph `drain` is the Rust's loop, and leaves an empty queue. Assumes nothing.
use Rattle.std.specs.Prelude.{◌≡◌, length, get_or}
use Rattle.std.proofs.Math.Path.{refl, subst}
use Rattle.std.proofs.Common.{sym, ap, ◌∙◌, length-set}
use Prim.Native.Nat.{ℕ, zero, suc, ◌*◌, ◌^◌, ◌<◌, ◌≤◌}
use native.Mathlib.Omega.{arith}
use Rattle.std.proofs.Math.Option.{Option, none, some}
use mathlib.Core.List.Memᴰ.{head as here}
use mathlib.Core.List.Memᴰ.{tail as there}
use mathlib.Core.List.{List, [], ◌∷◌}
use Rattle.std.proofs.Math.Dec.{T}
use Rattle.std.specs.Float.Ieee.{binary32, fits}
use Rattle.std.specs.Float.Ieee.Fits.{add-fits}
use Rattle.lists.specs.Lists.{◌∈◌}
use Rattle.model.specs.Basics.{◌≼◌, Outcome, ok, refused, ◌>>=◌}
use Rattle.model.specs.Graph.{Arc, states, arcs_of}
use Rattle.model.specs.Path.{Token}
use Rattle.model.specs.Arrive.{nonemitting, takes, total, Here, Work, arriving, joined, arrive, arrive_all}
use Rattle.model.specs.Passes.{push_from, popped, expand, drain, fuel, nonemitting_pass}
use Rattle.model.specs.Accepted.{Ok}
use Rattle.model.proofs.Accepted.{then, branches}
use Rattle.model.proofs.Came.{Came, came_cut, came_vacant, came_better, came_dropped, came_joined, arrive_came}
use Rattle.copy_laws.proofs.Tables.{at_put}
use Rattle.copy_laws.specs.Begun.{Starts}
use Rattle.copy_laws.proofs.Begun.{push_starts}
use Rattle.copy_laws.proofs.Active.{with_loser}
use Rattle.copy_laws.specs.Spending.{worth, Fits, spare, left}
use Rattle.copy_laws.proofs.Spending.{worth_le, spare_nil, arrive_spends}
use Rattle.copy_laws.specs.Ends.{Loops, loop_ends, loop_refused, loop_turns, Runs, run_refused, run_loops, Emptied}

loops_empty : (h : Here) (w : Work) (o : Outcome Work) → Loops h w o → Emptied o
loops_empty h w o (loop_ends e) = e
loops_empty h w o (loop_refused s q n e f) = tt
loops_empty h w o (loop_turns {o = o'} s q v e f l) = loops_empty h v o' l

pub runs_empty : (h : Here) (w : Work) (o : Outcome Work) → Runs h w o → Emptied o
runs_empty h w o (run_refused n e) = tt
runs_empty h w o (run_loops {o = o'} v e l) = loops_empty h v o' l

-- ---- every turn spends

module _ (h : Here) (inside : (s : ℕ) (a : Arc) → a ∈ arcs_of h.graph s → a.target < states h.graph) where
  abbrev len : ℕ
  len = states h.graph

  -- costs are f32 values, and no more than n is left
  pub record Going (n : ℕ) (w : Work) : Type 0 where
    pub long : length w.table ≡ len
    pub costs : Fits w.table
    pub small : left len w ≤ n

  came_fits : (t : Token) (a : Arc) (w v : Work) → Fits w.table → Came h nonemitting t a w v → Fits v.table
  unfolding arriving joined total
  came_fits t a w v f (came_cut c e) = subst (λ (x : Work). Fits x.table) (sym e) f
  came_fits t a w v f (came_vacant c e l d q r) = at_put (λ s x. T (fits binary32 x.cost)) w.table v.table a.target _ d (add-fits binary32 t.cost a.weight) (λ s x o e. f s x e)
  came_fits t a w v f (came_better c held e b l u j d q r) =
      let k = add-fits binary32 t.cost a.weight in
      at_put (λ s x. T (fits binary32 x.cost)) w.table v.table a.target u d (with_loser (λ x. T (fits binary32 x.cost)) h (suc w.fresh) _ held u j k k) (λ s x o e. f s x e)
  came_fits t a w v f (came_dropped c held e b d q r) = subst Fits (sym d) f
  came_fits t a w v f (came_joined c held e b d q r) = at_put (λ s x. T (fits binary32 x.cost)) w.table v.table a.target _ d (f a.target held e) (λ s x o e. f s x e)

  came_long : (t : Token) (a : Arc) (w v : Work) → Came h nonemitting t a w v → length v.table ≡ length w.table
  came_long t a w v (came_cut c e) = ap (λ (x : Work). length x.table) e
  came_long t a w v (came_vacant c e l f q r) = ap length f ∙ simp length-set
  came_long t a w v (came_better c held e b l u j f q r) = ap length f ∙ simp length-set
  came_long t a w v (came_dropped c held e b f q r) = ap length f
  came_long t a w v (came_joined c held e b f q r) = ap length f ∙ simp length-set

  both : {A : Type 0} (P Q : A → Type 0) (m : Outcome A) → Ok P m → Ok Q m → Ok (λ a. P a × Q a) m
  both P Q (ok a) p q = (p, q)
  both P Q (refused n) p q = tt

  arrive_goes : (n s : ℕ) (t : Token) (a : Arc) (w : Work) → a ∈ arcs_of h.graph s → Going n w → Ok (λ v. Came h nonemitting t a w v × (left len v ≤ left len w)) (arrive h nonemitting t a w)
  unfolding total
  arrive_goes n s t a w m g =
      both (Came h nonemitting t a w) (λ v. left len v ≤ left len w) (arrive h nonemitting t a w) (arrive_came h nonemitting t a w)
      (arrive_spends h len t a w (inside s a m) g.long (add-fits binary32 t.cost a.weight) (λ held e. g.costs a.target held e))

  arrive_all-goes : (n s : ℕ) (t : Token) (as' : List Arc) → ((a : Arc) → a ∈ as' → a ∈ arcs_of h.graph s) → (w : Work) → Going n w → Ok (Going n) (arrive_all h nonemitting t as' w)
  unfolding arrive_all
  arrive_all-goes n s t [] i w g = g
  arrive_all-goes n s t (a ∷ rest) i w g =
      let more = arrive_all-goes n s t rest (λ b m. i b (there m)) in
      branches (Going n) (takes nonemitting a) _ _
      (λ e. then (λ v. Came h nonemitting t a w v × (left len v ≤ left len w)) (Going n) (arrive h nonemitting t a w) _ (arrive_goes n s t a w (i a (here refl)) g) λ v c.
      more v (record { long = came_long t a w v c.0 ∙ g.long; costs = came_fits t a w v g.costs c.0; small = let x = g.small in let y = c.1 in omega arith }))
      (λ e. more w g)

  expand_goes : (n s : ℕ) (o : Option Token) (w : Work) → Going n w → Ok (Going n) (expand h s o w)
  unfolding expand
  expand_goes n s none w g = g
  expand_goes n s (some t) w g = branches (Going n) (w.cutoff ≼ t.cost) _ _ (λ c. g) (λ c. arrive_all-goes n s t (arcs_of h.graph s) (λ a m. m) w g)

  -- one turn: a state popped and expanded
  pub turn_goes : (n s : ℕ) (q : List ℕ) (w : Work) → w.queue ≡ s ∷ q → Going (suc n) w → Ok (Going n) (expand h s (get_or w.table s none) (popped w q))
  turn_goes n s q w e g = expand_goes n s (get_or w.table s none) (popped w q) (record { long = g.long; costs = g.costs; small = let x = g.small in let y = ap length e in omega arith })

  no_queue : (q : List ℕ) → length q ≤ 0 → q ≡ []
  no_queue [] e = refl
  no_queue (s ∷ q) e = absurd (omega arith)

  drain_loops : (n : ℕ) (w : Work) → Going n w → Loops h w (drain n h w)
  unfolding drain
  drain_loops zero w g = loop_ends (no_queue w.queue (let x = g.small in omega arith))
  drain_loops (suc n) w g = go w.queue refl (drain_loops n)
    where
      turn : (s : ℕ) (q : List ℕ) → w.queue ≡ s ∷ q → ((v : Work) → Going n v → Loops h v (drain n h v)) → (o : Outcome Work) → expand h s (get_or w.table s none) (popped w q) ≡ o → Ok (Going n) o → Loops h w (o >>= λ v. drain n h v)
      turn s q e rec (ok v) f k = loop_turns s q v e f (rec v k)
      turn s q e rec (refused m) f k = loop_refused s q m e f

      go : (r : List ℕ) → w.queue ≡ r → ((v : Work) → Going n v → Loops h v (drain n h v)) → Loops h w (elim r as (λ x. Outcome Work) [ [] ↦ ok w | s ∷ q ↦ expand h s (get_or w.table s none) (popped w q) >>= λ v. drain n h v ])
      go [] e rec = loop_ends e
      go (s ∷ q) e rec = turn s q e rec (expand h s (get_or w.table s none) (popped w q)) refl (turn_goes n s q w e g)

  -- from a table of f32 costs, with nothing requeued yet
  pub enough : (w : Work) → length w.table ≡ len → Fits w.table → w.queue ≡ [] → w.requeued ≡ [] → (v : Work) → Starts h.graph w v → Going (fuel h.graph) v
  enough w long costs nq nr v b =
      let same = b.same.table in
      let l : length v.table ≡ len = ap length same ∙ long in
      let f : Fits v.table = subst Fits (sym same) costs in
      let x : worth v.table ≤ len * 2 ^ 33 = subst (λ (k : ℕ). worth v.table ≤ k * 2 ^ 33) l (worth_le v.table f) in
      let y = b.few in
      let z : spare len v.requeued ≡ len = ap (spare len) (b.none_requeued nr) ∙ spare_nil len in
      let k = ap length nq in
      record { long = l; costs = f; small = omega arith }

  -- the fuel is enough
  pub pass_runs : (w : Work) → length w.table ≡ len → Fits w.table → w.queue ≡ [] → w.requeued ≡ [] → Runs h w (nonemitting_pass h w)
  unfolding nonemitting_pass
  pass_runs w long costs nq nr = go (push_from h 0 w.table w) refl (push_starts h w)
    where
      go : (o : Outcome Work) → push_from h 0 w.table w ≡ o → Ok (Starts h.graph w) o → Runs h w (o >>= λ v. drain (fuel h.graph) h v)
      go (ok v) e b = run_loops v e (drain_loops (fuel h.graph) v (enough w long costs nq nr v b))
      go (refused n) e b = run_refused n e
