-- How the pass begins: the active states with epsilon arcs are pushed, ascending. Assumes nothing.
use Rattle.std.specs.Prelude.{◌≡◌, refl, ℕ, suc, ◌+◌, ◌≤◌, ◌<◌, Bool, true, false, List, [], ◌∷◌, ltb, ℤ, get_or, Float, Result, Ok, Err}
use Rattle.std.proofs.Common.{sym, ◌∙◌, drop-cons, lt-ltb, le-ltb}
use Rattle.std.proofs.Math.Path.{ap, subst}
use native.Mathlib.Omega.{arith}
use Rattle.std.proofs.Math.Option.{Option, none, some}
use Rattle.std.proofs.Math.ListN.{length, drop}
use Rattle.std.proofs.Math.Seq.{drop-length}
use Rattle.model.specs.Basics.{over, Outcome, ok, ◌>>=◌}
use Rattle.model.specs.Graph.{has_eps}
use Rattle.model.specs.Path.{Path, Token, Table}
use Rattle.model.specs.Arrive.{Here, Work as ModelWork, push}
use Rattle.model.specs.Passes.{push_from}
use Rattle.model.specs.Accepted.{Ok as Accepted}
use Rattle.model.proofs.Accepted.{branches}
use Rattle.tokens.specs.Layout.{place_in, held_at, NextActive}
use Rattle.stores.specs.Shown.{Shown}
use Rattle.stores.specs.Tables.{active_at, skip_to}
use Rattle.stores.specs.Rep.{Lent, lent}
use Rattle.arrivals.specs.declared.Setting.{Setting}
use Rattle.arcs.specs.declared.Work.{Work}
use Rattle.arcs.specs.Passed.{Ground, At, PassedBy, passed_refused, passed_on, PushIs}
use Rattle.arcs.specs.Finish.{pushed}
use Rattle.refusals.specs.declared.Reason.{Reason}

-- one state, as the code has it
pub data StatePushed (eps qs qs' : List ℕ) (x : Work) (s : ℕ) : Result Work Reason → Type 0 where
  state_stays : get_or eps s 0 ≡ 0 → qs' ≡ qs → StatePushed eps qs qs' x s (Ok x)
  state_pushed : {r : Result Work Reason} → (get_or eps s 0 ≡ 0 → ⊥) → PushIs qs qs' x s r → StatePushed eps qs qs' x s r

pub record PushGiven (g : Setting) (m : Lent) (qs eps : List ℕ) (x : Work) : Type 0 where
  pub H : Here
  pub w : ModelWork
  pub done : Table
  pub p : Path
  pub ground : Ground g H done eps (length qs)
  pub at : At g m qs x done p w
  pub none_requeued : w.requeued ≡ []

-- what the definition gives
abbrev pub pushes_of : {g : Setting} {m : Lent} {qs eps : List ℕ} {x : Work} → PushGiven g m qs eps x → Outcome ModelWork
pushes_of G = push_from G.H 0 G.w.table G.w

abbrev pub PushesIs : (g : Setting) → (tokens qs qs' eps : List ℕ) → Work → Result Work Reason → Type 0
PushesIs g tk qs qs' eps x r =
    (sm : List Float) (rs : List ℕ) (rl : List ℤ) (gs : List Float) (G : PushGiven g (lent tk sm rs rl gs) qs eps x) → PassedBy g (lent tk sm rs rl gs) qs' G.done G.p (pushes_of G) r

-- ---- one state

abbrev push_by : Here → ℕ → ModelWork → Bool → Outcome ModelWork
push_by H s w b = elim b as (λ z. Outcome ModelWork) [ true ↦ push H s [] w | false ↦ ok w ]

push_steps : (H : Here) (s : ℕ) (t : Token) (rest : Table) (w : ModelWork) → push_from H s (some t ∷ rest) w ≡ (push_by H s w (has_eps H.graph s) >>= λ v. push_from H (suc s) rest v)
unfolding push_from
push_steps H s t rest w = go (has_eps H.graph s)
  where
    go : (b : Bool) → elim b as (λ z. Outcome ModelWork) [ true ↦ push H s [] w >>= λ v. push_from H (suc s) rest v | false ↦ push_from H (suc s) rest w ] ≡ (push_by H s w b >>= λ v. push_from H (suc s) rest v)
    go true = refl
    go false = refl

push_skips : (H : Here) (w : ModelWork) (s : ℕ) (rest : Table) → push_from H s (none ∷ rest) w ≡ push_from H (suc s) rest w
unfolding push_from
push_skips H w s rest = refl

-- after it no state is told as requeued
abbrev Clean : Outcome ModelWork → Type 0
Clean = Accepted (λ (v : ModelWork). v.requeued ≡ [])

push_clean : (H : Here) (s : ℕ) (w : ModelWork) → w.requeued ≡ [] → (b : Bool) → Clean (push_by H s w b)
unfolding push
push_clean H s w e true = branches (λ (v : ModelWork). v.requeued ≡ []) (over (suc (length w.queue)) H.limits.queue) _ _ (λ c. tt) (λ c. refl)
push_clean H s w e false = e

with_none : (w : ModelWork) → w.requeued ≡ [] → w ≡ record { table = w.table; seq = w.seq; fresh = w.fresh; cutoff = w.cutoff; queue = w.queue; requeued = [] }
with_none w e = λ i. record { table = w.table; seq = w.seq; fresh = w.fresh; cutoff = w.cutoff; queue = w.queue; requeued = e i }

-- ---- the loop

module _ {g : Setting} {m : Lent} {qs eps : List ℕ} {x : Work} (G : PushGiven g m qs eps x) where
  abbrev shown : Shown G.at.stood.rep.h x.used m.tokens m.sums g.side g.states G.w.table
  shown = G.at.stood.rep.progress

  abbrev By : List ℕ → Outcome ModelWork → Result Work Reason → Type 0
  By qs' = PassedBy g m qs' G.done G.p

  -- the states below s are done
  pub record SoFar (qs' : List ℕ) (x' : Work) (s : ℕ) : Type 0 where
    pub w' : ModelWork
    pub at : At g m qs' x' G.done G.p w'
    pub clean : w'.requeued ≡ []
    pub rest : pushes_of G ≡ push_from G.H s (drop s G.w.table) w'

  -- on to the next active state
  walk_on : {qs' : List ℕ} {x' : Work} {s r : ℕ} → NextActive m.tokens g.side s g.states r → SoFar qs' x' s → SoFar qs' x' r
  walk_on {qs'} {x'} {s} {r} n F =
      record { w' = F.w'; at = F.at; clean = F.clean; rest = F.rest ∙ skip_to shown (λ (i : ℕ) (ts : Table). push_from G.H i ts F.w') (push_skips G.H F.w') s r n }

  pub far_start : {r : ℕ} → NextActive m.tokens g.side 0 g.states r → SoFar qs x r
  far_start n = walk_on n (record { w' = G.w; at = G.at; clean = G.none_requeued; rest = refl })

  module _ {qs' : List ℕ} {x' : Work} {s : ℕ} (F : SoFar qs' x' s) where
    pub far_end : g.states ≤ s → s ≤ g.states → By qs' (pushes_of G) (Ok x')
    unfolding push_from
    far_end l k =
        let e : s ≡ length G.w.table = let z = shown.size in omega arith in
        subst (λ (o : Outcome ModelWork). By qs' o (Ok x')) (sym (F.rest ∙ ap (λ (ts : Table). push_from G.H s ts F.w') (ap (λ (i : ℕ). drop i G.w.table) e ∙ drop-length G.w.table))) (passed_on F.at)

    module _ (low : s < g.states) (held : held_at m.tokens (place_in g.side s) ≡ 0 → ⊥) (k : length qs' ≡ length qs) {qs'' : List ℕ} {r : Result Work Reason} (step : StatePushed eps qs' qs'' x' s r) where
      abbrev stepped : Outcome ModelWork
      stepped = push_by G.H s F.w' (has_eps G.H.graph s)

      goes : pushes_of G ≡ (stepped >>= λ v. push_from G.H (suc s) (drop (suc s) G.w.table) v)
      goes =
          let act = active_at shown s low held in
          F.rest ∙ ap (λ (ts : Table). push_from G.H s ts F.w') (drop-cons G.w.table s none (let z = shown.size in omega arith) ∙ ap (λ (o : Option Token). o ∷ drop (suc s) G.w.table) act.at)
          ∙ push_steps G.H s act.token (drop (suc s) G.w.table) F.w'

      told : {b : Bool} → ltb 0 (get_or eps s 0) ≡ b → stepped ≡ push_by G.H s F.w' b
      told e = ap (push_by G.H s F.w') (sym (G.ground.eps_is s low) ∙ e)

      step_by : (r : Result Work Reason) → StatePushed eps qs' qs'' x' s r → By qs'' stepped r
      step_by r (state_stays e q) =
          subst (λ (o : Outcome ModelWork). By qs'' o (Ok x')) (sym (told (le-ltb 0 (get_or eps s 0) (omega arith)))) (subst (λ (z : List ℕ). By z (ok F.w') (Ok x')) (sym q) (passed_on F.at))
      step_by r (state_pushed d P) =
          subst (λ (o : Outcome ModelWork). By qs'' o r) (sym (told (lt-ltb 0 (get_or eps s 0) (omega arith))))
          (pushed G.ground qs' qs'' k x' s low [] F.w' (subst (λ (v : ModelWork). At g m qs' x' G.done G.p v) (with_none F.w' F.clean) F.at) r P)

      next_by : (o : Outcome ModelWork) → Clean o → pushes_of G ≡ (o >>= λ v. push_from G.H (suc s) (drop (suc s) G.w.table) v) → (x'' : Work) → By qs'' o (Ok x'') → SoFar qs'' x'' (suc s)
      next_by o c q x'' (passed_on {w} A) = record { w' = w; at = A; clean = c; rest = q }

      stop_by : (o : Outcome ModelWork) → pushes_of G ≡ (o >>= λ v. push_from G.H (suc s) (drop (suc s) G.w.table) v) → (j : Reason) → By qs'' o (Err j) → By qs'' (pushes_of G) (Err j)
      stop_by o q j (passed_refused i z) = subst (λ (u : Outcome ModelWork). By qs'' u (Err j)) (sym q) (passed_refused j z)

      pub far_stop : (j : Reason) → r ≡ Err j → By qs'' (pushes_of G) (Err j)
      far_stop j e = stop_by stepped goes j (step_by (Err j) (subst (StatePushed eps qs' qs'' x' s) e step))

      pub far_next : (x'' : Work) → r ≡ Ok x'' → {b : ℕ} → NextActive m.tokens g.side (s + 1) g.states b → SoFar qs'' x'' b
      far_next x'' e {b} next =
          let one : s + 1 ≡ suc s = omega arith in
          walk_on (subst (λ (i : ℕ). NextActive m.tokens g.side i g.states b) one next)
          (next_by stepped (push_clean G.H s F.w' F.clean (has_eps G.H.graph s)) goes x'' (step_by (Ok x'') (subst (StatePushed eps qs' qs'' x' s) e step)))
