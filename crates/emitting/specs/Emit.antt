-- The emitting pass: what it is given, and what it leaves. Assumes nothing.
use Rattle.std.specs.Prelude.{◌≡◌, refl, ℕ, suc, ◌+◌, ◌-◌, ◌≤◌, ◌<◌, Bool, true, false, length, get_or, Float, Result, Ok, Err}
use Rattle.std.proofs.Common.{sym, ◌∙◌, arith, drop-cons}
use Rattle.std.proofs.Math.Path.{ap, subst}
use Rattle.std.proofs.Math.Option.{Option, none, some}
use mathlib.Core.List.{List, [], ◌∷◌}
use Rattle.std.proofs.Math.ListN.{drop, drop_of_length-le}
use Rattle.model.specs.Basics.{◌≺◌, Outcome, ok, ◌>>=◌}
use Rattle.model.specs.Graph.{arcs_of}
use Rattle.model.specs.Path.{Path, Token, Table}
use Rattle.model.specs.Arrive.{Pass as ModelPass, Here, Work as ModelWork, arrive_all}
use Rattle.model.specs.Passes.{emit_from}
use Rattle.tokens.specs.declared.Token.{Token as Stored}
use Rattle.tokens.specs.Layout.{place_in, held_at, cell_at, token_of, NextActive}
use Rattle.stores.specs.Shown.{TokenIs}
use Rattle.stores.specs.Tables.{Active, active_at, stored_is, skip_to}
use Rattle.stores.specs.Rep.{Lent}
use Rattle.arrivals.specs.declared.Setting.{Setting}
use Rattle.arcs.specs.declared.Pass.{Pass}
use Rattle.arcs.specs.declared.Work.{Work}
use Rattle.arcs.specs.Part.{pass_of}
use Rattle.arcs.specs.Passed.{Ground, At}
use Rattle.arcs.specs.Ended.{EndedBy, ended_refused, ended_on, ended, with_link, in_hand}
use Rattle.arcs.specs.State.{Tables, TablesOf, StateGiven, StateIs}
use Rattle.refusals.specs.declared.Reason.{Reason}

-- ---- one state

pub record EmitGiven (g : Setting) (m : Lent) (qs eps : List ℕ) (pass : Pass) (T : Tables) (x : Work) : Type 0 where
  pub H : Here
  pub w : ModelWork
  pub done : Table
  pub p : Path
  pub ground : Ground g H done eps (length qs)
  pub at : At g m qs x done p w
  pub of : TablesOf H.graph pass T

abbrev pub emit_by : Here → ModelPass → (s : ℕ) → Token → ModelWork → Bool → Outcome ModelWork
emit_by H P s t w b = elim b as (λ z. Outcome ModelWork) [ true ↦ ok w | false ↦ arrive_all H P t (arcs_of H.graph s) w ]

abbrev pub emit_one : {g : Setting} {m : Lent} {qs eps : List ℕ} {pass : Pass} {T : Tables} {x : Work} → EmitGiven g m qs eps pass T x → (cut : Float) → (s : ℕ) → Token → Outcome ModelWork
emit_one {pass = pass} {T = T} G cut s t = emit_by G.H (pass_of pass T.arcs.loglikes) s t G.w (cut ≺ t.cost)

-- the state is active in the finished table
abbrev pub ActiveAt : Setting → Lent → ℕ → Type 0
ActiveAt g m s = (s < g.states) × (held_at m.tokens (place_in (1 - g.side) s) ≡ 0 → ⊥)

abbrev pub EmitStateIs : (g : Setting) → (m m' : Lent) → (qs qs' eps : List ℕ) → Pass → Tables → (cut : Float) → Work → (s : ℕ) → Result Work Reason → Type 0
EmitStateIs g m m' qs qs' eps pass T cut x s r = (G : EmitGiven g m qs eps pass T x) (t : Token) → get_or G.done s none ≡ some t → EndedBy g m' qs' G.done (emit_one G cut s t) r

module _ {g : Setting} {m : Lent} {qs eps : List ℕ} {pass : Pass} {T : Tables} {x : Work} (G : EmitGiven g m qs eps pass T x) (s : ℕ) (act : ActiveAt g m s) (y : Stored) (y-is : y ≡ token_of (cell_at m.tokens m.sums (place_in (1 - g.side) s))) where
  abbrev here : Active G.at.stood.rep.finished s
  here = active_at G.at.stood.rep.finished s act.0 act.1

  abbrev t : Token
  t = here.token

  pub is : TokenIs G.at.stood.rep.h x.used y t
  is = subst (λ (z : Stored). TokenIs G.at.stood.rep.h x.used z t) (sym (y-is ∙ stored_is G.at.stood.rep.finished here)) here.is

  abbrev pub state_given : StateGiven g m qs eps pass T (with_link x y.link) y s
  state_given =
      record {
        H = G.H;
        t = t;
        w = G.w;
        done = G.done;
        ground = G.ground;
        at = in_hand y.link t.path G.at is.link;
        token = record { cost = is.cost; graph = is.graph; phone = is.phone };
        of = G.of;
        low = act.0;
      }

  module _ (cut : Float) (t' : Token) (t-is : get_or G.done s none ≡ some t') where
    same : t ≡ t'
    same = some_same (sym here.at ∙ t-is)
      where
        of_some : Option Token → Token
        of_some none = t
        of_some (some u) = u

        some_same : some t ≡ some t' → t ≡ t'
        some_same e = ap of_some e

    test : {b : Bool} → (cut ≺ y.cost) ≡ b → emit_one G cut s t' ≡ emit_by G.H (pass_of pass T.arcs.loglikes) s t G.w b
    test {b} e =
        ap (λ (u : Token). emit_by G.H (pass_of pass T.arcs.loglikes) s u G.w (cut ≺ u.cost)) (sym same) ∙
        ap (emit_by G.H (pass_of pass T.arcs.loglikes) s t G.w) (ap (λ (c : Float). cut ≺ c) (sym is.cost) ∙ e)

    pub state_skips : (cut ≺ y.cost) ≡ true → EndedBy g m qs G.done (emit_one G cut s t') (Ok x)
    state_skips e = subst (λ (o : Outcome ModelWork). EndedBy g m qs G.done o (Ok x)) (sym (test e)) (ended_on G.p G.at)

    pub state_emits : (m' : Lent) (qs' : List ℕ) (r : Result Work Reason) → (cut ≺ y.cost) ≡ false → StateIs g m m' qs qs' eps pass T (with_link x y.link) y s r → EndedBy g m' qs' G.done (emit_one G cut s t') r
    state_emits m' qs' r e S = subst (λ (o : Outcome ModelWork). EndedBy g m' qs' G.done o r) (sym (test e)) (ended (S state_given))

-- ---- all states

abbrev pub all_states : {g : Setting} {m : Lent} {qs eps : List ℕ} {pass : Pass} {T : Tables} {x : Work} → EmitGiven g m qs eps pass T x → (cut : Float) → Outcome ModelWork
all_states {pass = pass} {T = T} G cut = emit_from G.H (pass_of pass T.arcs.loglikes) cut 0 G.done G.w

abbrev pub EmitStatesIs : (g : Setting) → (m m' : Lent) → (qs qs' eps : List ℕ) → Pass → Tables → (cut : Float) → Work → Result Work Reason → Type 0
EmitStatesIs g m m' qs qs' eps pass T cut x r = (G : EmitGiven g m qs eps pass T x) → EndedBy g m' qs' G.done (all_states G cut) r

emit_step : (H : Here) (P : ModelPass) (cut : Float) (s : ℕ) (t : Token) (ts : Table) (w : ModelWork) → emit_from H P cut s (some t ∷ ts) w ≡ (emit_by H P s t w (cut ≺ t.cost) >>= λ v. emit_from H P cut (suc s) ts v)
unfolding emit_from
emit_step H P cut s t ts w = go (cut ≺ t.cost)
  where
    go : (b : Bool) → elim b as (λ z. Outcome ModelWork) [ true ↦ emit_from H P cut (suc s) ts w | false ↦ arrive_all H P t (arcs_of H.graph s) w >>= λ v. emit_from H P cut (suc s) ts v ] ≡ (emit_by H P s t w b >>= λ v. emit_from H P cut (suc s) ts v)
    go true = refl
    go false = refl

emit_skips : (H : Here) (P : ModelPass) (cut : Float) (w : ModelWork) (s : ℕ) (rest : Table) → emit_from H P cut s (none ∷ rest) w ≡ emit_from H P cut (suc s) rest w
unfolding emit_from
emit_skips H P cut w s rest = refl

module _ {g : Setting} {m : Lent} {qs eps : List ℕ} {pass : Pass} {T : Tables} {x : Work} (G : EmitGiven g m qs eps pass T x) (cut : Float) where
  abbrev onward : (s : ℕ) → ModelWork → Outcome ModelWork
  onward s w = emit_from G.H (pass_of pass T.arcs.loglikes) cut s (drop s G.done) w

  -- the states below s are done, and s, unless it is the number of states, is active
  pub record SoFar (m' : Lent) (qs' : List ℕ) (x' : Work) (s : ℕ) : Type 0 where
    pub p' : Path
    pub w' : ModelWork
    pub at : At g m' qs' x' G.done p' w'
    pub rest : all_states G cut ≡ onward s w'

  skips : {m' : Lent} {qs' : List ℕ} {x' : Work} {s : ℕ} → SoFar m' qs' x' s → (r : ℕ) → NextActive m'.tokens (1 - g.side) s g.states r → SoFar m' qs' x' r
  skips {s = s} F r N =
      record {
        p' = F.p';
        w' = F.w';
        at = F.at;
        rest = F.rest ∙ skip_to F.at.stood.rep.finished (λ i ts. emit_from G.H (pass_of pass T.arcs.loglikes) cut i ts F.w') (emit_skips G.H (pass_of pass T.arcs.loglikes) cut F.w') s r N;
      }

  module _ {m' : Lent} {qs' : List ℕ} {x' : Work} {s : ℕ} (F : SoFar m' qs' x' s) where
    abbrev pub emit_now : length qs' ≡ length qs → EmitGiven g m' qs' eps pass T x'
    emit_now k = record { H = G.H; w = F.w'; done = G.done; p = F.p'; ground = subst (Ground g G.H G.done eps) (sym k) G.ground; at = F.at; of = G.of }

    module _ (act : ActiveAt g m' s) (k : length qs' ≡ length qs) {m'' : Lent} {qs'' : List ℕ} (r : Result Work Reason) (step : EmitStateIs g m' m'' qs' qs'' eps pass T cut x' s r) where
      abbrev found : Active F.at.stood.rep.finished s
      found = active_at F.at.stood.rep.finished s act.0 act.1

      abbrev By : Outcome ModelWork → Result Work Reason → Type 0
      By = EndedBy g m'' qs'' G.done

      goes : all_states G cut ≡ (emit_one (emit_now k) cut s found.token >>= λ v. onward (suc s) v)
      goes =
          let size = F.at.stood.rep.finished.size in
          F.rest ∙
          ap (λ (ts : Table). emit_from G.H (pass_of pass T.arcs.loglikes) cut s ts F.w') (drop-cons G.done s none (let l = act.0 in omega arith) ∙ ap (λ (o : Option Token). o ∷ drop (suc s) G.done) found.at) ∙
          emit_step G.H (pass_of pass T.arcs.loglikes) cut s found.token (drop (suc s) G.done) F.w'

      next_by : (o : Outcome ModelWork) → all_states G cut ≡ (o >>= λ v. onward (suc s) v) → (x'' : Work) → By o (Ok x'') → SoFar m'' qs'' x'' (suc s)
      next_by o q x'' (ended_on {w} p A) = record { p' = p; w' = w; at = A; rest = q }

      stop_by : (o : Outcome ModelWork) → all_states G cut ≡ (o >>= λ v. onward (suc s) v) → (e : Reason) → By o (Err e) → By (all_states G cut) (Err e)
      stop_by o q e (ended_refused j z) = subst (λ (u : Outcome ModelWork). By u (Err e)) (sym q) (ended_refused e z)

      pub far_next : (x'' : Work) → r ≡ Ok x'' → (j : ℕ) → NextActive m''.tokens (1 - g.side) (s + 1) g.states j → SoFar m'' qs'' x'' j
      far_next x'' d j N =
          let one : s + 1 ≡ suc s = omega arith in
          skips (next_by _ goes x'' (subst (By _) d (step (emit_now k) found.token found.at))) j (subst (λ (i : ℕ). NextActive m''.tokens (1 - g.side) i g.states j) one N)

      pub far_stop : (e : Reason) → r ≡ Err e → By (all_states G cut) (Err e)
      far_stop e d = stop_by _ goes e (subst (By _) d (step (emit_now k) found.token found.at))

    pub far_end : g.states ≤ s → EndedBy g m' qs' G.done (all_states G cut) (Ok x')
    unfolding emit_from
    far_end l =
        let none_left : drop s G.done ≡ [] = drop_of_length-le G.done {i = s} (let z = F.at.stood.rep.finished.size in omega arith) in
        subst (λ (u : Outcome ModelWork). EndedBy g m' qs' G.done u (Ok x')) (sym (F.rest ∙ ap (λ (ts : Table). emit_from G.H (pass_of pass T.arcs.loglikes) cut s ts F.w') none_left)) (ended_on F.p' F.at)

  pub far_start : (s : ℕ) → NextActive m.tokens (1 - g.side) 0 g.states s → SoFar m qs x s
  far_start s N = skips (record { p' = G.p; w' = G.w; at = G.at; rest = refl }) s N
