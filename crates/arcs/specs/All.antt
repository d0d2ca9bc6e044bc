-- Every arc of a token that a pass takes: how far the loop has got. Assumes nothing.
use Rattle.std.specs.Prelude.{◌≡◌, refl, ℕ, suc, ◌+◌, ◌-◌, ◌≤◌, ◌<◌, Bool, true, false, List, ◌∷◌, map, pos, get_or, Result, Ok, Err}
use Rattle.std.proofs.Common.{sym, ◌∙◌}
use Rattle.std.proofs.Math.Path.{ap, subst}
use native.Mathlib.Omega.{arith}
use Rattle.std.proofs.Math.ListN.{length}
use Rattle.lists.specs.Lists.{range}
use Rattle.model.specs.Basics.{Outcome, ok, ◌>>=◌}
use Rattle.model.specs.Graph.{Arc}
use Rattle.model.specs.Path.{Token, Table}
use Rattle.model.specs.Arrive.{Pass as ModelPass, Here, Work as ModelWork, takes, arrive, arrive_all}
use Rattle.tokens.specs.declared.Token.{Token as Stored}
use Rattle.stores.specs.Rep.{Lent}
use Rattle.arrivals.specs.declared.Arrival.{Arrival}
use Rattle.arrivals.specs.declared.Setting.{Setting}
use Rattle.arcs.specs.declared.Pass.{Pass}
use Rattle.arcs.specs.declared.Work.{Work}
use Rattle.arcs.specs.Part.{pass_of, takes_label, Part, PartOf, Taken, arc_in, arcs_from, takes_is, arrival_in, arrival_is, SourceIs}
use Rattle.arcs.specs.Passed.{Ground, At, PassedBy, passed_refused, passed_on}
use Rattle.arcs.specs.Whole.{WholeGiven, WholeIs}
use Rattle.refusals.specs.declared.Reason.{Reason}

pub record AllGiven (g : Setting) (m : Lent) (qs eps : List ℕ) (pass : Pass) (p : Part) (x : Work) (source : Stored) : Type 0 where
  pub H : Here
  pub t : Token
  pub s : ℕ
  pub w : ModelWork
  pub done : Table
  pub ground : Ground g H done eps (length qs)
  pub at : At g m qs x done t.path w
  pub token : SourceIs source t
  pub of : PartOf H.graph pass p s

-- what the definition gives
abbrev pub all_of : {g : Setting} {m : Lent} {qs eps : List ℕ} {pass : Pass} {p : Part} {x : Work} {source : Stored} → AllGiven g m qs eps pass p x source → Outcome ModelWork
all_of {pass = pass} {p = p} G = arrive_all G.H (pass_of pass p.loglikes) G.t (arcs_from p G.s 0) G.w

abbrev pub AllIs : (g : Setting) → (m m' : Lent) → (qs qs' eps : List ℕ) → Pass → Part → Work → Stored → Result Work Reason → Type 0
AllIs g m m' qs qs' eps pass p x source r = (G : AllGiven g m qs eps pass p x source) → PassedBy g m' qs' G.done G.t.path (all_of G) r

-- ---- one arc more

arcs_next : (p : Part) (s i : ℕ) → i < length p.ilabels → arcs_from p s i ≡ arc_in p s i ∷ arcs_from p s (i + 1)
arcs_next p s i l =
    let a : length p.ilabels - i ≡ suc (length p.ilabels - (i + 1)) = omega arith in
    let b : suc i ≡ i + 1 = omega arith in
    ap (λ (n : ℕ). map (arc_in p s) (range i n)) a ∙ ap (λ (j : ℕ). arc_in p s i ∷ map (arc_in p s) (range j (length p.ilabels - (i + 1)))) b

-- ---- one arc

-- what the definition does with arc i
abbrev pub step_arc_by : Here → ModelPass → Token → Arc → ModelWork → Bool → Outcome ModelWork
step_arc_by H P t a w b = elim b as (λ z. Outcome ModelWork) [ true ↦ arrive H P t a w | false ↦ ok w ]

abbrev pub step_of : {g : Setting} {m : Lent} {qs eps : List ℕ} {pass : Pass} {p : Part} {x : Work} {source : Stored} → AllGiven g m qs eps pass p x source → (i : ℕ) → Outcome ModelWork
step_of {pass = pass} {p = p} G i = let a = arc_in p G.s i in let P = pass_of pass p.loglikes in step_arc_by G.H P G.t a G.w (takes P a)

abbrev pub StepIs : (g : Setting) → (m m' : Lent) → (qs qs' eps : List ℕ) → Pass → Part → Work → Stored → (i : ℕ) → Result Work Reason → Type 0
StepIs g m m' qs qs' eps pass p x source i r = (G : AllGiven g m qs eps pass p x source) → PassedBy g m' qs' G.done G.t.path (step_of G i) r

module _ {g : Setting} {m : Lent} {qs eps : List ℕ} {pass : Pass} {p : Part} {x : Work} {source : Stored} (G : AllGiven g m qs eps pass p x source) (i : ℕ) (l : i < length p.ilabels) where
  abbrev PassAt : Lent → List ℕ → Outcome ModelWork → Result Work Reason → Type 0
  PassAt m' qs' = PassedBy g m' qs' G.done G.t.path

  test_is : {b : Bool} → takes_label pass (get_or p.ilabels i (pos 0)) ≡ b → step_of G i ≡ step_arc_by G.H (pass_of pass p.loglikes) G.t (arc_in p G.s i) G.w b
  test_is e = ap (step_arc_by G.H (pass_of pass p.loglikes) G.t (arc_in p G.s i) G.w) (takes_is pass p G.s i ∙ e)

  pub step_skips : takes_label pass (get_or p.ilabels i (pos 0)) ≡ false → PassAt m qs (step_of G i) (Ok x)
  step_skips e = subst (λ (o : Outcome ModelWork). PassAt m qs o (Ok x)) (sym (test_is e)) (passed_on G.at)

  module _ (e : takes_label pass (get_or p.ilabels i (pos 0)) ≡ true) where
    abbrev pub taken_now : Taken pass p i
    taken_now = record { graph = G.H.graph; s = G.s; of = G.of; here = l; taken = e }

    target_low : (arrival_in pass p source i).target < g.states
    unfolding arc_in
    target_low = let z = (G.of.good i l).target in let k = G.ground.states in omega arith

    abbrev given_now : WholeGiven g m qs eps pass x source (arrival_in pass p source i)
    given_now =
        record {
          H = G.H;
          loglikes = p.loglikes;
          t = G.t;
          arc = arc_in p G.s i;
          w = G.w;
          done = G.done;
          ground = G.ground;
          at = G.at;
          arrival = arrival_is pass p i taken_now G.H source G.t refl G.token;
          token = G.token;
          target = target_low;
        }

    module _ (a : Arrival) (is : a ≡ arrival_in pass p source i) where
      pub whole_given : WholeGiven g m qs eps pass x source a
      whole_given = subst (WholeGiven g m qs eps pass x source) (sym is) given_now

      pub step_whole : (m' : Lent) (qs' : List ℕ) (r : Result Work Reason) → WholeIs g m m' qs qs' eps pass x source a r → PassAt m' qs' (step_of G i) r
      step_whole m' qs' r W = subst (λ (o : Outcome ModelWork). PassAt m' qs' o r) (sym (test_is e)) (subst (λ (b : Arrival). WholeIs g m m' qs qs' eps pass x source b r) is W given_now)

-- ---- the loop

all_steps : (H : Here) (P : ModelPass) (t : Token) (a : Arc) (rest : List Arc) (w : ModelWork) → arrive_all H P t (a ∷ rest) w ≡ (step_arc_by H P t a w (takes P a) >>= λ v. arrive_all H P t rest v)
unfolding arrive_all
all_steps H P t a rest w = go (takes P a)
  where
    go : (b : Bool) → elim b as (λ z. Outcome ModelWork) [ true ↦ arrive H P t a w >>= λ v. arrive_all H P t rest v | false ↦ arrive_all H P t rest w ] ≡ (step_arc_by H P t a w b >>= λ v. arrive_all H P t rest v)
    go true = refl
    go false = refl

module _ {g : Setting} {m : Lent} {qs eps : List ℕ} {pass : Pass} {p : Part} {x : Work} {source : Stored} (G : AllGiven g m qs eps pass p x source) where
  abbrev after : (i : ℕ) → ModelWork → Outcome ModelWork
  after i w = arrive_all G.H (pass_of pass p.loglikes) G.t (arcs_from p G.s i) w

  -- the arcs below i are done
  pub record SoFar (m' : Lent) (qs' : List ℕ) (x' : Work) (i : ℕ) : Type 0 where
    pub w' : ModelWork
    pub at : At g m' qs' x' G.done G.t.path w'
    pub rest : all_of G ≡ after i w'

  pub far_start : SoFar m qs x 0
  far_start = record { w' = G.w; at = G.at; rest = refl }

  module _ {m' : Lent} {qs' : List ℕ} {x' : Work} {i : ℕ} (F : SoFar m' qs' x' i) where
    abbrev pub all_now : length qs' ≡ length qs → AllGiven g m' qs' eps pass p x' source
    all_now k = record { H = G.H; t = G.t; s = G.s; w = F.w'; done = G.done; ground = subst (Ground g G.H G.done eps) (sym k) G.ground; at = F.at; token = G.token; of = G.of }

    module _ (l : i < length p.ilabels) (k : length qs' ≡ length qs) {m'' : Lent} {qs'' : List ℕ} (r : Result Work Reason) (step : StepIs g m' m'' qs' qs'' eps pass p x' source i r) where
      abbrev By : Outcome ModelWork → Result Work Reason → Type 0
      By = PassedBy g m'' qs'' G.done G.t.path

      goes : all_of G ≡ (step_of (all_now k) i >>= after (i + 1))
      goes = F.rest ∙ ap (λ (rest : List Arc). arrive_all G.H (pass_of pass p.loglikes) G.t rest F.w') (arcs_next p G.s i l) ∙ all_steps G.H (pass_of pass p.loglikes) G.t (arc_in p G.s i) (arcs_from p G.s (i + 1)) F.w'

      next_by : (o : Outcome ModelWork) → all_of G ≡ (o >>= after (i + 1)) → (x'' : Work) → By o (Ok x'') → SoFar m'' qs'' x'' (i + 1)
      next_by o q x'' (passed_on {w} A) = record { w' = w; at = A; rest = q }

      stop_by : (o : Outcome ModelWork) → all_of G ≡ (o >>= after (i + 1)) → (e : Reason) → By o (Err e) → By (all_of G) (Err e)
      stop_by o q e (passed_refused j z) = subst (λ (u : Outcome ModelWork). By u (Err e)) (sym q) (passed_refused e z)

      pub far_next : (x'' : Work) → r ≡ Ok x'' → SoFar m'' qs'' x'' (i + 1)
      far_next x'' d = next_by _ goes x'' (subst (By _) d (step (all_now k)))

      pub far_stop : (e : Reason) → r ≡ Err e → By (all_of G) (Err e)
      far_stop e d = stop_by _ goes e (subst (By _) d (step (all_now k)))

    pub far_end : length p.ilabels ≤ i → PassedBy g m' qs' G.done G.t.path (all_of G) (Ok x')
    unfolding arrive_all
    far_end l =
        let none : length p.ilabels - i ≡ 0 = omega arith in
        subst (λ (u : Outcome ModelWork). PassedBy g m' qs' G.done G.t.path u (Ok x')) (sym (F.rest ∙ ap (λ (n : ℕ). arrive_all G.H (pass_of pass p.loglikes) G.t (map (arc_in p G.s) (range i n)) F.w') none)) (passed_on F.at)
