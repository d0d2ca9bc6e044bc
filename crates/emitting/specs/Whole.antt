-- The pass, whole: the cutoffs, the first look, and all states. Assumes nothing.
use Rattle.std.specs.Prelude.{◌≡◌, refl, ℕ, ◌+◌, ◌-◌, ◌^◌, ◌≤◌, ◌<◌, Bool, true, false, List, leb, ltb, ℤ, length, get_or, replicate, Float, Result, Ok, Err}
use Rattle.std.proofs.Common.{sym, ap₂, ◌∙◌, subst, arith, le-leb}
use Rattle.std.proofs.Math.Path.{ap}
use Rattle.std.proofs.Math.Option.{Option, none, some}
use Rattle.std.proofs.lemmas.Bool.{lt-leb}
use Rattle.std.specs.Float.Ieee.{neg}
use Rattle.model.specs.Basics.{0f, ∞, Outcome, ok, ◌>>=◌}
use Rattle.model.specs.Graph.{Graph, states, arcs_of}
use Rattle.model.specs.Checked.{GoodGraph}
use Rattle.model.specs.Path.{empty_path, Token, Table}
use Rattle.model.specs.Cutoff.{best}
use Rattle.model.specs.Arrive.{emitting, Here, Work as ModelWork}
use Rattle.model.specs.Passes.{first_look, look, offset_of, emit_from, no_tokens, empty_work, emitting_pass}
use Rattle.cutoff.specs.declared.Config.{Config}
use Rattle.cutoff.specs.declared.Cutoff.{Cutoff}
use Rattle.cutoff.specs.Costs.{config_of, CostIs, vacant_is, token_itself, Costs, Fine, BestIs, CutoffIs}
use Rattle.tokens.specs.Layout.{Cell, cell_at, held_at, cost_at, Cleared}
use Rattle.records.specs.History.{History, tag}
use Rattle.records.specs.Stands.{Stands}
use Rattle.copy_laws.proofs.Tables.{vacant_none}
use Rattle.stores.specs.Shown.{Shows, shows_none, shows_token, Shown, is_none}
use Rattle.stores.specs.Tables.{shown_cleared, shown_uncleared}
use Rattle.stores.specs.Rep.{Lent, lent, store_of, Places}
use Rattle.arrivals.specs.declared.Setting.{Setting}
use Rattle.arrivals.specs.Stood.{Stood}
use Rattle.arcs.specs.declared.Pass.{Pass}
use Rattle.arcs.specs.declared.Pass.TheVariants.{Emitting}
use Rattle.arcs.specs.declared.Work.{Work}
use Rattle.arcs.specs.Part.{pass_of, heard_at}
use Rattle.arcs.specs.Passed.{Ground, going_of}
use Rattle.arcs.specs.State.{Tables, tables, TablesOf, slice, part_of, rises, inside, two_offsets, arcs_are, part_of_lem}
use Rattle.emitting.specs.Look.{outcome_of, LookAsks, look_from, looks, Only12, only_12}
use Rattle.arcs.specs.Ended.{EndedBy, ended_refused}
use Rattle.emitting.specs.Emit.{EmitGiven, EmitStatesIs}
use Rattle.refusals.specs.declared.Reason.{Reason}

-- ---- the look at the best state

-- the cutoff is of some table, and the tables are of an accepted graph; what the look does not read is given beside
pub record LookGiven (os : List ℕ) (il : List ℤ) (ws : List Float) (tp : List ℤ) (ls : List Float) (n : ℕ) (c : Cutoff) : Type 0 where
  pub g : Graph
  pub ts : Table
  pub ol : List ℤ
  pub ns : List ℕ
  pub tf : List ℤ
  pub good : GoodGraph g
  pub states_are : n ≡ states g
  pub of : TablesOf g (Emitting 0f 0f) (tables os il ol ws ns tp tf ls)
  pub best_is : BestIs n (best ts) c.best c.least

abbrev pub LooksIs : (os : List ℕ) (il : List ℤ) (ws : List Float) (tp : List ℤ) (ls : List Float) (n : ℕ) → Cutoff → Result Float Reason → Type 0
LooksIs os il ws tp ls n c r = (G : LookGiven os il ws tp ls n c) → outcome_of r ≡ look G.g ls c.adaptive (best G.ts)

-- one with no best state, and one with one
best_none : (n : ℕ) (o : Option (ℕ × Token)) (s : ℕ) (x : Float) → BestIs n o s x → n ≤ s → o ≡ none
best_none n none s x b l = refl
best_none n (some b) s x i l = absurd (let z = i.0 in omega arith)

best_some : (g : Graph) (ls : List Float) (ad : Float) (n : ℕ) (o : Option (ℕ × Token)) (s : ℕ) (x : Float) → BestIs n o s x → s < n → look g ls ad o ≡ first_look g ls (neg x) ad x (arcs_of g s) ∞
best_some g ls ad n none s x b l = absurd (let z = b.0 in omega arith)
best_some g ls ad n (some b) s x i l = sym (ap₂ (λ (k : ℕ) (c : Float). first_look g ls (neg c) ad c (arcs_of g k) ∞) i.1 i.2)

module _ {os : List ℕ} {il : List ℤ} {ws : List Float} {tp : List ℤ} {ls : List Float} {n : ℕ} {c : Cutoff} (G : LookGiven os il ws tp ls n c) where
  pub looks_none : n ≤ c.best → ok ∞ ≡ look G.g ls c.adaptive (best G.ts)
  looks_none l = sym (ap (look G.g ls c.adaptive) (best_none n (best G.ts) c.best c.least G.best_is l))

  module _ (l : c.best < n) where
    abbrev T : Tables
    T = tables os il G.ol ws G.ns tp G.tf ls

    low : c.best < states G.g
    low = let e = G.states_are in omega arith

    pub offset_room : c.best + 1 < length os
    offset_room = two_offsets G.g (Emitting 0f 0f) T G.good G.of c.best low

    abbrev first : ℕ
    first = get_or os c.best 0

    abbrev last : ℕ
    last = get_or os (c.best + 1) 0

    room : (first ≤ last) × (last ≤ length il) × (last ≤ length ws) × (last ≤ 1_048_576)
    room =
        let i = inside G.g (Emitting 0f 0f) T G.good G.of c.best low in
        let few : last ≤ 1_048_576 = let z = G.good.shape.arcs_few in let k = ap length G.of.ilabels in let j = i.0 in omega arith in
        (rises G.g (Emitting 0f 0f) T G.good G.of c.best low, i.0, i.2, few)

    asks_there : LookAsks (slice first last il) (slice first last ws) tp ls
    asks_there =
        let of = part_of_lem G.g (Emitting 0f 0f) T G.good G.of c.best low in
        record { weights = of.weights; heard = λ i h e. heard_at (Emitting 0f 0f) (part_of T first last) i (record { graph = G.g; s = c.best; of = of; here = h; taken = e }) }

    looks_there : look_from (slice first last il) (slice first last ws) tp ls (neg c.least) c.adaptive c.least (length (slice first last il)) 0 ∞ ≡ look G.g ls c.adaptive (best G.ts)
    looks_there =
        let p = part_of T first last in
        let whole : length p.ilabels - 0 ≡ length p.ilabels = omega arith in
        sym
        (best_some G.g ls c.adaptive n (best G.ts) c.best c.least G.best_is l ∙
        ap (λ xs. first_look G.g ls (neg c.least) c.adaptive c.least xs ∞) (arcs_are G.g (Emitting 0f 0f) T G.good G.of c.best low) ∙
        looks G.g p c.best (neg c.least) c.adaptive c.least G.of.pdfs (length p.ilabels - 0) 0 ∞ ∙
        ap (λ (k : ℕ). look_from p.ilabels p.weights tp ls (neg c.least) c.adaptive c.least k 0 ∞) whole)

    module _ (a e : ℕ) (a-is : a ≡ first) (e-is : e ≡ last) where
      pub bounds : (a ≤ e) × (e ≤ length il) × (e ≤ length ws) × (e ≤ 1_048_576)
      bounds = rw (a-is, e-is) room

      pub look_asks : LookAsks (slice a e il) (slice a e ws) tp ls
      look_asks = rw (a-is, e-is) asks_there

      pub looked : (r : Result Float Reason) → outcome_of r ≡ look_from (slice a e il) (slice a e ws) tp ls (neg c.least) c.adaptive c.least (length (slice a e il)) 0 ∞ → outcome_of r ≡ look G.g ls c.adaptive (best G.ts)
      looked r q = (rw (a-is, e-is) at q) ∙ looks_there

-- ---- the pass

-- The finished table, of costs that can be compared, with a number that the model has not given out and a seq for every state.
pub record PassGiven (g : Setting) (m : Lent) (qs eps : List ℕ) (T : Tables) (used seq : ℕ) : Type 0 where
  pub H : Here
  pub done : Table
  pub fresh : ℕ
  pub h : ℕ → History
  pub ground : Ground g H done eps (length qs)
  pub of : TablesOf H.graph (Emitting 0f 0f) T
  pub places : Places g.states g.cap m
  pub fits : used ≤ g.cap
  pub stands : Stands (store_of m) used h
  pub finished : Shown h used m.tokens m.sums (1 - g.side) g.states done
  pub newest : tag (h used) ≤ fresh
  pub seqs : seq + g.states < 2 ^ 32
  pub fine : Fine done

abbrev pub EmittingIs : (g : Setting) → (m m' : Lent) → (qs qs' eps : List ℕ) → Tables → Config → (used seq : ℕ) → Result Work Reason → Type 0
EmittingIs g m m' qs qs' eps T c used seq r = (G : PassGiven g m qs eps T used seq) → EndedBy g m' qs' G.done (emitting_pass G.H (config_of c) T.arcs.loglikes G.done seq G.fresh) r

abbrev pub offset_in : ℕ → Cutoff → Float
offset_in n c = elim (leb n c.best) as (λ z. Float) [ true ↦ 0f | false ↦ neg c.least ]

abbrev pub work_at : (used seq : ℕ) → (next : Float) → Work
work_at used seq next = record { used = used; seq = seq; link = 0; cutoff = next; queued = 0 }

module _ {g : Setting} {m : Lent} {qs eps : List ℕ} {T : Tables} {used seq : ℕ} (G : PassGiven g m qs eps T used seq) where
  -- costs, as the cutoff reads them
  pub costs : Costs m.tokens m.sums (1 - g.side) g.states G.done
  unfolding cell_at
  costs = record { size = G.finished.size; place = λ s l. of_place _ (get_or G.done s none) (G.finished.place s l) }
    where
      of_place : (q : ℕ) (o : Option Token) → Shows G.h used (cell_at m.tokens m.sums q) o → CostIs (held_at m.tokens q) (cost_at m.sums q) o
      of_place q none (shows_none e) = vacant_is e
      of_place q (some t) (shows_token y e i) =
          token_itself (λ z. absurd (let k = ap (λ (c : Cell). c.held) e in omega arith)) (sym (ap (λ (c : Cell). c.cost) e ∙ i.cost))

  module _ (c : Config) (cut : Cutoff) (cut_is : CutoffIs (config_of c) g.states G.done cut) where
    abbrev pub look_given : LookGiven T.offsets T.arcs.ilabels T.arcs.weights T.arcs.tid2pdf T.arcs.loglikes g.states cut
    look_given =
        record {
          g = G.H.graph;
          ts = G.done;
          ol = T.arcs.olabels;
          ns = T.arcs.nextstates;
          tf = T.arcs.tid2phone;
          good = G.ground.good;
          states_are = G.ground.states;
          of = G.of;
          best_is = cut_is.best;
        }

    offset_is : offset_in g.states cut ≡ offset_of (best G.done)
    offset_is = go (best G.done) cut_is.best
      where
        go : (o : Option (ℕ × Token)) → BestIs g.states o cut.best cut.least → offset_in g.states cut ≡ offset_of o
        go none b = ap (λ (z : Bool). elim z as (λ z. Float) [ true ↦ 0f | false ↦ neg cut.least ]) (le-leb g.states cut.best (let e = b.0 in omega arith))
        go (some b) i = ap (λ (z : Bool). elim z as (λ z. Float) [ true ↦ 0f | false ↦ neg cut.least ]) (lt-leb g.states cut.best i.0) ∙ ap neg i.2

    look_12 : (o : Option (ℕ × Token)) → Only12 (look G.H.graph T.arcs.loglikes cut.adaptive o)
    look_12 none = tt
    look_12 (some b) = only_12 G.H.graph T.arcs.loglikes (neg b.1.cost) cut.adaptive b.1.cost (arcs_of G.H.graph b.0) ∞

    module _ (off : Float) (off-is : off ≡ offset_in g.states cut) where
      abbrev P : Pass
      P = Emitting off cut.adaptive

      -- what is left after the look
      abbrev onward : (next : Float) → Outcome ModelWork
      onward next = emit_from G.H (pass_of P T.arcs.loglikes) cut.cutoff 0 G.done (empty_work G.H.graph seq G.fresh next)

      pass_is : emitting_pass G.H (config_of c) T.arcs.loglikes G.done seq G.fresh ≡ (look G.H.graph T.arcs.loglikes cut.adaptive (best G.done) >>= onward)
      unfolding emitting_pass
      pass_is =
          λ k. look G.H.graph T.arcs.loglikes (sym cut_is.adaptive k) (best G.done) >>=
          λ next. emit_from G.H (emitting T.arcs.loglikes (sym (off-is ∙ offset_is) k) (sym cut_is.adaptive k)) (sym cut_is.cutoff k) 0 G.done (empty_work G.H.graph seq G.fresh next)

      module _ (tk : List ℕ) (clear : Cleared m.tokens tk g.side g.states) (long : length tk ≡ length m.tokens) where
        abbrev m₁ : Lent
        m₁ = lent tk m.sums m.records m.labels m.gaps

        kept : Shown G.h used tk m.sums (1 - g.side) g.states G.done
        kept = shown_uncleared clear G.ground.pass.side G.finished

        pub look_refused : (n : Reason) (r : Result Float Reason) → outcome_of r ≡ look G.H.graph T.arcs.loglikes cut.adaptive (best G.done) → r ≡ Err n → EndedBy g m₁ qs G.done (emitting_pass G.H (config_of c) T.arcs.loglikes G.done seq G.fresh) (Err n)
        look_refused n r q e =
            subst (λ (o : Outcome ModelWork). EndedBy g m₁ qs G.done o (Err n)) (sym (pass_is ∙ ap (λ (o : Outcome Float). o >>= onward) (sym q ∙ ap outcome_of e)))
            (ended_refused n (record { h = G.h; used = used; fits = G.fits; stands = G.stands; finished = kept }))

        empty : no_tokens G.H.graph ≡ replicate g.states none
        empty = ap (λ (n : ℕ). replicate n none) (sym G.ground.states)

        pub stood_now : (next : Float) → Stood g m₁ (going_of (work_at used seq next)) G.done empty_path (empty_work G.H.graph seq G.fresh next)
        stood_now next =
            record {
              places = record { tokens = let z = G.places.tokens in omega arith; sums = G.places.sums; store = G.places.store };
              fits = G.fits;
              rep = record {
                h = G.h;
                stands = G.stands;
                finished = kept;
                progress = subst (Shown G.h used tk m.sums g.side g.states) (sym empty) (shown_cleared clear);
                hand = is_none G.h used G.stands.none;
                newest = G.newest;
              };
              seq = refl;
              seqs = let z = vacant_none (states G.H.graph) in let e = G.ground.states in let f = G.seqs in omega arith;
              requeued = λ s l. sym (ap (ltb 0) (clear.fresh s l));
            }

        -- the table in progress is empty, and nothing is in hand
        abbrev pub states_given : (next : Float) → EmitGiven g m₁ qs eps P T (work_at used seq next)
        states_given next =
            record {
              H = G.H;
              w = empty_work G.H.graph seq G.fresh next;
              done = G.done;
              p = empty_path;
              ground = G.ground;
              at = record { stood = stood_now next; cutoff = refl; fits = omega arith; queue = refl };
              of = record {
                offsets = G.of.offsets;
                ilabels = G.of.ilabels;
                olabels = G.of.olabels;
                weights = G.of.weights;
                nextstates = G.of.nextstates;
                pdfs = G.of.pdfs;
                phones = G.of.phones;
                heard = G.of.heard;
              };
            }

        pub states_done : (next : Float) (m' : Lent) (qs' : List ℕ) (r : Result Float Reason) (r' : Result Work Reason) → outcome_of r ≡ look G.H.graph T.arcs.loglikes cut.adaptive (best G.done) → r ≡ Ok next
            → EmitStatesIs g m₁ m' qs qs' eps P T cut.cutoff (work_at used seq next) r' → EndedBy g m' qs' G.done (emitting_pass G.H (config_of c) T.arcs.loglikes G.done seq G.fresh) r'
        states_done next m' qs' r r' q e S =
            subst (λ (o : Outcome ModelWork). EndedBy g m' qs' G.done o r') (sym (pass_is ∙ ap (λ (o : Outcome Float). o >>= onward) (sym q ∙ ap outcome_of e))) (S (states_given next))
