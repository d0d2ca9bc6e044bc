-- One popped state: its token's arcs, unless the token is at or above the cutoff. Assumes nothing.
use Rattle.std.specs.Prelude.{◌≡◌, ℕ, ◌+◌, ◌*◌, ◌≤◌, ◌<◌, Bool, true, false, List, [], ltb, ℤ, length, get_or, Float, Result, Ok}
use Rattle.std.proofs.Math.Path.{sym, ap, subst}
use Rattle.std.proofs.Common.{◌∙◌, arith}
use Rattle.std.proofs.Math.Option.{Option, none}
use Rattle.model.specs.Basics.{◌≼◌, Outcome, ok}
use Rattle.model.specs.Graph.{Graph, arcs_of}
use Rattle.model.specs.Path.{Path, Token, Table}
use Rattle.model.specs.Arrive.{nonemitting, Here, Work as ModelWork, arrive_all}
use Rattle.model.specs.Passes.{expand}
use Rattle.tokens.specs.declared.Token.{Token as Stored}
use Rattle.tokens.specs.Layout.{cell_at, held_at, place_in, token_of}
use Rattle.tokens.specs.Held.{some_held, none_held}
use Rattle.stores.specs.Shown.{Is, Shown}
use Rattle.stores.specs.Tables.{Active, active_at, stored_is, vacant_at}
use Rattle.stores.specs.Rep.{Lent}
use Rattle.arrivals.specs.declared.Setting.{Setting}
use Rattle.arcs.specs.declared.Pass.TheVariants.{Nonemitting}
use Rattle.arcs.specs.declared.Work.{Work}
use Rattle.arcs.specs.Part.{SourceIs}
use Rattle.arcs.specs.Passed.{Ground, At}
use Rattle.arcs.specs.State.{Tables, tables, TablesOf, StateGiven, StateIs}
use Rattle.arcs.specs.Ended.{EndedBy, ended_on, ended, with_link, in_hand}
use Rattle.refusals.specs.declared.Reason.{Reason}

-- the graph's tables, with no frame
abbrev pub graph_tables : (offsets : List ℕ) (ilabels olabels : List ℤ) (weights : List Float) (nextstates : List ℕ) (tid2pdf tid2phone : List ℤ) → Tables
graph_tables os il ol ws ns tp tf = tables os il ol ws ns tp tf []

pub record ExpandGiven (g : Setting) (m : Lent) (qs eps : List ℕ) (T : Tables) (x : Work) (s : ℕ) : Type 0 where
  pub H : Here
  pub w : ModelWork
  pub done : Table
  pub p : Path
  pub ground : Ground g H done eps (length qs)
  pub at : At g m qs x done p w
  pub of : TablesOf H.graph Nonemitting T
  pub low : s < g.states

-- what the definition gives
abbrev pub expand_of : {g : Setting} {m : Lent} {qs eps : List ℕ} {T : Tables} {x : Work} {s : ℕ} → ExpandGiven g m qs eps T x s → Outcome ModelWork
expand_of {s = s} G = expand G.H s (get_or G.w.table s none) G.w

abbrev pub ExpandIs : (g : Setting) → (m m' : Lent) → (qs qs' eps : List ℕ) → Tables → Work → (s : ℕ) → Result Work Reason → Type 0
ExpandIs g m m' qs qs' eps T x s r = (G : ExpandGiven g m qs eps T x s) → EndedBy g m' qs' G.done (expand_of G) r

-- ---- the pass reads no frame

abbrev pub with_frame : Tables → List Float → Tables
with_frame T ls = let p = T.arcs in tables T.offsets p.ilabels p.olabels p.weights p.nextstates p.tid2pdf p.tid2phone ls

any_frame : {g : Graph} {T : Tables} (ls : List Float) → TablesOf g Nonemitting T → TablesOf g Nonemitting (with_frame T ls)
any_frame ls of = record { offsets = of.offsets; ilabels = of.ilabels; olabels = of.olabels; weights = of.weights; nextstates = of.nextstates; pdfs = of.pdfs; phones = of.phones; heard = tt }

-- ---- what becomes of the state

abbrev expand_arc_by : Here → ℕ → Token → ModelWork → Bool → Outcome ModelWork
expand_arc_by H s t w b = elim b as (λ z. Outcome ModelWork) [ true ↦ ok w | false ↦ arrive_all H nonemitting t (arcs_of H.graph s) w ]

module _ {g : Setting} {m : Lent} {qs eps : List ℕ} {T : Tables} {x : Work} {s : ℕ} (G : ExpandGiven g m qs eps T x s) where
  abbrev shown : Shown G.at.stood.rep.h x.used m.tokens m.sums g.side g.states G.w.table
  shown = G.at.stood.rep.progress

  abbrev By : Lent → List ℕ → Outcome ModelWork → Result Work Reason → Type 0
  By m' qs' = EndedBy g m' qs' G.done

  pub token_asks : (g.side ≤ 1) × (s * 8 + 8 ≤ length m.tokens) × (s * 4 + 4 ≤ length m.sums)
  token_asks = let l = G.low in (G.ground.pass.side, let z = G.at.stood.places.tokens in omega arith, let z = G.at.stood.places.sums in omega arith)

  -- it has no token
  pub expand_vacant : ltb 0 (held_at m.tokens (place_in g.side s)) ≡ false → By m qs (expand_of G) (Ok x)
  unfolding expand
  expand_vacant e =
      subst (λ (o : Option Token). By m qs (expand G.H s o G.w) (Ok x)) (sym (vacant_at shown s G.low (none_held _ e))) (ended_on G.p G.at)

  module _ (e : ltb 0 (held_at m.tokens (place_in g.side s)) ≡ true) (source : Stored) (is : source ≡ token_of (cell_at m.tokens m.sums (place_in g.side s))) where
    abbrev act : Active shown s
    act = active_at shown s G.low (some_held _ e)

    source_is : SourceIs source act.token
    source_is = subst (λ (z : Stored). SourceIs z act.token) (sym (is ∙ stored_is shown act)) (record { cost = act.is.cost; graph = act.is.graph; phone = act.is.phone })

    goes : {b : Bool} → (x.cutoff ≼ source.cost) ≡ b → expand_of G ≡ expand_arc_by G.H s act.token G.w b
    unfolding expand
    goes {b} c =
        ap (λ (o : Option Token). expand G.H s o G.w) act.at ∙
        ap (expand_arc_by G.H s act.token G.w) ((λ i. G.at.cutoff i ≼ sym source_is.cost i) ∙ c)

    -- its token is at or above the cutoff
    pub expand_cut : (x.cutoff ≼ source.cost) ≡ true → By m qs (expand_of G) (Ok x)
    expand_cut c = subst (λ (o : Outcome ModelWork). By m qs o (Ok x)) (sym (goes c)) (ended_on G.p G.at)

    -- its token's path is in hand
    pub state_given : (ls : List Float) → StateGiven g m qs eps Nonemitting (with_frame T ls) (with_link x source.link) source s
    state_given ls =
        record {
          H = G.H;
          t = act.token;
          w = G.w;
          done = G.done;
          ground = G.ground;
          at = in_hand source.link act.token.path G.at (subst (λ (z : Stored). Is G.at.stood.rep.h x.used z.link act.token.path) (sym (is ∙ stored_is shown act)) act.is.link);
          token = source_is;
          of = any_frame ls G.of;
          low = G.low;
        }

    pub expand_goes : (ls : List Float) (m' : Lent) (qs' : List ℕ) (r : Result Work Reason) → (x.cutoff ≼ source.cost) ≡ false → StateIs g m m' qs qs' eps Nonemitting (with_frame T ls) (with_link x source.link) source s r → By m' qs' (expand_of G) r
    unfolding state_given
    expand_goes ls m' qs' r c S = subst (λ (o : Outcome ModelWork). By m' qs' o r) (sym (goes c)) (ended (S (state_given ls)))
