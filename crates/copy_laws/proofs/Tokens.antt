-- What holds of a token: of the start's, of an arriving one whichever the pass, and of a winner with a loser joined to it. Assumes nothing.
use Rattle.std.specs.Prelude.{◌≡◌, ℕ, suc, ◌-◌, ◌<◌, ◌≤◌, Bool, false, List, [], ◌∷◌, length, pos, T, Float}
use Rattle.std.proofs.Math.Path.{refl, sym, ap}
use Rattle.std.proofs.Common.{ap₂, ◌∙◌, append-nil}
use native.Mathlib.Omega.{arith}
use Rattle.std.proofs.Math.Bool.{true, cond}
use Rattle.std.specs.Float.Ieee.{fits, lt, neg}
use Rattle.lists.specs.Tests.{holds, never}
use Rattle.lists.specs.Lists.{◌∈◌}
use Rattle.real32.specs.Small.{small, tame, tame-add}
use Rattle.model.specs.Basics.{◌≼◌, ◌⊕◌, ◌⊖◌}
use Rattle.model.specs.Graph.{Graph, Arc, states, arcs_of, emits, phone_of}
use Rattle.model.specs.Path.{Path, Token, memℕ}
use Rattle.model.specs.Arrive.{Pass, emitting, nonemitting, takes, total, phone_after, Here, step_on, arriving, joined}
use Rattle.model.specs.Passes.{start_token}
use Rattle.model.specs.Checked.{GoodGraph}
use Rattle.copy_laws.proofs.Labels.{eqℤ_refl}
use Rattle.copy_laws.specs.Walks.{Heard, Walk, emitted, heard_by, sum_from, weights_from}
use Rattle.copy_laws.proofs.Walks.{weights-append, walk_on, sum_on, not_emits}
use Rattle.copy_laws.specs.Routes.{along, arcs}
use Rattle.copy_laws.specs.Sums.{Floats32, Signed}
use Rattle.copy_laws.proofs.Sums.{weight_32, signed_add, signed_total, difference}
use Rattle.copy_laws.specs.Shapes.{phone_from, phone_on, started_by, Mark, Forks}
use Rattle.copy_laws.proofs.Shapes.{falling_more, phone-append, forks_more}
use Rattle.copy_laws.specs.Tokens.{Sound, InFrame}

pub sound_more : (g : Graph) (fs : List Heard) (f f' s : ℕ) (t : Token) → f ≤ f' → Sound g fs f s t → Sound g fs f' s t
sound_more g fs f f' s t i d =
    record { walks = d.walks; cost = d.cost; graph = d.graph; phone = d.phone; sums = d.sums; falls = falling_more f f' t.path i d.falls; marked = d.marked; forks = d.forks }

-- ---- the start's token

pub start_sound : (g : Graph) → g.start < states g → Sound g [] 0 g.start start_token
unfolding start_token along sum_from weights_from phone_from
start_sound g i =
    let z : Signed start_token.cost = (unfold fits in tt, tt) in
    record {
      walks = λ route. record { begins = i; leads = refl; frames = refl };
      cost = refl;
      graph = refl;
      phone = refl;
      sums = record { cost = z; cost_tame = unfold tame lt neg in refl; graph = z; graph_small = tt };
      falls = tt;
      marked = tt;
      forks = tt;
    }

module _ (h : Here) (p : Pass) (fs : List Heard) (t : Token) (a : Arc) (taken : takes p a ≡ true) where
  abbrev g : Graph
  g = h.graph

  forks_on : (q : Path) → Forks g fs q → Forks g (heard_by p fs) q
  forks_on q = go p
    where
      go : (p : Pass) → Forks g fs q → Forks g (heard_by p fs) q
      go (emitting ls off ad) = forks_more g fs (record { loglikes = ls; offset = off } ∷ []) q
      go nonemitting = λ b. b

  phone_on_lem : t.phone ≡ phone_on g t.path → phone_after g p t a ≡ cond (emits a) (phone_of g a) (phone_on g t.path)
  phone_on_lem e = go p taken
    where
      go : (p : Pass) → takes p a ≡ true → phone_after g p t a ≡ cond (emits a) (phone_of g a) (phone_on g t.path)
      go (emitting ls off ad) k = rw k
      go nonemitting k = rw (not_emits a k) e

  mark_on : InFrame h p fs → (n : ℕ) (b : Bool) → t.phone ≡ phone_on g t.path → emitted (arcs t.path) ≡ length fs → Mark g (step_on h p t a n b) t.path
  unfolding step_on
  mark_on i n b e c = go p taken i
    where
      go : (p : Pass) → takes p a ≡ true → InFrame h p fs → Mark g (step_on h p t a n b) t.path
      go (emitting ls off ad) k i = record { emitting = λ y. (i ∙ sym c, ap (started_by (phone_of g a)) e); epsilon = λ y. never (sym y ∙ k) }
      go nonemitting k i = record { emitting = λ y. never (sym (not_emits a k) ∙ y); epsilon = λ y. (i ∙ ap (λ (n : ℕ). n - 1) (sym c), ap (λ (z : Bool). cond z (pos 0) t.phone) (eqℤ_refl t.phone)) }

-- The arriving token, whichever the pass: the source's path and the arc.
module _ (h : Here) (p : Pass) (fs : List Heard) (good : GoodGraph h.graph) (floats : Floats32 h.graph) where
  pub arc_sound : (s : ℕ) (t : Token) (a : Arc) (f n q : ℕ) (b : Bool) → InFrame h p fs → a ∈ arcs_of h.graph s → takes p a ≡ true → f ≤ n → Sound h.graph fs f s t → tame t.graph ≡ true → tame (total h.graph p t a) ≡ true
      → Sound h.graph (heard_by p fs) (suc n) a.target (arriving h p t a n q b)
  unfolding arriving step_on along weights_from
  arc_sound s t a f n q b i m k le d light tot =
      let g = h.graph in
      let route = arcs t.path in
      let w32 = weight_32 g floats s a m in
      record {
        walks = λ r. walk_on g p fs (along r t.path) s a k m (d.walks r);
        cost = sum_on g p fs route t a k (d.walks []).frames d.cost;
        graph = ap (λ (x : Float). x ⊕ a.weight) d.graph ∙ sym (weights-append _ route (a ∷ []));
        phone = phone_on_lem h p fs t a k d.phone ∙ sym (phone-append g (pos 0) route a);
        sums = record {
          cost = signed_total g p t a d.sums.cost w32;
          cost_tame = tot;
          graph = signed_add t.graph a.weight d.sums.graph w32;
          graph_small = tame-add t.graph a.weight (holds light) (holds (good.arc s a m).weight);
        };
        falls = (omega arith, falling_more f n t.path le d.falls);
        marked = (mark_on h p fs t a k i n b d.phone (d.walks []).frames, d.marked);
        forks = forks_on h p fs t a k t.path d.forks;
      }

-- ---- a join

pub join_sound : (h : Here) (fs : List Heard) (s f n : ℕ) (won lost : Token) → f ≤ n → 0 < n → Sound h.graph fs f s won → tame won.graph ≡ true → Sound h.graph fs f s lost → T (won.cost ≼ lost.cost) → Sound h.graph fs (suc n) s (joined h n won lost)
unfolding joined along
join_sound h fs s f n won lost le new w light l up =
    record {
      walks = λ route. either_way route (memℕ n route);
      cost = w.cost;
      graph = w.graph;
      phone = w.phone;
      sums = record { cost = w.sums.cost; cost_tame = w.sums.cost_tame; graph = w.sums.graph; graph_small = w.sums.graph_small };
      falls = (omega arith, falling_more f n lost.path le l.falls, falling_more f n won.path le w.falls);
      marked = (l.marked, w.marked);
      forks = (
        record {
          frames = fs;
          later = [];
          first = append-nil fs;
          end = s;
          kept = l.walks;
          won = w.walks;
          numbered = new;
          cost = ap₂ ◌⊖◌ l.cost w.cost;
          graph = ap₂ ◌⊖◌ l.graph w.graph;
          small = difference _ won lost refl refl w.sums light l.sums up;
        },
        l.forks,
        w.forks,
      );
    }
  where
    either_way : (route : List ℕ) (b : Bool) → Walk h.graph fs (elim b as (λ c. List Arc) [ true ↦ along route lost.path | false ↦ along route won.path ]) s
    either_way route true = l.walks route
    either_way route false = w.walks route
