-- What a cutoff drops: the tokens and totals that an accepted start or frame leaves out for it. Each test runs beside the definition's own pass. Assumes nothing.
use Rattle.std.specs.Prelude.{ℕ, zero, suc, Bool, true, false, ◌||◌, List, [], ◌∷◌, eqb, get_or, Float}
use Rattle.std.proofs.Math.Option.{Option, none, some}
use Rattle.model.specs.Basics.{◌≺◌, ◌≼◌, Outcome, ok, refused}
use Rattle.model.specs.Graph.{Graph, Arc, no_state, arcs_of}
use Rattle.model.specs.Path.{Token, Table, Limits}
use Rattle.model.specs.Cutoff.{Config, best, get_cutoff}
use Rattle.model.specs.Arrive.{Pass, emitting, nonemitting, takes, total, Here, Work, arrive, arrive_all}
use Rattle.model.specs.Passes.{offset_of, look, empty_work, emitting_pass, push_from, popped, expand, fuel, State, during, start_work}

-- a test of what a step gives, where it is accepted
abbrev pub on_ok : {A : Type 0} → (A → Bool) → Outcome A → Bool
on_ok f (ok a) = f a
on_ok f (refused n) = false

-- a total of these arcs is at or above the cutoff
unfoldable pub drops_total : Here → Pass → Token → List Arc → Work → Bool
drops_total h p t [] w = false
drops_total h p t (a ∷ rest) w = elim (takes p a) [ true ↦ (w.cutoff ≼ total h.graph p t a) || on_ok (drops_total h p t rest) (arrive h p t a w) | false ↦ drops_total h p t rest w ]

-- ---- the emitting pass: a token above its cutoff, or a total of a token's arcs

unfoldable pub drops_emit : Here → Pass → (cutoff : Float) → ℕ → Table → Work → Bool
drops_emit h p cut s [] w = false
drops_emit h p cut s (none ∷ ts) w = drops_emit h p cut (suc s) ts w
drops_emit h p cut s (some t ∷ ts) w =
    elim (cut ≺ t.cost) [
      | true ↦ true
      | false ↦ drops_total h p t (arcs_of h.graph s) w || on_ok (drops_emit h p cut (suc s) ts) (arrive_all h p t (arcs_of h.graph s) w)
    ]

-- the first look drops nothing
unfoldable pub drops_emitting : Here → Config → List Float → Table → (seq fresh : ℕ) → Bool
drops_emitting h c ls ts q n =
    let cut = get_cutoff c ts in
    on_ok (λ next. drops_emit h (emitting ls (offset_of (best ts)) cut.adaptive) cut.cutoff 0 ts (empty_work h.graph q n next)) (look h.graph ls cut.adaptive (best ts))

-- ---- the nonemitting pass: a popped token at or above the cutoff, or a total of its arcs

unfoldable pub drops_popped : Here → ℕ → Option Token → Work → Bool
drops_popped h s none w = false
drops_popped h s (some t) w = elim (w.cutoff ≼ t.cost) [ true ↦ true | false ↦ drops_total h nonemitting t (arcs_of h.graph s) w ]

unfoldable pub drops_queue : (fuel : ℕ) → Here → Work → Bool
drops_queue zero h w = false
drops_queue (suc n) h w =
    elim w.queue [ [] ↦ false | s ∷ q ↦ drops_popped h s (get_or w.table s none) (popped w q) || on_ok (drops_queue n h) (expand h s (get_or w.table s none) (popped w q)) ]

unfoldable pub drops_nonemitting : Here → Work → Bool
drops_nonemitting h w = on_ok (drops_queue (fuel h.graph) h) (push_from h 0 w.table w)

-- ---- a start, and a frame

unfoldable pub drops_start : Graph → Config → Limits → State → Bool
drops_start g c l st = elim (eqb g.start no_state) [ true ↦ false | false ↦ drops_nonemitting (during g l st 0 []) (start_work g c) ]

unfoldable pub drops_frame : Graph → Config → Limits → List Float → State → Bool
drops_frame g c l ls st =
    let h = during g l st st.frames st.table in
    drops_emitting h c ls st.table st.seq st.fresh || on_ok (drops_nonemitting h) (emitting_pass h c ls st.table st.seq st.fresh)
