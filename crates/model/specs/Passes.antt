-- The two passes, and the calls that run them: start, frame, keep margin.
use Rattle.std.specs.Prelude.{ℕ, zero, suc, ◌*◌, ◌^◌, Bool, true, false, not, ◌&&◌, ◌||◌, List, [], ◌∷◌, pos, leb, ltb, eqb, length, get_or, set, replicate, Float}
use Rattle.std.proofs.Math.Option.{Option, none, some}
use Rattle.std.specs.Float.Ieee.{neg}
use Rattle.lists.specs.Lists.{all}
use Rattle.real32.specs.Small.{huge, tame}
use Rattle.model.specs.Basics.{◌≺◌, ◌≼◌, ◌⊕◌, ◌⊖◌, 0f, ∞, first_of, refuse, Outcome, ok, refused, ◌>>=◌, check}
use Rattle.model.specs.Graph.{Graph, Arc, no_state, states, arcs_of, emits, has_eps}
use Rattle.model.specs.Path.{empty_path, Token, Table, paths, Limits}
use Rattle.model.specs.Cutoff.{Config, best, get_cutoff}
use Rattle.model.specs.Arrive.{Pass, emitting, nonemitting, Here, Work, loglike, lower, push, arrive_all}

-- ---- the emitting pass: the Rust's `emitting`

-- The first look: the best state's emitting arcs only tighten the next cutoff, as weight + offset − loglike + cost; 12 for such a total.
unfoldable pub first_look : Graph → (loglikes : List Float) → (offset adaptive cost : Float) → List Arc → (next : Float) → Outcome Float
first_look g ls off ad cost [] next = ok next
first_look g ls off ad cost (a ∷ rest) next =
    let w = a.weight ⊕ off ⊖ loglike g ls a ⊕ cost in
    elim (emits a) [
      | true ↦ check 12 (tame w) >>= λ u. first_look g ls off ad cost rest (lower (emitting ls off ad) w next)
      | false ↦ first_look g ls off ad cost rest next
    ]

-- the offset is minus the best cost
abbrev pub offset_of : Option (ℕ × Token) → Float
offset_of none = 0f
offset_of (some b) = neg b.1.cost

abbrev pub look : Graph → List Float → (adaptive : Float) → Option (ℕ × Token) → Outcome Float
look g ls ad none = ok ∞
look g ls ad (some b) = first_look g ls (neg b.1.cost) ad b.1.cost (arcs_of g b.0) ∞

-- the tokens of states s, s + 1, .. that are not above the cutoff
unfoldable pub emit_from : Here → Pass → (cutoff : Float) → ℕ → Table → Work → Outcome Work
emit_from h p cut s [] w = ok w
emit_from h p cut s (none ∷ ts) w = emit_from h p cut (suc s) ts w
emit_from h p cut s (some t ∷ ts) w =
    elim (cut ≺ t.cost) [
      | true ↦ emit_from h p cut (suc s) ts w
      | false ↦ arrive_all h p t (arcs_of h.graph s) w >>= λ v. emit_from h p cut (suc s) ts v
    ]

abbrev pub no_tokens : Graph → Table
no_tokens g = replicate (states g) none

abbrev pub empty_work : Graph → (seq fresh : ℕ) → (cutoff : Float) → Work
empty_work g q n cutoff = record { table = no_tokens g; seq = q; fresh = n; cutoff = cutoff; queue = []; requeued = [] }

unfoldable pub emitting_pass : Here → Config → List Float → Table → (seq fresh : ℕ) → Outcome Work
emitting_pass h c ls ts q n =
    let cut = get_cutoff c ts in
    let b = best ts in
    look h.graph ls cut.adaptive b >>= λ next.
    emit_from h (emitting ls (offset_of b) cut.adaptive) cut.cutoff 0 ts (empty_work h.graph q n next)

-- ---- the nonemitting pass: the Rust's `nonemitting`

-- the active states with epsilon arcs, pushed ascending
unfoldable pub push_from : Here → ℕ → Table → Work → Outcome Work
push_from h s [] w = ok w
push_from h s (none ∷ ts) w = push_from h (suc s) ts w
push_from h s (some t ∷ ts) w = elim (has_eps h.graph s) [ true ↦ push h s [] w >>= λ v. push_from h (suc s) ts v | false ↦ push_from h (suc s) ts w ]

abbrev pub popped : Work → (queue : List ℕ) → Work
popped w q = record { table = w.table; seq = w.seq; fresh = w.fresh; cutoff = w.cutoff; queue = q; requeued = w.requeued }

-- a popped state's token, copied, unless it is at or above the cutoff
unfoldable pub expand : Here → ℕ → Option Token → Work → Outcome Work
expand h s none w = ok w
expand h s (some t) w = elim (w.cutoff ≼ t.cost) [ true ↦ ok w | false ↦ arrive_all h nonemitting t (arcs_of h.graph s) w ]

-- last in, first out, until the queue is empty; the fuel counts the pops
unfoldable pub drain : (fuel : ℕ) → Here → Work → Outcome Work
drain zero h w = ok w
drain (suc n) h w = elim w.queue [ [] ↦ ok w | s ∷ q ↦ expand h s (get_or w.table s none) (popped w q) >>= λ v. drain n h v ]

-- Enough: a state is pushed when the pass begins, when it gets its first token or a cheaper one, and once for a join; and a cost falls less than 2 ^ 32 times.
abbrev pub fuel : Graph → ℕ
fuel g = states g * 2 ^ 34

unfoldable pub nonemitting_pass : Here → Work → Outcome Work
nonemitting_pass h w = push_from h 0 w.table w >>= λ v. drain (fuel h.graph) h v

-- ---- the copy, and the calls that change it

-- what the copy holds between calls: margin, frames decoded, and a token per active state; and the next seq and number
pub record State : Type 0 where
  pub margin : Option Float
  pub frames : ℕ
  pub table : Table
  pub seq : ℕ
  pub fresh : ℕ

-- what a fitting leaves for its own start: no margin
abbrev pub fitted : Graph → State
fitted g = record { margin = none; frames = 0; table = no_tokens g; seq = 0; fresh = 0 }

-- no tokens, no joins and zero frames: what a start begins with, and what a refused one leaves
unfoldable pub dropped : Graph → State → State
dropped g st = record { margin = st.margin; frames = 0; table = no_tokens g; seq = 0; fresh = 0 }

abbrev pub done : State → (frames : ℕ) → Work → State
done st n w = record { margin = st.margin; frames = n; table = w.table; seq = w.seq; fresh = w.fresh }

abbrev pub during : Graph → Limits → State → (frame : ℕ) → Table → Here
during g l st n before = record { graph = g; limits = l; margin = st.margin; frame = n; before = paths before }

unfoldable pub start_token : Token
start_token = record { cost = 0f; graph = 0f; path = empty_path; phone = pos 0; seq = 0 }

-- the start state's token, and the beam as cutoff
abbrev pub start_work : Graph → Config → Work
start_work g c = record { table = set (no_tokens g) g.start (some start_token); seq = 0; fresh = 0; cutoff = c.beam; queue = []; requeued = [] }

-- the Rust's `init_decoding`: a start first drops all earlier tokens
unfoldable pub start : Graph → Config → Limits → State → Outcome State
start g c l st = elim (eqb g.start no_state) [ true ↦ ok (dropped g st) | false ↦ nonemitting_pass (during g l st 0 []) (start_work g c) >>= λ v. ok (done st 0 v) ]

-- 10, 8, 9
unfoldable pub check_frame : Graph → State → List Float → Option ℕ
check_frame g st ls = first_of (refuse 10 (leb 65_536 st.frames) ∷ refuse 8 (not (eqb (length ls) g.pdfs)) ∷ refuse 9 (not (all tame ls)) ∷ [])

-- the Rust's `advance_frame`
unfoldable pub frame : Graph → Config → Limits → List Float → State → Outcome State
frame g c l ls st =
    let h = during g l st st.frames st.table in
    elim (check_frame g st ls) [
      | none ↦ emitting_pass h c ls st.table st.seq st.fresh >>= λ w. nonemitting_pass h w >>= λ v. ok (done st (suc st.frames) v)
      | some n ↦ refused n
    ]

-- a beam or a margin: not negative, finite and below 2 ^ 100; −0 is not negative
unfoldable pub fair : Float → Bool
fair x = 0f ≼ x && x ≺ huge

abbrev pub fair_margin : Option Float → Bool
fair_margin none = true
fair_margin (some m) = fair m

-- the Rust's `set_keep`, with 6
unfoldable pub set_keep : Option Float → State → Outcome State
set_keep m st = elim (fair_margin m) [ true ↦ ok (record { margin = m; frames = st.frames; table = st.table; seq = st.seq; fresh = st.fresh }) | false ↦ refused 6 ]

-- ---- the fitter's check

-- The places of the lent stores: of each slice kept per state; of the record store, and of each slice kept per record; of the store for kept readings, and of each slice kept per kept reading.
pub record Places : Type 0 where
  pub for_states : List ℕ
  pub records : ℕ
  pub for_records : List ℕ
  pub kept : ℕ
  pub for_kept : List ℕ

-- n places or more in each
abbrev pub at_least : ℕ → List ℕ → Bool
at_least n places = all (λ p. leb n p) places

-- 6: settings, then stores
unfoldable pub check_fit : Graph → Config → Places → Option ℕ
check_fit g c ps =
    refuse 6
    (not (fair c.beam) || not (fair c.beam_delta) || leb c.max_active c.min_active ||
    not (at_least (states g) ps.for_states) || ltb 1_048_576 ps.records || not (at_least ps.records ps.for_records) || not (at_least ps.kept ps.for_kept))
