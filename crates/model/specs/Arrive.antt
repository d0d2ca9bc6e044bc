-- What an arriving arc meets, and what comes of it: said once, for both passes (the Rust's `emitting` and `nonemitting`, `keep_lost` and `keep_arrival`).
use Rattle.std.specs.Prelude.{ℕ, suc, ◌+◌, Bool, true, false, not, ◌&&◌, cond, List, [], ◌∷◌, ◌++◌, ℤ, pos, nat_abs, length, get_or, set, Float}
use Rattle.std.proofs.Math.Option.{Option, none, some}
use Rattle.real32.specs.Small.{tame}
use Rattle.model.specs.Basics.{◌≺◌, ◌≼◌, ◌⊕◌, ◌⊖◌, 0f, eqℤ, over, Outcome, ok, refused, ◌>>=◌, check}
use Rattle.model.specs.Graph.{Graph, Arc, emits, has_eps, pdf_of, phone_of}
use Rattle.model.specs.Path.{Step, Path, arc_onto, branch_on, Token, Table, paths, is_link, memℕ, worth_keeping, Limits}

-- The choice of pass. The emitting one has the frame's log-likelihoods, the cost offset and the adaptive beam.
pub data Pass : Type 0 where
  emitting : (loglikes : List Float) → (offset adaptive : Float) → Pass
  nonemitting : Pass

abbrev pub takes : Pass → Arc → Bool
takes (emitting ls off ad) a = emits a
takes nonemitting a = not (emits a)

abbrev pub loglike : Graph → List Float → Arc → Float
loglike g ls a = get_or ls (nat_abs (pdf_of g a)) 0f

-- an arc's total, each sum rounded once, in this order
unfoldable pub total : Graph → Pass → Token → Arc → Float
total g (emitting ls off ad) t a = (t.cost ⊕ (off ⊖ loglike g ls a)) ⊕ a.weight
total g nonemitting t a = t.cost ⊕ a.weight

-- an epsilon arc changes no phone
abbrev pub phone_after : Graph → Pass → Token → Arc → ℤ
phone_after g (emitting ls off ad) t a = phone_of g a
phone_after g nonemitting t a = t.phone

-- total + adaptive beam may lower the emitting pass's cutoff
unfoldable pub lower : Pass → Float → Float → Float
lower (emitting ls off ad) tot c = cond (tot ⊕ ad ≺ c) (tot ⊕ ad) c
lower nonemitting tot c = c

-- ---- what stands still during a pass, and what moves

pub record Here : Type 0 where
  pub graph : Graph
  pub limits : Limits
  pub margin : Option Float  -- the keep margin
  pub frame : ℕ
  pub before : List Path  -- the paths of the last finished start or frame

pub record Work : Type 0 where
  pub table : Table
  pub seq : ℕ
  pub fresh : ℕ  -- the next number for an arc or a branch
  pub cutoff : Float
  pub queue : List ℕ  -- last in first
  pub requeued : List ℕ

-- ---- what an arc meets

pub data Meets : Type 0 where
  past_cutoff : Meets
  vacant : Meets
  better : (gap : Float) → (held : Token) → Meets
  not_better : (gap : Float) → (held : Token) → Meets

-- only a strictly lower total is better
abbrev pub against : Float → Option Token → Meets
against tot none = vacant
against tot (some t) = cond (tot ≺ t.cost) (better (t.cost ⊖ tot) t) (not_better (tot ⊖ t.cost) t)

-- a total at the cutoff is cut off
unfoldable pub meets : (cutoff tot : Float) → Option Token → Meets
meets cutoff tot held = elim (cutoff ≼ tot) [ true ↦ past_cutoff | false ↦ against tot held ]

-- ---- the arriving token: its source's path, copied, and the arc

-- the phone that it starts is 0 unless it changes
unfoldable pub step_on : Here → Pass → Token → Arc → (number : ℕ) → (beside : Bool) → Step
step_on h p t a n beside = let ph = phone_after h.graph p t a in record { number = n; arc = a; frame = h.frame; starts = cond (eqℤ ph t.phone) (pos 0) ph; beside = beside }

unfoldable pub arriving : Here → Pass → Token → Arc → (number seq : ℕ) → (beside : Bool) → Token
arriving h p t a n q beside = record { cost = total h.graph p t a; graph = t.graph ⊕ a.weight; path = arc_onto (step_on h p t a n beside) t.path; phone = phone_after h.graph p t a; seq = q }

-- ---- a loser that is kept

-- the winner with the loser as a branch at its end, and the differences that the Rust keeps
unfoldable pub joined : Here → (number : ℕ) → (won lost : Token) → Token
joined h n won lost =
    record {
      cost = won.cost;
      graph = won.graph;
      path = branch_on (record { number = n; frame = h.frame; phone = won.phone; kept_phone = lost.phone; cost = lost.cost ⊖ won.cost; graph = lost.graph ⊖ won.graph }) lost.path won.path;
      phone = won.phone;
      seq = won.seq;
    }

-- within the margin, and worth it
unfoldable pub keeps : Option Float → (gap : Float) → (won lost : Token) → Bool
keeps none gap won lost = false
keeps (some m) gap won lost = gap ≼ m && worth_keeping won.path lost.path (m ⊖ (lost.cost ⊖ won.cost))

-- `keep_lost` and `keep_arrival`: none where the loser is dropped, 13 where its join finds the store full. `hand` are the live paths.
unfoldable pub keep : Here → (hand : List Path) → (number : ℕ) → (gap : Float) → (won lost : Token) → Outcome (Option Token)
keep h hand n gap won lost = elim (keeps h.margin gap won lost) [ false ↦ ok none | true ↦ elim (h.limits.full hand) [ true ↦ refused 13 | false ↦ ok (some (joined h n won lost)) ] ]

-- ---- one arriving arc: 12 for its total, 12 for a winner's graph sum, 13 for its record, 13 for its join, 14 for the push

-- the live paths, `p` in hand
abbrev pub path_in_hand : Here → Work → Path → List Path
path_in_hand h w p = p ∷ (paths w.table ++ h.before)

-- a winner: its graph sum, then its record
unfoldable pub check_winner : Here → Work → Pass → Token → Arc → Outcome (Unit {0})
check_winner h w p t a =
    check 12 (tame (t.graph ⊕ a.weight)) >>= λ u.
    check 13 (not (is_link (step_on h p t a 0 false) && h.limits.full (path_in_hand h w t.path)))

-- What becomes of the state: its arc was cut off, its token stays, it has a new token (with the latest seq), or its token has a loser joined to it.
pub data Change : Type 0 where
  arc_cut : Change
  token_stays : Change
  token_wins : Token → (seq : ℕ) → Change
  token_joins : Token → Change

abbrev pub or_else : Token → Option Token → Token
or_else t none = t
or_else t (some j) = j

abbrev pub joins_or_stays : Option Token → Change
joins_or_stays none = token_stays
joins_or_stays (some j) = token_joins j

-- an empty state: the arc's token, with the next seq
unfoldable pub fills : Here → Pass → Token → Arc → Work → Outcome Change
fills h p t a w = check_winner h w p t a >>= λ u. ok (token_wins (arriving h p t a w.fresh (suc w.seq) false) (suc w.seq))

-- better: the arc's token with the seq of the one that it beat, and that one as a branch if it is kept
unfoldable pub beats : Here → Pass → Token → Arc → Work → (gap : Float) → (held : Token) → Outcome Change
beats h p t a w gap held =
    let new = arriving h p t a w.fresh held.seq false in
    check_winner h w p t a >>= λ u. keep h (path_in_hand h w new.path) (suc w.fresh) gap new held >>= λ j. ok (token_wins (or_else new j) w.seq)

-- not better: the state's token stays, with the arrival as a branch if it is kept
unfoldable pub loses : Here → Pass → Token → Arc → Work → (gap : Float) → (held : Token) → Outcome Change
loses h p t a w gap held =
    let new = arriving h p t a w.fresh 0 true in
    keep h (path_in_hand h w new.path) (suc w.fresh) gap held new >>= λ j. ok (joins_or_stays j)

unfoldable pub settle : Here → Pass → Token → Arc → Work → Meets → Outcome Change
settle h p t a w past_cutoff = ok arc_cut
settle h p t a w vacant = check 12 (tame (total h.graph p t a)) >>= λ u. fills h p t a w
settle h p t a w (better gap held) = check 12 (tame (total h.graph p t a)) >>= λ u. beats h p t a w gap held
settle h p t a w (not_better gap held) = check 12 (tame (total h.graph p t a)) >>= λ u. loses h p t a w gap held

-- a total that passed may have lowered the cutoff and used two numbers
unfoldable pub passed : Pass → (tot : Float) → Work → Work
passed p tot w = record { table = w.table; seq = w.seq; fresh = w.fresh + 2; cutoff = lower p tot w.cutoff; queue = w.queue; requeued = w.requeued }

unfoldable pub put : ℕ → Token → (seq : ℕ) → Work → Work
put s t q w = record { table = set w.table s (some t); seq = q; fresh = w.fresh; cutoff = w.cutoff; queue = w.queue; requeued = w.requeued }

unfoldable pub push : Here → ℕ → (requeued : List ℕ) → Work → Outcome Work
push h s re w =
    elim (over (suc (length w.queue)) h.limits.queue) [
      | true ↦ refused 14
      | false ↦ ok (record { table = w.table; seq = w.seq; fresh = w.fresh; cutoff = w.cutoff; queue = s ∷ w.queue; requeued = re })
    ]

-- A winner goes on from its state, in the nonemitting pass.
abbrev pub push_winner : Here → Pass → ℕ → Work → Outcome Work
push_winner h (emitting ls off ad) s w = ok w
push_winner h nonemitting s w = push h s w.requeued w

-- So does a token that a loser was joined to, where it has epsilon arcs: a join requeues a state at most once per start or frame.
abbrev pub push_joined : Here → Pass → ℕ → Work → Outcome Work
push_joined h (emitting ls off ad) s w = ok w
push_joined h nonemitting s w = elim (has_eps h.graph s && not (memℕ s w.requeued)) [ true ↦ push h s (s ∷ w.requeued) w | false ↦ ok w ]

unfoldable pub finish : Here → Pass → ℕ → (tot : Float) → Work → Change → Outcome Work
finish h p s tot w arc_cut = ok w
finish h p s tot w token_stays = ok (passed p tot w)
finish h p s tot w (token_wins t q) = push_winner h p s (put s t q (passed p tot w))
finish h p s tot w (token_joins t) = push_joined h p s (put s t w.seq (passed p tot w))

abbrev pub place_of : Work → Arc → Option Token
place_of w a = get_or w.table a.target none

unfoldable pub arrive : Here → Pass → Token → Arc → Work → Outcome Work
arrive h p t a w = let tot = total h.graph p t a in settle h p t a w (meets w.cutoff tot (place_of w a)) >>= finish h p a.target tot w

-- every arc of a token that the pass takes, in order
unfoldable pub arrive_all : Here → Pass → Token → List Arc → Work → Outcome Work
arrive_all h p t [] w = ok w
arrive_all h p t (a ∷ rest) w = elim (takes p a) [ true ↦ arrive h p t a w >>= λ v. arrive_all h p t rest v | false ↦ arrive_all h p t rest w ]
