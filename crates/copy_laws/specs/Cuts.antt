-- The tests of `Drops` say true only where something was cut: each gives the token or the total that the cutoff left out, and the moment. Assumes nothing.
use Rattle.std.specs.Prelude.{◌≡◌, get_or, Float}
use Prim.Native.Nat.{ℕ, suc}
use Rattle.std.proofs.Math.Bool.{true, false}
use Rattle.std.proofs.Math.Option.{none, some}
use mathlib.Core.List.{List, [], ◌∷◌, ◌++◌}
use Rattle.std.proofs.Math.Dec.{eqb}
use Rattle.lists.specs.Lists.{◌∈◌}
use Rattle.model.specs.Basics.{◌≺◌, ◌≼◌, ok}
use Rattle.model.specs.Graph.{Graph, Arc, no_state, arcs_of}
use Rattle.model.specs.Path.{Token, Table, unlimited}
use Rattle.model.specs.Cutoff.{Config, best, get_cutoff}
use Rattle.model.specs.Arrive.{Pass, emitting, nonemitting, takes, total, Here, Work, arrive, arrive_all}
use Rattle.model.specs.Passes.{offset_of, look, empty_work, emitting_pass, push_from, popped, expand, State, during, start_work, start, frame}
use Rattle.model.specs.Calls.{Call, start_call, frame_call}
use Rattle.copy_laws.specs.Tables.{At}
use Rattle.copy_laws.specs.Points.{Point, after}

-- ---- what can be cut, and when

-- a total of these arcs, at or above the cutoff of the moment
pub data TotalCut (h : Here) (p : Pass) (t : Token) : List Arc → Work → Type 0 where
  total_here : {a : Arc} {rest : List Arc} {w : Work} → takes p a ≡ true → (w.cutoff ≼ total h.graph p t a) ≡ true → TotalCut h p t (a ∷ rest) w
  total_later : {a : Arc} {rest : List Arc} {w : Work} (v : Work) → takes p a ≡ true → arrive h p t a w ≡ ok v → TotalCut h p t rest v → TotalCut h p t (a ∷ rest) w
  total_past : {a : Arc} {rest : List Arc} {w : Work} → takes p a ≡ false → TotalCut h p t rest w → TotalCut h p t (a ∷ rest) w

-- in the emitting pass: a token above its cutoff, or a total of a token's arcs
pub data EmittingCut (h : Here) (p : Pass) (cut : Float) : ℕ → Table → Work → Type 0 where
  token_above : {s : ℕ} {t : Token} {ts : Table} {w : Work} → (cut ≺ t.cost) ≡ true → EmittingCut h p cut s (some t ∷ ts) w
  token_total : {s : ℕ} {t : Token} {ts : Table} {w : Work} → (cut ≺ t.cost) ≡ false → TotalCut h p t (arcs_of h.graph s) w → EmittingCut h p cut s (some t ∷ ts) w
  token_later : {s : ℕ} {t : Token} {ts : Table} {w : Work} (v : Work) → (cut ≺ t.cost) ≡ false → arrive_all h p t (arcs_of h.graph s) w ≡ ok v → EmittingCut h p cut (suc s) ts v → EmittingCut h p cut s (some t ∷ ts) w
  token_past : {s : ℕ} {ts : Table} {w : Work} → EmittingCut h p cut (suc s) ts w → EmittingCut h p cut s (none ∷ ts) w

-- in the queue: a popped token at or above the cutoff, or a total of its arcs
pub data QueueCut (h : Here) : Work → Type 0 where
  popped_above : {w : Work} (s : ℕ) (q : List ℕ) (t : Token) → w.queue ≡ s ∷ q → At w.table s t → (w.cutoff ≼ t.cost) ≡ true → QueueCut h w
  popped_total : {w : Work} (s : ℕ) (q : List ℕ) (t : Token) → w.queue ≡ s ∷ q → At w.table s t → (w.cutoff ≼ t.cost) ≡ false → TotalCut h nonemitting t (arcs_of h.graph s) (popped w q) → QueueCut h w
  popped_later : {w : Work} (s : ℕ) (q : List ℕ) (v : Work) → w.queue ≡ s ∷ q → expand h s (get_or w.table s none) (popped w q) ≡ ok v → QueueCut h v → QueueCut h w

-- in an accepted start or frame
pub data CallCut (g : Graph) (c : Config) (st : State) : Call → Type 0 where
  start_cut : (s : State) (v : Work) → start g c unlimited st ≡ ok s → eqb g.start no_state ≡ false → push_from (during g unlimited st 0 []) 0 (start_work g c).table (start_work g c) ≡ ok v → QueueCut (during g unlimited st 0 []) v → CallCut g c st start_call
  frame_cut : {ls : List Float} (s : State) (next : Float) → frame g c unlimited ls st ≡ ok s → look g ls (get_cutoff c st.table).adaptive (best st.table) ≡ ok next
      → EmittingCut (during g unlimited st st.frames st.table) (emitting ls (offset_of (best st.table)) (get_cutoff c st.table).adaptive) (get_cutoff c st.table).cutoff 0 st.table (empty_work g st.seq st.fresh next) → CallCut g c st (frame_call ls)
  queue_cut : {ls : List Float} (s : State) (w v : Work) → frame g c unlimited ls st ≡ ok s → emitting_pass (during g unlimited st st.frames st.table) c ls st.table st.seq st.fresh ≡ ok w
      → push_from (during g unlimited st st.frames st.table) 0 w.table w ≡ ok v → QueueCut (during g unlimited st st.frames st.table) v → CallCut g c st (frame_call ls)

-- ---- a list of calls

abbrev pub NoStart : List (Call × ℕ) → Type 0
NoStart ks = (k : Call × ℕ) → k ∈ ks → k.0 ≡ start_call → ⊥

-- one of the calls, accepted and with no start after it, left something out
pub record HasCut (g : Graph) (c : Config) (pt : Point) (ks : List (Call × ℕ)) : Type 0 where
  pub before : List (Call × ℕ)
  pub call : Call
  pub later : List (Call × ℕ)
  pub is : ks ≡ before ++ ((call, 0) ∷ later)
  pub cut : CallCut g c (after g c pt before).state call
  pub since : NoStart later
