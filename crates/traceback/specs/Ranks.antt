-- The rank of a token, and the best of the ranked.
use Rattle.std.specs.Prelude.{◌≡◌, ℕ, ◌<◌, Bool, ◌&&◌, ◌||◌, cond, List, ltb, get_or, Float, Option as RustOption, Some, None}
use Rattle.std.proofs.Math.Option.{Option, none, some}
use Rattle.std.specs.Float.{nan}
use Rattle.std.specs.Float.Ieee.{eq}
use Rattle.std.specs.Float.Ieee.Scale.{finite}
use Rattle.model.specs.Basics.{◌≺◌, ◌⊕◌, ◌⊖◌, ◌⊗◌, 0f, 1f}
use Rattle.model.specs.Path.{Table}
use Rattle.model.specs.Passes.{State}
use Rattle.model.specs.Reads.{graph_scale, Ranked, best_token}
use Rattle.tokens.specs.declared.Token.{Token as Stored}
use Rattle.tokens.specs.Layout.{cell_at, token_of, place_in}
use Rattle.records.specs.History.{History}
use Rattle.stores.specs.Shown.{Is, Shown}
use Rattle.traceback.specs.declared.Candidate.{Candidate}
use Rattle.traceback.specs.Table.{ForGraph}

abbrev pub weight_in : List Float → ℕ → (counts : Bool) → Float
weight_in fs s counts = cond counts (get_or fs s nan) 0f

-- the rank of a cost c that already has the final weight
abbrev pub rank_in : (c graph weight : Float) → (counts : Bool) → Float
rank_in c graph w counts = cond counts (c ⊖ (1f ⊖ graph_scale) ⊗ (graph ⊕ w)) c

-- the token of an active state, as the stores hold it
unfoldable pub candidate_of : (s : ℕ) → Stored → (weight : Float) → (counts : Bool) → RustOption Candidate
candidate_of s t w counts =
    let c = t.cost ⊕ w in
    cond (finite c) (Some (record { state = s; link = t.link; seq = t.seq; rank = rank_in c t.graph w counts; cost = c })) None

abbrev pub candidate_at : List ℕ → (sm fs : List Float) → (side s : ℕ) → (counts : Bool) → RustOption Candidate
candidate_at tk sm fs b s counts = candidate_of s (token_of (cell_at tk sm (place_in b s))) (weight_in fs s counts) counts

abbrev pub sooner_of : Candidate → Candidate → Bool
sooner_of a b = a.rank ≺ b.rank || (eq a.rank b.rank && ltb b.seq a.seq)

-- the sooner of two; the first where neither is
abbrev pub soonest_of : RustOption Candidate → RustOption Candidate → RustOption Candidate
soonest_of None b = b
soonest_of (Some x) None = Some x
soonest_of (Some x) (Some y) = cond (sooner_of y x) (Some y) (Some x)

-- a candidate stands for a ranked token
pub record CandidateIs (h : ℕ → History) (used n : ℕ) (ts : Table) (c : Candidate) (r : Ranked) : Type 0 where
  pub inside : c.state < n
  pub at : get_or ts c.state none ≡ some r.token
  pub link : Is h used c.link r.token.path
  pub seq : c.seq ≡ r.token.seq
  pub rank : c.rank ≡ r.rank
  pub cost : c.cost ≡ r.cost

abbrev pub Picks : (ℕ → History) → (used n : ℕ) → Table → RustOption Candidate → Option Ranked → Type 0
Picks h used n ts None none = Unit {0}
Picks h used n ts None (some r) = ⊥
Picks h used n ts (Some c) none = ⊥
Picks h used n ts (Some c) (some r) = CandidateIs h used n ts c r

pub record BestIs (tk : List ℕ) (sm fs : List Float) (b n : ℕ) (use_final : Bool) (r : RustOption Candidate) : Type 0 where
  pub is : ForGraph fs (λ g. (h : ℕ → History) (used : ℕ) (st : State) → Shown h used tk sm b n st.table → Picks h used n st.table r (best_token g st use_final))
