-- The token table that the stores show, as far as costs go, and the cutoff that the definition gives for it.
use Rattle.std.specs.Prelude.{◌≡◌, ℕ, ◌<◌, not, List, T, length, get_or, take, Float}
use Rattle.std.proofs.Math.Option.{Option, none, some}
use Rattle.lists.specs.Lists.{◌∈◌, count}
use Rattle.real32.specs.Small.{tame}
use Rattle.real32.specs.Exact.{is_neg_zero}
use Rattle.model.specs.Basics.{◌≺◌, ◌⊕◌, ◌⊖◌, ∞}
use Rattle.model.specs.Path.{Token, Table, tokens}
use Rattle.model.specs.Cutoff.{Config as Settings, best, costs, get_cutoff}
use Rattle.tokens.specs.Layout.{place_in, held_at, cost_at}
use Rattle.cutoff.specs.declared.Config.{Config}
use Rattle.cutoff.specs.declared.Cutoff.{Cutoff}

abbrev pub config_of : Config → Settings
config_of c = record { beam = c.beam; max_active = c.max_active; min_active = c.min_active; beam_delta = c.beam_delta }

-- a place that holds no token, or one of this cost
pub data CostIs (held : ℕ) (cost : Float) : Option Token → Type 0 where
  vacant_is : held ≡ 0 → CostIs held cost none
  token_itself : {t : Token} → (held ≡ 0 → ⊥) → t.cost ≡ cost → CostIs held cost (some t)

-- the stores show this table, as far as costs go
pub record Costs (tk : List ℕ) (sm : List Float) (b n : ℕ) (ts : Table) : Type 0 where
  pub size : length ts ≡ n
  pub place : (s : ℕ) → s < n → CostIs (held_at tk (place_in b s)) (cost_at sm (place_in b s)) (get_or ts s none)

-- Costs that can be compared: finite, and of the two zeros only +0, so that equal costs are equal bits.
abbrev pub Fine : Table → Type 0
Fine ts = (t : Token) → t ∈ tokens ts → T (tame t.cost) × T (not (is_neg_zero t.cost))

-- what `copy_costs` leaves: the costs, in order, in front
pub record Copied (n : ℕ) (scratch : List Float) (ts : Table) : Type 0 where
  pub front : take n scratch ≡ costs ts

-- what `count_costs` gives: how many costs are below x, and how many not above it
pub record Counted (x : Float) (below within : ℕ) (ts : Table) : Type 0 where
  pub below_x : below ≡ count (λ c. c ≺ x) (costs ts)
  pub within_x : within ≡ count (λ c. not (x ≺ c)) (costs ts)

-- the best of n states and its cost: n and +∞ where there is no token
abbrev pub BestIs : (n : ℕ) → Option (ℕ × Token) → (state : ℕ) → (cost : Float) → Type 0
BestIs n none s x = (s ≡ n) × (x ≡ ∞)
BestIs n (some b) s x = (s < n) × (s ≡ b.0) × (x ≡ b.1.cost)

-- what a statistic x gives as the cutoff
abbrev pub cut_at : Settings → (state : ℕ) → (least x : Float) → Cutoff
cut_at c s l x = record { cutoff = x; adaptive = x ⊖ l ⊕ c.beam_delta; best = s; least = l }

-- the answer is the definition's
pub record CutoffIs (c : Settings) (n : ℕ) (ts : Table) (r : Cutoff) : Type 0 where
  pub cutoff : r.cutoff ≡ (get_cutoff c ts).cutoff
  pub adaptive : r.adaptive ≡ (get_cutoff c ts).adaptive
  pub best : BestIs n (best ts) r.best r.least
