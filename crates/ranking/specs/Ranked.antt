-- What the ranking asks and leaves: the states of the tokens that count, best first.
use Rattle.std.specs.Prelude.{◌≡◌, ℕ, ◌*◌, ◌≤◌, ◌<◌, Bool, not, cond, List, map, pos, T, length, get_or, take, Float, Some}
use Rattle.std.proofs.Math.Option.{Option, none, some}
use Rattle.std.specs.Float.Ieee.{is_nan}
use Rattle.lists.specs.Lists.{◌∈◌, sort_by}
use Rattle.model.specs.Basics.{0f}
use Rattle.model.specs.Graph.{Graph, final_weight}
use Rattle.model.specs.Path.{empty_path, Token, Table}
use Rattle.model.specs.Reads.{Ranked, rank_one, rank_from, sooner}
use Rattle.tokens.specs.Layout.{held_at, place_in}
use Rattle.records.specs.History.{History}
use Rattle.stores.specs.Shown.{Shown}
use Rattle.traceback.specs.declared.Candidate.{Candidate}
use Rattle.traceback.specs.Ranks.{candidate_at}

-- the token, where there is one
abbrev pub token_in : Option Token → Token
token_in none = record { cost = 0f; graph = 0f; path = empty_path; phone = pos 0; seq = 0 }
token_in (some t) = t

-- the token of an active state, ranked
abbrev pub ranked_at : Graph → (counts : Bool) → Table → ℕ → Ranked
ranked_at g counts ts s = rank_one counts (cond counts (final_weight g s) 0f) (token_in (get_or ts s none))

-- no token that counts has a NaN for its rank
pub record RankAsks (tk : List ℕ) (sm fs : List Float) (b n : ℕ) (counts : Bool) (keys order : List ℕ) : Type 0 where
  pub side : b ≤ 1
  pub tokens : n * 8 ≤ length tk
  pub sums : n * 4 ≤ length sm
  pub finals : n ≤ length fs
  pub keys_long : n ≤ length keys
  pub order_long : n ≤ length order
  pub known : (s : ℕ) → s < n → (held_at tk (place_in b s) ≡ 0 → ⊥) → (c : Candidate) → candidate_at tk sm fs b s counts ≡ Some c → T (not (is_nan c.rank))

pub record RankedIs (tk : List ℕ) (sm fs : List Float) (b n : ℕ) (counts : Bool) (order : List ℕ) (m : ℕ) : Type 0 where
  pub few : m ≤ n
  pub each : (s : ℕ) → s ∈ take m order → (s < n) × (held_at tk (place_in b s) ≡ 0 → ⊥)
  pub is : (g : Graph) → g.finals ≡ fs → (h : ℕ → History) (used : ℕ) (ts : Table) → Shown h used tk sm b n ts → map (ranked_at g counts ts) (take m order) ≡ sort_by sooner (rank_from g counts 0 ts)
