-- A walk over the active states of a table, in ascending order.
use Rattle.std.specs.Prelude.{◌≡◌, ℕ, ◌+◌, ◌*◌, ◌≤◌, ◌<◌, List, length, Option, Some, None, MatchOption}
use Rattle.std.proofs.Common.{ap, ◌∙◌, arith}
use Rattle.tokens.specs.declared.ActiveStates.{ActiveStates}
use Rattle.tokens.specs.Layout.{NextActive}

-- the table is there
abbrev pub Walks : ActiveStates → Type 0
Walks a = (a.side ≤ 1) × (a.next ≤ a.states) × (a.states * 8 ≤ length a.tokens.now)

-- past one more state
abbrev pub past : ActiveStates → ℕ → ActiveStates
past a s = record { tokens = a.tokens; side = a.side; states = a.states; next = s + 1 }

-- the next active state comes, or none is left
abbrev pub StepsTo : ActiveStates → Option ℕ → ActiveStates → Type 0
StepsTo a r b = MatchOption r (NextActive a.tokens.now a.side a.next a.states a.states × (b ≡ a)) (λ s. NextActive a.tokens.now a.side a.next a.states s × (s < a.states) × (b ≡ past a s))

-- it goes over n states of this table
pub record Over (tk : List ℕ) (b n : ℕ) (a : ActiveStates) : Type 0 where
  pub table : a.tokens.now ≡ tk
  pub side : a.side ≡ b
  pub states : a.states ≡ n
  pub can : Walks a

-- ---- one step of a walk, for those who walk

module _ {tk : List ℕ} {b n : ℕ} {a a' : ActiveStates} (o : Over tk b n a) where
  pub last_step : StepsTo a None a' → NextActive tk b a.next n n
  last_step r = rw (o.table, o.side, o.states) at r.0

  module _ {s : ℕ} (r : StepsTo a (Some s) a') where
    pub next_step : NextActive tk b a.next n s
    next_step = rw (o.table, o.side, o.states) at r.0

    pub step_low : s < n
    step_low = rw o.states at r.1

    pub over_next : Over tk b n a'
    over_next =
        record {
          table = ap (λ (x : ActiveStates). x.tokens.now) r.2 ∙ o.table;
          side = ap (λ (x : ActiveStates). x.side) r.2 ∙ o.side;
          states = ap (λ (x : ActiveStates). x.states) r.2 ∙ o.states;
          can = rw r.2 (o.can.0, omega (arith, r.1), o.can.2);
        }

pub next_is : {a a' : ActiveStates} {s : ℕ} → StepsTo a (Some s) a' → a'.next ≡ s + 1
next_is r = ap (λ (x : ActiveStates). x.next) r.2
