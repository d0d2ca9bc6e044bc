-- What the steps of grouping leave.
use Rattle.std.specs.Prelude.{◌≡◌, ℕ, ◌+◌, ◌-◌, ◌*◌, ◌≤◌, ◌<◌, Bool, false, not, cond, List, [], eqb, ℤ, length, get_or, take, set, Float}
use Rattle.lists.specs.Lists.{keep_if, firsts}
use Rattle.tokens.specs.Layout.{held_at, place_in}
use Rattle.records.specs.History.{History}
use Rattle.records.specs.Layout.{store}
use Rattle.records.specs.Stands.{Stands}
use Rattle.joins.specs.Walk.{Chains}
use Rattle.histories.specs.Reading.{same_reading, KeyIs}
use Rattle.groups.specs.Places.{Repeats}

-- the newest record of a state's token
abbrev pub link_at : List ℕ → (side s : ℕ) → ℕ
link_at tk b s = held_at tk (place_in b s) - 1

-- no state has this number
abbrev pub dropped : ℕ
dropped = 4_294_967_295

-- a state whose token has a record of the store, or none
pub record StateAsks (tk : List ℕ) (b used s : ℕ) : Type 0 where
  pub inside : s * 8 + 8 ≤ length tk
  pub low : link_at tk b s ≤ used
  pub named : eqb s dropped ≡ false

pub record StatesAsk (tk rs : List ℕ) (ls : List ℤ) (b used : ℕ) (order : List ℕ) (n : ℕ) : Type 0 where
  pub side : b ≤ 1
  pub chains : Chains rs ls used
  pub long : n ≤ length order
  pub few : n < 4_294_967_296
  pub each : (i : ℕ) → i < n → StateAsks tk b used (get_or order i 0)

-- the tokens of two states read the same
abbrev pub same_states : (ℕ → History) → List ℕ → (side : ℕ) → (to_join_lem : Bool) → (s t : ℕ) → Bool
same_states h tk b to_join_lem s t = same_reading to_join_lem (h (link_at tk b s)) (h (link_at tk b t))

-- the same of the states in two places
abbrev pub same_places : (ℕ → History) → List ℕ → (side : ℕ) → (to_join_lem : Bool) → List ℕ → (p q : ℕ) → Bool
same_places h tk b to_join_lem order p q = same_states h tk b to_join_lem (get_or order p 0) (get_or order q 0)

-- each place with the key of its token's reading
pub record KeysFilled (tk rs : List ℕ) (ls : List ℤ) (b used : ℕ) (to_join_lem : Bool) (order : List ℕ) (n : ℕ) (ks ps : List ℕ) : Type 0 where
  pub keys : (i : ℕ) → i < n → KeyIs rs ls used (link_at tk b (get_or order i 0)) to_join_lem (get_or ks i 0)
  pub places : (i : ℕ) → i < n → get_or ps i 0 ≡ i

pub record RepeatsAsk (tk rs : List ℕ) (ls : List ℤ) (b used : ℕ) (order ks ps : List ℕ) (j : ℕ) : Type 0 where
  pub side : b ≤ 1
  pub chains : Chains rs ls used
  pub keys_long : j < length ks
  pub places_long : j < length ps
  pub inside : (i : ℕ) → i ≤ j → get_or ps i 0 < length order
  pub each : (i : ℕ) → i ≤ j → StateAsks tk b used (get_or order (get_or ps i 0) 0)

pub record RepeatsIs (tk rs : List ℕ) (ls : List ℤ) (b used : ℕ) (to_join_lem : Bool) (order ks ps : List ℕ) (j : ℕ) (r : Bool) : Type 0 where
  pub is : (gs : List Float) (h : ℕ → History) → Stands (store rs ls gs) used h → Repeats (same_places h tk b to_join_lem order) ks ps j r

pub record DropsAsk (tk rs : List ℕ) (ls : List ℤ) (b used : ℕ) (order : List ℕ) (n : ℕ) (ks ps : List ℕ) : Type 0 where
  pub side : b ≤ 1
  pub chains : Chains rs ls used
  pub keys_long : n ≤ length ks
  pub places_long : n ≤ length ps
  pub inside : (i : ℕ) → i < n → get_or ps i 0 < length order
  pub apart : (i j : ℕ) → i < j → j < n → get_or ps i 0 ≡ get_or ps j 0 → ⊥
  pub each : (i : ℕ) → i < n → StateAsks tk b used (get_or order (get_or ps i 0) 0)

-- what the j-th of the sorted places holds then, by the answer on it
pub record DroppedAt (tk rs : List ℕ) (ls : List ℤ) (b used : ℕ) (to_join_lem : Bool) (order order' ks ps : List ℕ) (j : ℕ) : Type 0 where
  pub r : Bool
  pub repeats : RepeatsIs tk rs ls b used to_join_lem order ks ps j r
  pub is : get_or order' (get_or ps j 0) 0 ≡ cond r dropped (get_or order (get_or ps j 0) 0)

pub record Dropped (tk rs : List ℕ) (ls : List ℤ) (b used : ℕ) (to_join_lem : Bool) (order order' : List ℕ) (n : ℕ) (ks ps : List ℕ) : Type 0 where
  pub each : (j : ℕ) → j < n → DroppedAt tk rs ls b used to_join_lem order order' ks ps j

-- one state more, unless it was dropped
pub data KeptAt (order order' : List ℕ) (m s r : ℕ) : Type 0 where
  not_kept : s ≡ dropped → order' ≡ order → r ≡ m → KeptAt order order' m s r
  is_kept : (s ≡ dropped → ⊥) → order' ≡ set order m s → r ≡ m + 1 → KeptAt order order' m s r

pub record ClosedUp (order order' : List ℕ) (n m : ℕ) : Type 0 where
  pub few : m ≤ n
  pub is : take m order' ≡ keep_if (λ s. not (eqb s dropped)) (take n order)

-- the first of each class, in their order
pub record FirstsIs (tk rs : List ℕ) (ls : List ℤ) (b used : ℕ) (to_join_lem : Bool) (order order' : List ℕ) (n m : ℕ) : Type 0 where
  pub few : m ≤ n
  pub is : (gs : List Float) (h : ℕ → History) → Stands (store rs ls gs) used h → take m order' ≡ firsts (same_states h tk b to_join_lem) [] (take n order)
