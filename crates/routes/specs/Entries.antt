-- The route of an entry: the joins that it and those that it goes on with name.
use Rattle.std.specs.Prelude.{◌≡◌, ℕ, zero, suc, ◌+◌, ◌*◌, ◌≤◌, ◌<◌, List, [], ◌∷◌, length, get_or, set, take, Float}
use Rattle.model.specs.Readings.{Below}
use Rattle.records.specs.History.{History}
use Rattle.traceback.specs.Traced.{numbers_of, Routed}
use Rattle.below.specs.Stored.{stands_for, Decoded}

-- a join (0 for none) in front
abbrev pub join_then : (join : ℕ) → List ℕ → List ℕ
join_then zero js = js
join_then (suc j) js = suc j ∷ js

-- of the entry in place i, the one it goes on with, and its join
abbrev pub goes_to : List ℕ → ℕ → ℕ
goes_to ns i = get_or ns (i * 3 + 1) 0

abbrev pub join_in : List ℕ → ℕ → ℕ
join_in ns i = get_or ns (i * 3 + 2) 0

unfoldable pub joins_by : List ℕ → (fuel e : ℕ) → List ℕ
joins_by ns zero e = []
joins_by ns (suc f) zero = []
joins_by ns (suc f) (suc i) = join_then (join_in ns i) (joins_by ns f (goes_to ns i))

-- from entry number e on: numbers fall
abbrev pub joins_of : List ℕ → (e : ℕ) → List ℕ
joins_of ns e = joins_by ns e e

pub record RouteAsks (ns : List ℕ) (entry : ℕ) (route : List ℕ) : Type 0 where
  pub h : ℕ → History
  pub used : ℕ
  pub hs : List ℕ
  pub xs : List Float
  pub bs : List Below
  pub decoded : Decoded h used hs ns xs bs
  pub low : entry ≤ length bs
  pub nexts : length bs * 3 ≤ length ns
  pub room : length (stands_for bs entry).route ≤ length route

-- the first n are the entry's joins, which are its route whatever the entries stand for
pub record RouteIs (ns : List ℕ) (entry : ℕ) (route : List ℕ) (n : ℕ) : Type 0 where
  pub few : n ≤ length route
  pub joins : take n route ≡ joins_of ns entry
  pub is : {h : ℕ → History} {used : ℕ} {hs : List ℕ} {xs : List Float} {bs : List Below} → Decoded h used hs ns xs bs → entry ≤ length bs → numbers_of h (take n route) ≡ (stands_for bs entry).route
  pub routed : {h : ℕ → History} {used : ℕ} {hs : List ℕ} {xs : List Float} {bs : List Below} → Decoded h used hs ns xs bs → entry ≤ length bs → Routed used (take n route)

pub data JoinPut (route route' : List ℕ) (n join r : ℕ) : Type 0 where
  no_join : join ≡ 0 → r ≡ n → route' ≡ route → JoinPut route route' n join r
  a_join : 0 < join → r ≡ n + 1 → route' ≡ set route n join → JoinPut route route' n join r
