-- The joins of an entry's route, over the entries' numbers alone, and what they stand for. Assumes nothing.
use Rattle.std.specs.Prelude.{◌≡◌, length, set, take, Float}
use Rattle.std.proofs.Math.Path.{refl, ap}
use Rattle.std.proofs.Common.{sym, ◌∙◌, subst, arith, add-one, length-append, length-set, length-take-le, take-suc-set}
use Prim.Native.Nat.{ℕ, zero, suc, ◌+◌, ◌-◌, ◌*◌, ◌≤◌, ◌<◌}
use mathlib.Core.List.Memᴰ.{head as here}
use mathlib.Core.List.Memᴰ.{tail as there}
use mathlib.Core.List.{List, [], ◌∷◌, ◌++◌, append-nil, append_assoc}
use Rattle.std.proofs.lemmas.List.{length-map}
use Rattle.lists.specs.Lists.{◌∈◌}
use Rattle.model.specs.Readings.{Below}
use Rattle.records.specs.History.{History}
use Rattle.traceback.specs.Traced.{numbers_of, Routed}
use Rattle.below.specs.Stored.{via, stands_for, Decoded}
use Rattle.routes.specs.Entries.{join_then, goes_to, join_in, joins_by, joins_of, RouteAsks, RouteIs, JoinPut, no_join, a_join}

then_none : (j : ℕ) (js : List ℕ) → j ≡ 0 → join_then j js ≡ js
then_none zero js e = refl
then_none (suc j) js e = absurd (omega arith)

then_one : (j : ℕ) (js : List ℕ) → 0 < j → join_then j js ≡ j ∷ js
then_one zero js l = absurd (omega arith)
then_one (suc j) js l = refl

module _ (ns : List ℕ) (m : ℕ) (falls : (i : ℕ) → i < m → goes_to ns i ≤ i) where
  -- any two fuels that suffice
  enough : (f g e : ℕ) → e ≤ f → e ≤ g → e ≤ m → joins_by ns f e ≡ joins_by ns g e
  unfolding joins_by
  enough zero zero e a b c = refl
  enough zero (suc g) zero a b c = refl
  enough (suc f) zero zero a b c = refl
  enough (suc f) (suc g) zero a b c = refl
  enough zero (suc g) (suc i) a b c = absurd (omega arith)
  enough (suc f) zero (suc i) a b c = absurd (omega arith)
  enough (suc f) (suc g) (suc i) a b c =
      let l = falls i (omega arith) in
      ap (join_then (join_in ns i)) (enough f g (goes_to ns i) (omega arith) (omega arith) (omega arith))

  -- entry number i + 1
  pub joins_next : (e i : ℕ) → e ≡ suc i → i < m → joins_of ns e ≡ join_then (join_in ns i) (joins_of ns (goes_to ns i))
  unfolding joins_by
  joins_next e i q l =
      let z = falls i l in
      rw q (ap (join_then (join_in ns i)) (enough i (goes_to ns i) (goes_to ns i) z (omega arith) (omega arith)))

-- ---- what they stand for

module _ {h : ℕ → History} {used : ℕ} {hs ns : List ℕ} {xs : List Float} {bs : List Below} (d : Decoded h used hs ns xs bs) where
  numbers_via : (j : ℕ) (js : List ℕ) → numbers_of h (join_then j js) ≡ via h j ++ numbers_of h js
  numbers_via zero js = refl
  numbers_via (suc j) js = refl

  numbers_by : (f e : ℕ) → e ≤ f → e ≤ length bs → numbers_of h (joins_by ns f e) ≡ (stands_for bs e).route
  unfolding joins_by
  numbers_by zero zero a b = refl
  numbers_by (suc f) zero a b = refl
  numbers_by zero (suc i) a b = absurd (omega arith)
  numbers_by (suc f) (suc i) a b =
      let l = d.next_low i (omega arith) in
      numbers_via (join_in ns i) (joins_by ns f (goes_to ns i)) ∙ ap (λ (l : List ℕ). via h (join_in ns i) ++ l) (numbers_by f (goes_to ns i) (omega arith) (omega arith)) ∙ ap (λ (x : Below). x.route) (sym (d.is i (omega arith)))

  pub numbers_are : (e : ℕ) → e ≤ length bs → numbers_of h (joins_of ns e) ≡ (stands_for bs e).route
  numbers_are e l = numbers_by e e (omega arith) l

  routed_then : (j : ℕ) (js : List ℕ) → j ≤ used → Routed used js → Routed used (join_then j js)
  routed_then zero js l r = r
  routed_then (suc j) js l r = go
    where
      go : (k : ℕ) → k ∈ (suc j ∷ js) → (0 < k) × (k ≤ used)
      go k (here e) = (omega arith, omega arith)
      go k (there m) = r k m

  routed_by : (f e : ℕ) → e ≤ f → e ≤ length bs → Routed used (joins_by ns f e)
  unfolding joins_by
  routed_by zero e a b = λ k m. elim m [ ]
  routed_by (suc f) zero a b = λ k m. elim m [ ]
  routed_by (suc f) (suc i) a b =
      let l = d.next_low i (omega arith) in
      routed_then (join_in ns i) (joins_by ns f (goes_to ns i)) (d.join_low i (omega arith)) (routed_by f (goes_to ns i) (omega arith) (omega arith))

  pub joins_routed : (e : ℕ) → e ≤ length bs → Routed used (joins_of ns e)
  joins_routed e l = routed_by e e (omega arith) l

-- the length of a route
pub route_long : {h : ℕ → History} {used : ℕ} {hs ns : List ℕ} {xs : List Float} {bs : List Below} {entry n : ℕ} {route : List ℕ} → RouteIs ns entry route n → Decoded h used hs ns xs bs → entry ≤ length bs → n ≡ length (stands_for bs entry).route
route_long {h} {n = n} {route = route} i d l = sym (ap length (sym (i.is d l)) ∙ length-map (take n route) _ ∙ length-take-le n route i.few)

-- ---- the walk

-- the first n are passed, and those from entry e on are left
pub record Routing (ns : List ℕ) (entry : ℕ) (route route' : List ℕ) (n e : ℕ) : Type 0 where
  pub low : e ≤ entry
  pub few : n ≤ length route'
  pub is : take n route' ++ joins_of ns e ≡ joins_of ns entry
  pub long : length route' ≡ length route

pub routing_none : {ns : List ℕ} {entry : ℕ} {route : List ℕ} → Routing ns entry route route 0 entry
routing_none = record { low = omega arith; few = omega arith; is = refl; long = refl }

module _ {ns : List ℕ} {entry : ℕ} {route : List ℕ} (ask : RouteAsks ns entry route) {route' : List ℕ} {n e : ℕ} (i : Routing ns entry route route' n e) (some : e ≡ 0 → ⊥) where
  pub entry_low : (e - 1) * 3 + 3 ≤ length ns
  entry_low = let a = i.low in let b = ask.low in let c = ask.nexts in omega arith

  pub goes_low : goes_to ns (e - 1) < e
  goes_low = let a = i.low in let b = ask.low in let c = ask.decoded.next_low (e - 1) (omega arith) in omega arith

  ahead : joins_of ns e ≡ join_then (join_in ns (e - 1)) (joins_of ns (goes_to ns (e - 1)))
  ahead = let a = i.low in let b = ask.low in joins_next ns (length ask.bs) ask.decoded.next_low e (e - 1) (omega arith) (omega arith)

  all_long : n + length (joins_of ns e) ≤ length route'
  all_long =
      let a = ask.room in
      let b = ap length (numbers_are ask.decoded entry ask.low) in
      let c : length (numbers_of ask.h (joins_of ns entry)) ≡ length (joins_of ns entry) = length-map (joins_of ns entry) _ in
      let d = ap length i.is in
      let f = length-append (take n route') (joins_of ns e) in
      let g = length-take-le n route' i.few in
      let k = i.long in
      omega arith

  pub place_free : 0 < join_in ns (e - 1) → n < length route'
  place_free l =
      let a = all_long in
      let b = ap length (ahead ∙ then_one (join_in ns (e - 1)) (joins_of ns (goes_to ns (e - 1))) l) in
      omega arith

  pub routing_next : {route'' : List ℕ} {n' : ℕ} → JoinPut route' route'' n (join_in ns (e - 1)) n' → Routing ns entry route route'' n' (goes_to ns (e - 1))
  routing_next (no_join z a b) =
      let js = joins_of ns (goes_to ns (e - 1)) in
      rw (a, b) (record {
        low = let x = goes_low in let y = i.low in omega arith;
        few = i.few;
        is = ap (λ (l : List ℕ). take n route' ++ l) (sym (ahead ∙ then_none (join_in ns (e - 1)) js z)) ∙ i.is;
        long = i.long;
      })
  routing_next (a_join z a b) =
      let j = join_in ns (e - 1) in
      let js = joins_of ns (goes_to ns (e - 1)) in
      let free = place_free z in
      rw (a, b) (record {
        low = let x = goes_low in let y = i.low in omega arith;
        few = let x = length-set route' n j in omega arith;
        is = ap (λ (k : ℕ). take k (set route' n j) ++ js) (add-one n) ∙ ap (λ (l : List ℕ). l ++ js) (take-suc-set route' n j free) ∙ append_assoc (take n route') (j ∷ []) js
            ∙ ap (λ (l : List ℕ). take n route' ++ l) (sym (ahead ∙ then_one j js z)) ∙ i.is;
        long = length-set route' n j ∙ i.long;
      })

pub routing_end : {ns : List ℕ} {entry : ℕ} {route route' : List ℕ} {n e : ℕ} → e ≡ 0 → Routing ns entry route route' n e → RouteIs ns entry route' n
unfolding joins_by
routing_end {ns} {entry} {route' = route'} {n = n} z i =
    let q : take n route' ≡ joins_of ns entry = sym (append-nil (take n route')) ∙ (rw z at i.is) in
    record { few = i.few; joins = q; is = λ {h} d l. ap (numbers_of h) q ∙ numbers_are d entry l; routed = λ {h} {used} d l. subst (Routed used) (sym q) (joins_routed d entry l) }
