-- The states whose tokens count, ascending, and their keys, in the fronts of two lent lists. Assumes nothing.
use Rattle.std.specs.Prelude.{◌≡◌, refl, ℕ, zero, suc, ◌+◌, ◌-◌, ◌≤◌, ◌<◌, Bool, true, false, not, ◌&&◌, cond, List, [], ◌∷◌, ◌++◌, map, T, ltb, length, take, set, Float, Option, Some, None}
use Rattle.std.proofs.Common.{sym, ap, ap₂, ◌∙◌, arith, add-one, append-nil, take-suc-set, lt-ltb}
use mathlib.Core.List.Memᴰ
use mathlib.Core.List.Memᴰ.{head as here}
use mathlib.Core.List.Memᴰ.{tail as there}
use Rattle.std.proofs.lemmas.List.{map-append}
use Rattle.std.specs.Float.Ieee.{is_nan}
use Rattle.std.specs.Float.Ieee.Scale.{finite}
use Rattle.lists.specs.Lists.{◌∈◌}
use Rattle.lists.specs.Tests.{case}
use Rattle.tokens.specs.Layout.{cell_at, token_of, held_at, place_in, NextActive}
use Rattle.tokens.specs.declared.Token.{Token as Stored}
use Rattle.sorting.specs.Keyed.{Ascending}
use Rattle.traceback.specs.declared.Candidate.{Candidate}
use Rattle.model.specs.Basics.{◌⊕◌}
use Rattle.traceback.specs.Ranks.{weight_in, rank_in, candidate_of, candidate_at}
use Rattle.ranking.specs.Keys.{key_of}

-- ---- the numbers below s that pass a test, ascending

abbrev pub below : (ℕ → Bool) → ℕ → List ℕ
below p zero = []
below p (suc s) = below p s ++ cond (p s) (s ∷ []) []

one_from : (b : Bool) (i s : ℕ) → i ∈ cond b (s ∷ []) [] → (i ≡ s) × (b ≡ true)
one_from false i s x' = elim x' [ ]
one_from true i s (there x6) = elim x6 [ ]
one_from true i s (here e) = (e, refl)

module _ (p : ℕ → Bool) where
  pub below_from : (s i : ℕ) → i ∈ below p s → (i < s) × (p i ≡ true)
  below_from zero i m = elim m [ ]
  below_from (suc s) i m =
      case (Memᴰ.append_cases (below p s) m) (λ k. let (l, e) = below_from s i k in (omega arith, e)) (λ k. let (q, e) = one_from (p s) i s k in (omega arith, ap p q ∙ e))

  pub below_ascending : (s : ℕ) → Ascending (below p s)
  below_ascending zero = tt
  below_ascending (suc s) = go (below p s) (below_ascending s) (λ i m. (below_from s i m).0) (p s)
    where
      go : (is : List ℕ) → Ascending is → ((i : ℕ) → i ∈ is → i < s) → (b : Bool) → Ascending (is ++ cond b (s ∷ []) [])
      go [] a f true = (λ j m. elim m [ ], tt)
      go [] a f false = tt
      go (i ∷ is) a f b =
          (λ j m. case (Memᴰ.append_cases is m) (a.0 j) (λ k. let (e, t) = one_from b j s k in let l = f i (here refl) in omega arith), go is a.1 (λ j m. f j (there m)) b)

  skip_by : (k s : ℕ) → ((i : ℕ) → s ≤ i → i < s + k → p i ≡ false) → below p (s + k) ≡ below p s
  skip_by zero s f = let e : s + zero ≡ s = omega arith in ap (below p) e
  skip_by (suc k) s f =
      let e : s + suc k ≡ suc (s + k) = omega arith in
      ap (below p) e ∙ rw (f (s + k) (omega arith) (omega arith)) (append-nil (below p (s + k)) ∙ skip_by k s (λ i a l. f i a (omega arith)))

  -- numbers that do not pass add nothing
  pub below_skip : (s r : ℕ) → s ≤ r → ((i : ℕ) → s ≤ i → i < r → p i ≡ false) → below p r ≡ below p s
  below_skip s r l f =
      let e : r ≡ s + (r - s) = omega arith in
      ap (below p) e ∙ skip_by (r - s) s (λ i a k. f i a (omega arith))

-- ---- what a candidate adds

abbrev pub counted : Option Candidate → Bool
counted None = false
counted (Some c) = true

abbrev pub key_in : Option Candidate → List ℕ
key_in None = []
key_in (Some c) = key_of c ∷ []

abbrev pub state_among : Option Candidate → List ℕ
state_among None = []
state_among (Some c) = c.state ∷ []

pub record PutAsks (keys order : List ℕ) (n : ℕ) (best : Option Candidate) : Type 0 where
  pub keys_long : n < length keys
  pub order_long : n < length order
  pub known : (c : Candidate) → best ≡ Some c → T (not (is_nan c.rank))

pub record Put (keys keys' order order' : List ℕ) (n : ℕ) (best : Option Candidate) (r : ℕ) : Type 0 where
  pub few : r ≤ n + 1
  pub keys_are : take r keys' ≡ take n keys ++ key_in best
  pub order_are : take r order' ≡ take n order ++ state_among best

module _ {keys order : List ℕ} {n : ℕ} {best : Option Candidate} where
  pub put_nobody : best ≡ None → Put keys keys order order n best n
  put_nobody e = rw e record { few = omega arith; keys_are = sym (append-nil (take n keys)); order_are = sym (append-nil (take n order)) }

  pub put_token : (c : Candidate) (key : ℕ) → PutAsks keys order n best → best ≡ Some c → key ≡ key_of c → Put keys (set keys n key) order (set order n c.state) n best (n + 1)
  put_token c key a e q =
      rw (e, q, add-one n) record { few = omega arith; keys_are = take-suc-set keys n (key_of c) a.keys_long; order_are = take-suc-set order n c.state a.order_long }

-- ---- the states whose tokens count

-- whether a state has a token that counts
abbrev pub counts_in_place : List ℕ → (sm fs : List Float) → (side : ℕ) → (counts : Bool) → ℕ → Bool
counts_in_place tk sm fs b counts s = ltb 0 (held_at tk (place_in b s)) && counted (candidate_at tk sm fs b s counts)

abbrev pub key_or : Option Candidate → ℕ
key_or None = 0
key_or (Some c) = key_of c

-- the key of a state whose token counts
abbrev pub key_at : List ℕ → (sm fs : List Float) → (side : ℕ) → (counts : Bool) → ℕ → ℕ
key_at tk sm fs b counts s = key_or (candidate_at tk sm fs b s counts)

-- the states below s whose tokens count are the first m, with their keys
pub record Listed (tk : List ℕ) (sm fs : List Float) (b : ℕ) (counts : Bool) (s : ℕ) (keys order : List ℕ) (m : ℕ) : Type 0 where
  pub few : m ≤ s
  pub keys_are : take m keys ≡ map (key_at tk sm fs b counts) (below (counts_in_place tk sm fs b counts) s)
  pub order_are : take m order ≡ below (counts_in_place tk sm fs b counts) s

-- a candidate of a state is of that state
state_of_lem : (s : ℕ) (t : Stored) (w : Float) (counts : Bool) → state_among (candidate_of s t w counts) ≡ cond (counted (candidate_of s t w counts)) (s ∷ []) []
unfolding candidate_of
state_of_lem s t w counts = go (finite (t.cost ⊕ w)) (record { state = s; link = t.link; seq = t.seq; rank = rank_in (t.cost ⊕ w) t.graph w counts; cost = t.cost ⊕ w }) refl
  where
    go : (b : Bool) (c : Candidate) → c.state ≡ s → state_among (cond b (Some c) None) ≡ cond (counted (cond b (Some c) None)) (s ∷ []) []
    go true c e = ap (λ (i : ℕ). i ∷ []) e
    go false c e = refl

keys_of : (best : Option Candidate) (f : ℕ → ℕ) (s : ℕ) → f s ≡ key_or best → key_in best ≡ map f (cond (counted best) (s ∷ []) [])
keys_of None f s e = refl
keys_of (Some c) f s e = ap (λ (k : ℕ). k ∷ []) (sym e)

positive : (n : ℕ) → (n ≡ 0 → ⊥) → 0 < n
positive zero f = absurd (f refl)
positive (suc n) f = omega arith

-- of a state with a token
pub counts_active : (tk : List ℕ) (sm fs : List Float) (b : ℕ) (counts : Bool) (s : ℕ) → (held_at tk (place_in b s) ≡ 0 → ⊥) → counts_in_place tk sm fs b counts s ≡ counted (candidate_at tk sm fs b s counts)
counts_active tk sm fs b counts s d = ap (λ (x : Bool). x && counted (candidate_at tk sm fs b s counts)) (lt-ltb 0 (held_at tk (place_in b s)) (positive (held_at tk (place_in b s)) d))

module _ {tk : List ℕ} {sm fs : List Float} {b : ℕ} {counts : Bool} where
  pub listed_none : (keys order : List ℕ) → Listed tk sm fs b counts 0 keys order 0
  listed_none keys order = record { few = omega arith; keys_are = refl; order_are = refl }

  -- states with no token are passed over
  pub listed_skip : {s n r m : ℕ} {keys order : List ℕ} → NextActive tk b s n r → Listed tk sm fs b counts s keys order m → Listed tk sm fs b counts r keys order m
  listed_skip {s} {n} {r} {m} a l =
      let z = a.from in
      let f = l.few in
      let e : below (counts_in_place tk sm fs b counts) r ≡ below (counts_in_place tk sm fs b counts) s = below_skip (counts_in_place tk sm fs b counts) s r a.from (λ i g k. rw (a.none i g k)) in
      record { few = omega arith; keys_are = rw e l.keys_are; order_are = rw e l.order_are }

  -- a state with a token
  pub listed_put : {s m r : ℕ} {keys keys' order order' : List ℕ} {best : Option Candidate} → (held_at tk (place_in b s) ≡ 0 → ⊥) → best ≡ candidate_at tk sm fs b s counts
      → Listed tk sm fs b counts s keys order m → Put keys keys' order order' m best r → Listed tk sm fs b counts (s + 1) keys' order' r
  listed_put {s} {m} {r} {keys} {keys'} {order} {order'} {best} d e l p =
      rw (add-one s) record {
        few = let f = l.few in let g = p.few in omega arith;
        keys_are = p.keys_are ∙ ap₂ (λ (xs ys : List ℕ). xs ++ ys) l.keys_are (ap key_in e ∙ keys_of here_best key s refl ∙ ap (λ (x : Bool). map key (cond x (s ∷ []) [])) (sym (counts_active tk sm fs b counts s d))) ∙ sym (map-append key (below passes s) (cond (passes s) (s ∷ []) []));
        order_are = p.order_are ∙ ap₂ (λ (xs ys : List ℕ). xs ++ ys) l.order_are (ap state_among e ∙ state_of_lem s (token_of (cell_at tk sm (place_in b s))) (weight_in fs s counts) counts ∙ ap (λ (x : Bool). cond x (s ∷ []) []) (sym (counts_active tk sm fs b counts s d)));
      }
    where
      here_best : Option Candidate
      here_best = candidate_at tk sm fs b s counts

      key : ℕ → ℕ
      key = key_at tk sm fs b counts

      passes : ℕ → Bool
      passes = counts_in_place tk sm fs b counts
