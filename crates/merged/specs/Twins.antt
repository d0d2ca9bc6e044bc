-- The own group that reads the same words as a kept reading. Assumes nothing.
use Rattle.std.specs.Prelude.{◌≡◌, ℕ, ◌+◌, ◌*◌, ◌≤◌, ◌<◌, Bool, true, false, List, [], ℤ, length, get_or, Option, Some, None, IfSome, IfNone}
use Rattle.std.proofs.Common.{sym, ap, ◌∙◌, subst, arith}
use Rattle.lists.specs.Tests.{case, either, lt_or_le, eq_or_not}
use Rattle.model.specs.Path.{same_words}
use Rattle.model.specs.Ints.{same_words_true}
use Rattle.model.specs.Hash.{hash_words}
use Rattle.traceback.specs.Chain.{Walkable}
use Rattle.groups.specs.Firsts.{link_at}
use Rattle.routes.specs.Back.{back_along}
use Rattle.kept_readings.specs.declared.KeptReading.{KeptReading}
use Rattle.merged.specs.Bound.{Ascends, LowerBound}

-- the words of a state's token, newest first
abbrev pub own_words : List ℕ → List ℤ → List ℕ → (side s : ℕ) → List ℤ
own_words rs ls tk b s = back_along rs ls [] (link_at tk b s)

-- a state whose token has a record of the store, or none
pub record TokenAsks (tk : List ℕ) (b used s : ℕ) : Type 0 where
  pub inside : s * 8 + 8 ≤ length tk
  pub low : link_at tk b s ≤ used

pub record SameAsks (tk rs : List ℕ) (ls : List ℤ) (b used s link : ℕ) : Type 0 where
  pub side : b ≤ 1
  pub walk : Walkable rs ls used
  pub token : TokenAsks tk b used s
  pub low : link ≤ used

-- a place is among these
pub record PlacedIn (ps : List ℕ) (m p : ℕ) : Type 0 where
  pub at : ℕ
  pub few : at < m
  pub is : get_or ps at 0 ≡ p

-- the places of the first m by the hash of their words
pub record HashesSorted (words : ℕ → List ℤ) (m : ℕ) (ks ps : List ℕ) : Type 0 where
  pub keys : Ascends ks m
  pub places_long : m ≤ length ps
  pub inside : (i : ℕ) → i < m → get_or ps i 0 < m
  pub every : (p : ℕ) → p < m → PlacedIn ps m p
  pub hashes : (i : ℕ) → i < m → get_or ks i 0 ≡ hash_words (words (get_or ps i 0))

abbrev pub words_in : List ℕ → List ℤ → List ℕ → (side : ℕ) → (own : List ℕ) → (p : ℕ) → List ℤ
words_in rs ls tk b own p = own_words rs ls tk b (get_or own p 0)

pub record TwinAsks (tk rs : List ℕ) (ls : List ℤ) (b used : ℕ) (own : List ℕ) (m : ℕ) (ks ps : List ℕ) (k : KeptReading) (route : List ℕ) : Type 0 where
  pub side : b ≤ 1
  pub walk : Walkable rs ls used
  pub own_long : m ≤ length own
  pub few : m < 4_294_967_296
  pub owns : (p : ℕ) → p < m → TokenAsks tk b used (get_or own p 0)
  pub kept : TokenAsks tk b used k.state
  pub sorted : HashesSorted (words_in rs ls tk b own) m ks ps
  pub hash : k.hash ≡ hash_words (back_along rs ls route (link_at tk b k.state))

-- the place of the one with these words
pub record TwinIs (words : ℕ → List ℤ) (m : ℕ) (ws : List ℤ) (r : Option ℕ) : Type 0 where
  pub same : IfSome r (λ p. (p < m) × (same_words ws (words p) ≡ true))
  pub none : IfNone r ((p : ℕ) → p < m → same_words ws (words p) ≡ false)

module _ (words : ℕ → List ℤ) (m : ℕ) (ks ps : List ℕ) (ws : List ℤ) where
  -- before the i-th of the sorted places there is none
  pub record NoTwinTo (i : ℕ) : Type 0 where
    pub few : i ≤ m
    pub none : (q : ℕ) → q < i → same_words ws (words (get_or ps q 0)) ≡ false
    pub above : (q : ℕ) → i ≤ q → q < m → hash_words ws ≤ get_or ks q 0

  module _ (S : HashesSorted words m ks ps) where
    other_hash : (q : ℕ) → q < m → (get_or ks q 0 ≡ hash_words ws → ⊥) → same_words ws (words (get_or ps q 0)) ≡ false
    other_hash q l d = case (either (same_words ws (words (get_or ps q 0)))) (λ t. absurd (d (S.hashes q l ∙ ap hash_words (sym (same_words_true ws (words (get_or ps q 0)) t))))) (λ t. t)

    pub twins_begun : {x i : ℕ} → x ≡ hash_words ws → LowerBound ks m x i → NoTwinTo i
    twins_begun e L = record { few = L.few; none = λ q l. let z = L.below q l in let y = L.few in other_hash q (omega arith) (λ d. omega arith); above = λ q l u. let z = L.above q l u in omega arith }

    twin_none : {i : ℕ} → NoTwinTo i → ((q : ℕ) → i ≤ q → q < m → same_words ws (words (get_or ps q 0)) ≡ false) → TwinIs words m ws None
    twin_none {i} N f =
        record {
          same = tt;
          none = λ p l. let P = S.every p l in subst (λ (k : ℕ). same_words ws (words k) ≡ false) P.is (case (lt_or_le P.at i) (N.none P.at) (λ u. f P.at u P.few));
        }

    pub twin_ended : {i : ℕ} → NoTwinTo i → m ≤ i → TwinIs words m ws None
    twin_ended N u = twin_none N (λ q l v. absurd (omega arith))

    pub twin_past : {i x : ℕ} → NoTwinTo i → i < m → x ≡ hash_words ws → (get_or ks i 0 ≡ x → ⊥) → TwinIs words m ws None
    twin_past {i} N l e d = twin_none N (λ q u v. let z = S.keys.sorted i q u v in let y = N.above i (omega arith) l in other_hash q v (λ w. d (omega arith)))

    pub twin_found : {i : ℕ} → i < m → {r : Bool} → r ≡ same_words ws (words (get_or ps i 0)) → r ≡ true → TwinIs words m ws (Some (get_or ps i 0))
    twin_found {i} l e t = record { same = (S.inside i l, sym e ∙ t); none = tt }

    pub twins_next : {i : ℕ} → NoTwinTo i → i < m → {r : Bool} → r ≡ same_words ws (words (get_or ps i 0)) → r ≡ false → NoTwinTo (i + 1)
    twins_next {i} N l e t = record { few = omega arith; none = λ q u. case (eq_or_not q i) (λ z. ap (λ (k : ℕ). same_words ws (words (get_or ps k 0))) z ∙ sym e ∙ t) (λ z. N.none q (omega arith)); above = λ q u v. N.above q (omega arith) v }
