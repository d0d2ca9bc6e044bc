-- The tables after a token is put, after one is cleared, and walked from one active state to the next. Assumes nothing.
use Rattle.std.specs.Prelude.{◌≡◌, ◌⊎◌, ℕ, zero, suc, ◌+◌, ◌-◌, ◌≤◌, ◌<◌, List, ◌∷◌, set, drop, replicate, Float}
use Rattle.std.proofs.Math.Path.{refl, ap, subst}
use Rattle.std.proofs.Common.{sym, ◌∙◌, arith, length-set, get_or-set_same, get_or-set_other, drop-cons}
use Rattle.std.proofs.Math.Option.{Option, none, some}
use Rattle.std.proofs.Math.ListN.{get_or, length-replicate}
use Rattle.std.proofs.lemmas.List.{get_or-replicate}
use Rattle.lists.specs.Tests.{case, eq_or_not}
use Rattle.model.specs.Path.{Token, Table}
use Rattle.tokens.specs.declared.Token.{Token as Stored}
use Rattle.tokens.specs.Layout.{Cell, cell_at, cell_of, token_of, held_at, place_in, TokenPut, Cleared, NextActive}
use Rattle.records.specs.History.{History}
use Rattle.stores.specs.Shown.{TokenIs, Shows, shows_none, shows_token, Shown, sides_apart}

module _ {h : ℕ → History} {used : ℕ} {tk tk' : List ℕ} {sm sm' : List Float} {b n : ℕ} {ts : Table} where
  -- a table whose places are as they were
  pub shown_same : ((s : ℕ) → s < n → cell_at tk' sm' (place_in b s) ≡ cell_at tk sm (place_in b s)) → Shown h used tk sm b n ts → Shown h used tk' sm' b n ts
  shown_same e w = record { size = w.size; place = λ s l. subst (λ (c : Cell). Shows h used c (get_or ts s none)) (sym (e s l)) (w.place s l) }

  -- a token put at state s
  pub shown_put : {s : ℕ} {x : Stored} {t : Token} → s < n → TokenPut tk tk' sm sm' (place_in b s) x → TokenIs h used x t → Shown h used tk sm b n ts → Shown h used tk' sm' b n (set ts s (some t))
  shown_put {s} {x} {t} l p i w = record { size = length-set ts s (some t) ∙ w.size; place = λ r k. at r k (eq_or_not r s) }
    where
      at : (r : ℕ) → r < n → (r ≡ s) ⊎ (r ≡ s → ⊥) → Shows h used (cell_at tk' sm' (place_in b r)) (get_or (set ts s (some t)) r none)
      at r k d = case d (λ e. rw (e, get_or-set_same ts s (some t) none (let z = w.size in omega arith)) (shows_token x p.there i))
          (λ e. rw (p.elsewhere (place_in b r) (λ q. e (omega arith)), get_or-set_other ts s r (some t) none e) (w.place r k))

-- the other table, where a token was put in one
pub shown_aside : {h : ℕ → History} {used : ℕ} {tk tk' : List ℕ} {sm sm' : List Float} (b s : ℕ) {n : ℕ} {ts : Table} {x : Stored} → b ≤ 1 → TokenPut tk tk' sm sm' (place_in b s) x
    → Shown h used tk sm (1 - b) n ts → Shown h used tk' sm' (1 - b) n ts
shown_aside b s l p = shown_same (λ r k. p.elsewhere (place_in (1 - b) r) (sides_apart b r s l))

-- ---- one table cleared

module _ {h : ℕ → History} {used : ℕ} {tk tk' : List ℕ} {sm : List Float} {b n : ℕ} (c : Cleared tk tk' b n) where
  pub shown_cleared : Shown h used tk' sm b n (replicate n none)
  unfolding cell_at
  shown_cleared = record { size = length-replicate n none; place = λ s l. subst (Shows h used (cell_at tk' sm (place_in b s))) (sym (get_or-replicate n s none none l)) (shows_none (c.none s l)) }

  pub shown_uncleared : {ts : Table} → b ≤ 1 → Shown h used tk sm (1 - b) n ts → Shown h used tk' sm (1 - b) n ts
  shown_uncleared l = shown_same (λ s k. c.cells (place_in (1 - b) s) (λ r. sides_apart b s r l) sm)

-- ---- a walk over the active states

token_back : (y : Stored) → token_of (cell_of y) ≡ y
token_back y = let e : suc y.link - 1 ≡ y.link = omega arith in λ i. record { cost = y.cost; graph = y.graph; link = e i; phone = y.phone; seq = y.seq }

module _ {h : ℕ → History} {used : ℕ} {tk : List ℕ} {sm : List Float} {b n : ℕ} {ts : Table} (w : Shown h used tk sm b n ts) where
  -- a place that holds nothing, and one that holds something
  pub vacant_at : (s : ℕ) → s < n → held_at tk (place_in b s) ≡ 0 → get_or ts s none ≡ none
  unfolding cell_at
  vacant_at s l e = go (get_or ts s none) (w.place s l)
    where
      go : (o : Option Token) → Shows h used (cell_at tk sm (place_in b s)) o → o ≡ none
      go none x = refl
      go (some t) (shows_token y q i) = absurd (let z = ap (λ (c : Cell). c.held) q in omega arith)

  pub record Active (s : ℕ) : Type 0 where
    pub token : Token
    pub stored : Stored
    pub at : get_or ts s none ≡ some token
    pub cell : cell_at tk sm (place_in b s) ≡ cell_of stored
    pub is : TokenIs h used stored token

  pub active_at : (s : ℕ) → s < n → (held_at tk (place_in b s) ≡ 0 → ⊥) → Active s
  unfolding cell_at
  active_at s l d = go (get_or ts s none) refl (w.place s l)
    where
      go : (o : Option Token) → get_or ts s none ≡ o → Shows h used (cell_at tk sm (place_in b s)) o → Active s
      go none e (shows_none q) = absurd (d q)
      go (some t) e (shows_token y q i) = record { token = t; stored = y; at = e; cell = q; is = i }

  -- what is read there
  pub stored_is : {s : ℕ} (a : Active s) → token_of (cell_at tk sm (place_in b s)) ≡ a.stored
  stored_is a = ap token_of a.cell ∙ token_back a.stored

  module _ {A : Type 0} (f : ℕ → Table → A) (skips : (s : ℕ) (rest : Table) → f s (none ∷ rest) ≡ f (suc s) rest) where
    skip_by : (k s : ℕ) → s + k ≤ n → ((i : ℕ) → s ≤ i → i < s + k → held_at tk (place_in b i) ≡ 0) → f s (drop s ts) ≡ f (s + k) (drop (s + k) ts)
    skip_by zero s l z = ap (λ (i : ℕ). f i (drop i ts)) (omega arith)
    skip_by (suc k) s l z =
        let e : drop s ts ≡ none ∷ drop (suc s) ts = drop-cons ts s none (let z = w.size in omega arith) ∙ ap (λ (o : Option Token). o ∷ drop (suc s) ts) (vacant_at s (omega arith) (z s (omega arith) (omega arith))) in
        ap (f s) e ∙ skips s (drop (suc s) ts) ∙ skip_by k (suc s) (omega arith) (λ i a c. z i (omega arith) (omega arith)) ∙ ap (λ (i : ℕ). f i (drop i ts)) (omega arith)

    -- states that are not active are passed over
    pub skip_to : (s r : ℕ) → NextActive tk b s n r → f s (drop s ts) ≡ f r (drop r ts)
    skip_to s r x =
        let k = r - s in
        let a = x.from in
        let c = x.upto in
        skip_by k s (omega arith) (λ i g l. x.none i g (omega arith)) ∙ ap (λ (i : ℕ). f i (drop i ts)) (omega arith)
