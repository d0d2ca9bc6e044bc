-- What the counts and the least costs of a token table are, and the walk that finds them. Assumes nothing.
use Rattle.std.specs.Prelude.{◌≡◌, ℕ, suc, ◌+◌, ◌≤◌, ◌<◌, Bool, true, false, not, ◌&&◌, cond, List, [], ◌∷◌, drop, Float}
use Rattle.std.proofs.Common.{sym, ◌∙◌, arith, add-one, drop_of_length-le, drop-cons}
use Rattle.std.proofs.Math.Path.{ap}
use Rattle.std.proofs.Math.Option.{none, some}
use Rattle.std.specs.Float.Ieee.Scale.{finite}
use Rattle.model.specs.Graph.{Graph}
use Rattle.model.specs.Path.{Token, Table}
use Rattle.model.specs.Passes.{State}
use Rattle.model.specs.Basics.{∞, ◌⊖◌}
use Rattle.model.specs.Reads.{use_finals, least_from, final_relative_cost, num_active}
use Rattle.tokens.specs.declared.Token.{Token as Stored}
use Rattle.tokens.specs.Layout.{cell_at, cell_of, held_at, place_in, NextActive}
use Rattle.records.specs.History.{History}
use Rattle.stores.specs.Shown.{TokenIs, Shown}
use Rattle.stores.specs.Tables.{active_at, skip_to}
use Rattle.traceback.specs.declared.Leasts.{Leasts}

-- what is said of every state whose table these stores show, whatever the records stand for
abbrev pub ForShown : List ℕ → List Float → (side n : ℕ) → (State → Type 0) → Type 0
ForShown tk sm b n P = (h : ℕ → History) (used : ℕ) (st : State) → Shown h used tk sm b n st.table → P st

-- and of every graph with these final weights
abbrev pub ForGraph : List Float → (Graph → Type 0) → Type 0
ForGraph fs P = (g : Graph) → g.finals ≡ fs → P g

pub record Counted (tk : List ℕ) (b n r : ℕ) : Type 0 where
  pub is : (sm : List Float) → ForShown tk sm b n (λ st. r ≡ num_active st)

pub record FinalsCount (tk : List ℕ) (fs : List Float) (b n : ℕ) (use_final r : Bool) : Type 0 where
  pub is : (sm : List Float) → ForGraph fs (λ g. ForShown tk sm b n (λ st. r ≡ use_finals g st use_final))

pub record LeastsAre (tk : List ℕ) (sm fs : List Float) (b n : ℕ) (r : Leasts) : Type 0 where
  pub is : ForGraph fs (λ g. ForShown tk sm b n (λ st. (r.cost, r.ending) ≡ least_from g 0 st.table (∞, ∞)))

pub record RelativeIs (tk : List ℕ) (sm fs : List Float) (b n : ℕ) (r : Float) : Type 0 where
  pub is : ForGraph fs (λ g. ForShown tk sm b n (λ st. r ≡ final_relative_cost g st))

-- ---- a walk over the active states

-- At s, the next active state or the end: what `rest` makes of the states from s on is what is wanted of the table.
pub record Walking {A : Type 0} (tk : List ℕ) (sm : List Float) (b n s : ℕ) (rest : ℕ → Table → A) (whole : Table → A) : Type 0 where
  pub upto : s ≤ n
  pub active : s < n → held_at tk (place_in b s) ≡ 0 → ⊥
  pub is : (h : ℕ → History) (used : ℕ) (ts : Table) → Shown h used tk sm b n ts → rest s (drop s ts) ≡ whole ts

-- a state with no token is passed over
abbrev pub Skips : {A : Type 0} → (ℕ → Table → A) → Type 0
Skips f = (s : ℕ) (rest : Table) → f s (none ∷ rest) ≡ f (suc s) rest

module _ {A : Type 0} {tk : List ℕ} {sm : List Float} {b n : ℕ} where
  pub walk_start : {r : ℕ} (f : ℕ → Table → A) (whole : Table → A) → Skips f → ((ts : Table) → f 0 ts ≡ whole ts) → NextActive tk b 0 n r → Walking tk sm b n r f whole
  walk_start {r} f whole skips e a = record { upto = a.upto; active = a.active; is = λ h used ts w. sym (skip_to w f skips 0 r a) ∙ e ts }

  pub walk_turn : {s r : ℕ} (f g : ℕ → Table → A) (whole : Table → A) → Skips g → Walking tk sm b n s f whole → s < n
      → ((h : ℕ → History) (used : ℕ) (t : Token) (y : Stored) → cell_at tk sm (place_in b s) ≡ cell_of y → TokenIs h used y t → (rest : Table) → g (suc s) rest ≡ f s (some t ∷ rest))
      → NextActive tk b (s + 1) n r → Walking tk sm b n r g whole
  walk_turn {s} {r} f g whole skips w l step a = record { upto = a.upto; active = a.active; is = go }
    where
      go : (h : ℕ → History) (used : ℕ) (ts : Table) → Shown h used tk sm b n ts → g r (drop r ts) ≡ whole ts
      go h used ts x =
          let c = active_at x s l (w.active l) in
          let d : drop s ts ≡ some c.token ∷ drop (suc s) ts = drop-cons ts s none (let z = x.size in omega arith) ∙ ap (λ o. o ∷ drop (suc s) ts) c.at in
          sym (skip_to x g skips (s + 1) r a) ∙ ap (λ (i : ℕ). g i (drop i ts)) (add-one s) ∙ step h used c.token c.stored c.cell c.is (drop (suc s) ts) ∙ ap (f s) (sym d) ∙ w.is h used ts x

  pub walk_end : {s : ℕ} (f : ℕ → Table → A) (whole : Table → A) → Walking tk sm b n s f whole → n ≤ s → (h : ℕ → History) (used : ℕ) (ts : Table) → Shown h used tk sm b n ts → f s [] ≡ whole ts
  walk_end {s} f whole w l h used ts x = ap (f s) (sym (drop_of_length-le ts {i = s} (let z = x.size in omega arith))) ∙ w.is h used ts x

-- what is wanted, where s is the next active state
pub walk_here : {A : Type 0} {tk : List ℕ} {sm : List Float} {b n s : ℕ} (f : ℕ → Table → A) (whole : Table → A) → Walking tk sm b n s f whole → s < n → (h : ℕ → History) (used : ℕ) (ts : Table) → Shown h used tk sm b n ts
    → (t : Token) × (rest : Table) × (f s (some t ∷ rest) ≡ whole ts)
walk_here {s = s} f whole w l h used ts x =
    let c = active_at x s l (w.active l) in
    let d : drop s ts ≡ some c.token ∷ drop (suc s) ts = drop-cons ts s none (let z = x.size in omega arith) ∙ ap (λ o. o ∷ drop (suc s) ts) c.at in
    (c.token, drop (suc s) ts, ap (f s) (sym d) ∙ w.is h used ts x)

-- ---- the relative cost

abbrev pub relative_of : Float × Float → Float
relative_of b = cond (not (finite b.0) && not (finite b.1)) ∞ (b.1 ⊖ b.0)

module _ {tk : List ℕ} {sm fs : List Float} {b n : ℕ} (l : Leasts) (a : LeastsAre tk sm fs b n l) where
  relative_is : (r : Float) → r ≡ relative_of (l.cost, l.ending) → RelativeIs tk sm fs b n r
  unfolding final_relative_cost
  relative_is r e = record { is = λ g q h used st w. e ∙ ap relative_of (a.is g q h used st w) }

  pub relative_cost : finite l.cost ≡ true → RelativeIs tk sm fs b n (l.ending ⊖ l.cost)
  relative_cost e = relative_is (l.ending ⊖ l.cost) (rw e)

  pub relative_ending : finite l.cost ≡ false → finite l.ending ≡ true → RelativeIs tk sm fs b n (l.ending ⊖ l.cost)
  relative_ending e f = relative_is (l.ending ⊖ l.cost) (rw (e, f))

  pub relative_none : (r : Float) → r ≡ ∞ → finite l.cost ≡ false → finite l.ending ≡ false → RelativeIs tk sm fs b n r
  relative_none r q e f = relative_is r (rw (e, f) q)
