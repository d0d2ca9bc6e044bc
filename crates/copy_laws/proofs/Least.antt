-- Where no cutoff drops anything, every path of the graph of as many frames ends in an active state, whose token costs no more. Assumes nothing.
use Rattle.std.specs.Prelude.{◌≡◌, ℕ, zero, suc, ◌<◌, Bool, true, false, not, cond, length, get_or, nat_abs, Float}
use Rattle.std.proofs.Math.Path.{refl, subst}
use Rattle.std.proofs.Common.{sym, ap, ◌∙◌, arith, lit<}
use Rattle.std.proofs.Math.Option.{Option, none, some}
use mathlib.Core.List.{List, [], ◌∷◌, ◌++◌}
use Rattle.std.proofs.Math.ListN.{length-append, get_or-eq_default}
use Rattle.std.proofs.Math.Dec.{T}
use Rattle.std.specs.Float.{binary32}
use Rattle.std.specs.Float.Ieee.Scale.{finite}
use Rattle.lists.specs.Tests.{case, lt_or_le, holds}
use Rattle.lists.specs.Lists.{◌∈◌, all}
use Rattle.lists.specs.Members.{at_member, all_each}
use Rattle.real32.specs.Sum.{add_le}
use Rattle.real32.specs.Small.{at_most_finite, at_most_neg, small, tame, tame_small, tame_finite, small-sub}
use Rattle.model.specs.Basics.{◌≺◌, ◌≼◌, ◌⊕◌, ◌⊖◌, 0f}
use Rattle.model.specs.Graph.{Graph, Arc, states, arcs_of, emits, pdf_of}
use Rattle.model.specs.Path.{Token, Table}
use Rattle.model.specs.Cutoff.{best, best_from}
use Rattle.model.specs.Arrive.{loglike}
use Rattle.model.specs.Passes.{offset_of}
use Rattle.model.specs.Checked.{GoodGraph}
use Rattle.copy_laws.specs.Walks.{Heard, Leads, emitted, emitting_total, sum_from, sum_of}
use Rattle.copy_laws.proofs.Walks.{leads_split, sum-append, emits_one, emits_none}
use Rattle.copy_laws.specs.Tables.{At}
use Rattle.copy_laws.specs.Within.{Within}
use Rattle.copy_laws.proofs.Within.{within_le}
use Rattle.copy_laws.specs.Closing.{Closed}
use Rattle.copy_laws.specs.Least.{Covered, LastEmitting, BestIs}

-- ---- epsilon arcs

module _ (g : Graph) (good : GoodGraph g) (ts : Table) (closed : Closed g ts) where
  pub epsilons_covered : (u : ℕ) (x : Float) (route : List Arc) (s : ℕ) → Leads g u route s → emitted route ≡ 0 → Within ts u x → Within ts s (sum_from g [] x route)
  unfolding sum_from
  epsilons_covered u x [] s l n p = subst (λ (i : ℕ). Within ts i x) l p
  epsilons_covered u x (a ∷ rest) s l n p = go (emits a) refl (λ y. epsilons_covered a.target y rest s l.1)
    where
      weight : T (finite a.weight)
      weight = tame_finite a.weight (holds (good.arc u a l.0).weight)

      go : (b : Bool) → emits a ≡ b → ((y : Float) → emitted rest ≡ 0 → Within ts a.target y → Within ts s (sum_from g [] y rest))
          → Within ts s (elim b as (λ c. Float) [ true ↦ sum_from g [] (emitting_total g (record { loglikes = []; offset = 0f }) x a) rest | false ↦ sum_from g [] (x ⊕ a.weight) rest ])
      go true e rec = absurd (let z = emits_one a rest e in omega arith)
      go false e rec =
          rec (x ⊕ a.weight) (let z = emits_none a rest e in omega arith)
          (within_le ts a.target (p.0.cost ⊕ a.weight) (x ⊕ a.weight) (closed u p.0 p.1 a l.0 (ap not e)) (add_le binary32 p.0.cost x a.weight weight p.2))

  -- of no frames
  pub start_covered : (g.start < states g → Within ts g.start 0f) → Covered g [] ts
  start_covered first route s w = epsilons_covered g.start 0f route s w.leads w.frames (first w.begins)

last_emitting : (route : List Arc) (n : ℕ) → emitted route ≡ suc n → LastEmitting route n
last_emitting [] n e = absurd (omega arith)
last_emitting (a ∷ route) n e = go (emits a) refl (emitted route) refl (last_emitting route) n e
  where
    more : (b : Bool) → emits a ≡ b → (n k : ℕ) → LastEmitting route k → cond b (suc k) k ≡ n → LastEmitting (a ∷ route) n
    more b q n k l e =
        record { before = a ∷ l.before; arc = l.arc; after = l.after; is = ap (λ (r : List Arc). a ∷ r) l.is; emit = l.emit; count = counted b q e; rest = l.rest }
      where
        counted : (b : Bool) → emits a ≡ b → cond b (suc k) k ≡ n → emitted (a ∷ l.before) ≡ n
        counted true q e = let z = emits_one a l.before q in let y = l.count in omega arith
        counted false q e = let z = emits_none a l.before q in let y = l.count in omega arith

    go : (b : Bool) → emits a ≡ b → (k : ℕ) → emitted route ≡ k → ((n : ℕ) → emitted route ≡ suc n → LastEmitting route n) → (n : ℕ) → emitted (a ∷ route) ≡ suc n → LastEmitting (a ∷ route) n
    go true q zero r rec n e = record { before = []; arc = a; after = route; is = refl; emit = q; count = let z = emits_one a route q in omega arith; rest = r }
    go true q (suc k) r rec n e = more true q n k (rec k r) (let z = emits_one a route q in omega arith)
    go false q zero r rec n e = absurd (let z = emits_none a route q in omega arith)
    go false q (suc k) r rec n e = more false q n k (rec k r) (let z = emits_none a route q in omega arith)

best_is : (P : Token → Type 0) (s : ℕ) (b : Option (ℕ × Token)) (ts : Table) → ((i : ℕ) (t : Token) → At ts i t → P t) → BestIs P b → BestIs P (best_from s b ts)
best_is P s none [] f k = tt
best_is P s (some b) [] f k = k
best_is P s none (none ∷ ts) f k = best_is P (suc s) none ts (λ i. f (suc i)) k
best_is P s (some b) (none ∷ ts) f k = best_is P (suc s) (some b) ts (λ i. f (suc i)) k
best_is P s none (some t ∷ ts) f k = best_is P (suc s) (some (s, t)) ts (λ i. f (suc i)) (f 0 t refl)
best_is P s (some b) (some t ∷ ts) f k = best_is P (suc s) (some (cond (t.cost ≺ b.1.cost) (s, t) b)) ts (λ i. f (suc i)) (pick (t.cost ≺ b.1.cost))
  where
    pick : (c : Bool) → P (cond c (s, t) b).1
    pick true = f 0 t refl
    pick false = k

offset_small : (ts : Table) → ((s : ℕ) (t : Token) → At ts s t → tame t.cost ≡ true) → T (small 100 (offset_of (best ts)))
offset_small ts f = go (best ts) (best_is (λ t. tame t.cost ≡ true) 0 none ts f tt)
  where
    go : (b : Option (ℕ × Token)) → BestIs (λ t. tame t.cost ≡ true) b → T (small 100 (offset_of b))
    go none k = tt
    go (some b) k = at_most_neg _ b.1.cost (tame_small b.1.cost (holds k))

loglike_small : (g : Graph) (ls : List Float) (a : Arc) → all tame ls ≡ true → T (small 100 (loglike g ls a))
loglike_small g ls a e = go (nat_abs (pdf_of g a))
  where
    go : (i : ℕ) → T (small 100 (get_or ls i 0f))
    go i =
        case (lt_or_le i (length ls)) (λ h. tame_small (get_or ls i 0f) (holds (all_each tame ls e (get_or ls i 0f) (at_member ls i 0f h))))
        (λ h. subst (λ (x : Float). T (small 100 x)) (sym (get_or-eq_default ls 0f h)) tt)

difference_finite : (x y : Float) → T (small 100 x) → T (small 100 y) → T (finite (x ⊖ y))
difference_finite x y p q = at_most_finite _ (x ⊖ y) (small-sub binary32 100 x y (lit< tt) p q)

-- ---- one frame more

module _ (g : Graph) (good : GoodGraph g) (fs : List Heard) (ls : List Float) (us ts : Table) where
  abbrev now : Heard
  now = record { loglikes = ls; offset = offset_of (best us) }

  -- The table us covered the frames before; every emitting arc of an active state of it has reached its target in ts, which is closed under epsilon arcs.
  pub frame_covered : all tame ls ≡ true → ((s : ℕ) (t : Token) → At us s t → tame t.cost ≡ true) → Covered g fs us
      → ((s : ℕ) (t : Token) → At us s t → (a : Arc) → a ∈ arcs_of g s → emits a ≡ true → Within ts a.target (emitting_total g now t.cost a)) → Closed g ts → Covered g (fs ++ (now ∷ [])) ts
  unfolding sum_from
  frame_covered fine tames covered each closed route s w =
      subst (λ (r : List Arc). Within ts s (sum_of g (fs ++ (now ∷ [])) r)) (sym l.is)
      (subst (λ (x : Float). Within ts s x) (sym (sum-append g fs (now ∷ []) 0f l.before (l.arc ∷ l.after) l.count ∙ rw (l.emit, sum_from)))
      (epsilons_covered g good ts closed l.arc.target (emitting_total g now x l.arc) l.after s step.2.1 l.rest arrived))
    where
      l : LastEmitting route (length fs)
      l = last_emitting route (length fs) (w.frames ∙ (let z = length-append fs (now ∷ []) in omega arith))

      step : (u : ℕ) × Leads g g.start l.before u × Leads g u (l.arc ∷ l.after) s
      step = leads_split g g.start l.before (l.arc ∷ l.after) s (subst (λ (r : List Arc). Leads g g.start r s) l.is w.leads)

      u : ℕ
      u = step.0

      x : Float
      x = sum_of g fs l.before

      was : Within us u x
      was = covered l.before u (record { begins = w.begins; leads = step.1; frames = l.count })

      t : Token
      t = was.0

      a : Arc
      a = l.arc

      m : a ∈ arcs_of g u
      m = step.2.0

      lower : T (emitting_total g now t.cost a ≼ emitting_total g now x a)
      lower =
          let d = offset_of (best us) ⊖ loglike g ls a in
          add_le binary32 (t.cost ⊕ d) (x ⊕ d) a.weight (tame_finite a.weight (holds (good.arc u a m).weight))
          (add_le binary32 t.cost x d (difference_finite (offset_of (best us)) (loglike g ls a) (offset_small us tames) (loglike_small g ls a fine)) was.2)

      arrived : Within ts a.target (emitting_total g now x a)
      arrived = within_le ts a.target (emitting_total g now t.cost a) (emitting_total g now x a) (each u t was.1 a m l.emit) lower
