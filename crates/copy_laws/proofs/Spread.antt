-- The emitting pass where nothing is cut: every emitting arc of an active state leads to an active state that costs at most the arc's total. Assumes nothing.
use Rattle.std.specs.Prelude.{◌≡◌, ◌⊎◌, ℕ, suc, ◌<◌, true, false, List, [], ◌∷◌, ◌++◌, length, get_or, Float}
use Rattle.std.proofs.Common.{sym, ap, ◌∙◌, subst, inl, inr, arith}
use Rattle.std.proofs.Math.Option.{none}
use mathlib.Core.List.Memᴰ.{head as here}
use mathlib.Core.List.Memᴰ.{tail as there}
use Rattle.lists.specs.Tests.{case, lt_or_le, holds, never}
use Rattle.lists.specs.Lists.{◌∈◌}
use Rattle.real32.specs.Small.{tame_real}
use Rattle.model.specs.Graph.{Graph, Arc, arcs_of}
use Rattle.model.specs.Path.{Token, Table}
use Rattle.model.specs.Cutoff.{Config, best, get_cutoff}
use Rattle.model.specs.Arrive.{Pass, emitting, takes, total, Here, Work}
use Rattle.model.specs.Passes.{offset_of, emitting_pass}
use Rattle.model.specs.Accepted.{Ok}
use Rattle.model.proofs.Accepted.{weaken}
use Rattle.model.specs.Checked.{GoodGraph}
use Rattle.copy_laws.specs.Walks.{Heard}
use Rattle.copy_laws.specs.Drops.{drops_emitting}
use Rattle.copy_laws.specs.Tables.{At}
use Rattle.copy_laws.proofs.Tables.{at_one, none≢some, at_length}
use Rattle.copy_laws.proofs.Carried.{Visiting, emitting_carried}
use Rattle.copy_laws.specs.Sums.{Floats32}
use Rattle.copy_laws.specs.Active.{Active}
use Rattle.copy_laws.specs.Kept.{hearing, Since}
use Rattle.copy_laws.proofs.Kept.{InHand, visiting, begins}
use Rattle.copy_laws.specs.Within.{Within, Reals}
use Rattle.copy_laws.proofs.Within.{lowers_within, came_lowers, came_within}

pub active_reals : (g : Graph) (fs : List Heard) (ts : Table) (q n : ℕ) → Active g fs ts q n → Reals ts
active_reals g fs ts q n a s t e = tame_real t.cost (holds (a.sound s t e).sums.cost_tame)

module _ (h : Here) (c : Config) (ls : List Float) (ts : Table) (q n : ℕ) (fs : List Heard) (good : GoodGraph h.graph) (floats : Floats32 h.graph) (timely : h.frame ≡ length fs) (old : Active h.graph fs ts q n) where
  abbrev g : Graph
  g = h.graph

  abbrev fs' : List Heard
  fs' = fs ++ (hearing ls ts ∷ [])

  abbrev pass : Pass
  pass = emitting ls (offset_of (best ts)) (get_cutoff c ts).adaptive

  -- every arc of the token is still to come, or has reached its target
  abbrev Reached : ℕ → Token → List Arc → Work → Type 0
  Reached s t rest w = (a : Arc) → a ∈ arcs_of g s → takes pass a ≡ true → (a ∈ rest) ⊎ Within w.table a.target (total g pass t a)

  -- of the states below s, every arc has
  abbrev Spread : ℕ → Work → Type 0
  Spread s w = (i : ℕ) (t : Token) → i < s → At ts i t → (a : Arc) → a ∈ arcs_of g i → takes pass a ≡ true → Within w.table a.target (total g pass t a)

  record SpreadTo (s : ℕ) (w : Work) : Type 0 where
    since : Since g fs' n w
    spread : Spread s w

  record Spreading (s : ℕ) (t : Token) (rest : List Arc) (w : Work) : Type 0 where
    hand : InHand h pass fs n s t rest w
    spread : Spread s w
    reached : Reached s t rest w

  spreads : Visiting (Unit {0}) h pass ts SpreadTo Spreading
  spreads =
      let v = visiting h c ls ts q n fs good floats timely old (Unit {0}) in
      record {
        carried = record {
          step = λ s t a rest m k w x u i came.
              let inside : a.target < length w.table = let z = (good.arc s a m).target in let y = i.hand.active.long in omega arith in
              let reals = active_reals g fs' w.table w.seq w.fresh i.hand.active in
              let low = came_lowers h pass t a w x inside reals came in
              record {
                hand = v.carried.step s t a rest m k w x u i.hand came;
                spread = λ j y l e b o d. lowers_within w.table x.table b.target _ low (i.spread j y l e b o d);
                reached = λ b o d. case (i.reached b o d) (λ y. next s t a rest x b y (came_within h pass t a w x inside reals came (u tt))) (λ y. inr (lowers_within w.table x.table b.target _ low y));
              };
          skip = λ s t a rest k w i. record { hand = v.carried.skip s t a rest k w i.hand; spread = i.spread; reached = λ b o d. case (i.reached b o d) (λ y. inl (past a rest b k d y)) inr };
        };
        take_up = λ s t w e j. record { hand = v.take_up s t w e j.since; spread = j.spread; reached = λ a m k. inl m };
        put_down = λ s t w e i. record { since = v.put_down s t w e i.hand; spread = λ j y l d a m k. up_to s t w e i j y l d a m k };
        vacant = λ s w e j. record { since = j.since; spread = λ i t l d a m k. case (lt_or_le i s) (λ y. j.spread i t y d a m k) (λ y. none≢some t (sym e ∙ ap (λ (r : ℕ). get_or ts r none) (omega arith) ∙ d)) };
        cut = λ s t w u j. absurd (u tt);
      }
    where
      next : (s : ℕ) (t : Token) (a : Arc) (rest : List Arc) (x : Work) (b : Arc) → b ∈ (a ∷ rest) → Within x.table a.target (total g pass t a) → (b ∈ rest) ⊎ Within x.table b.target (total g pass t b)
      next s t a rest x b (here e) y = inr (subst (λ (z : Arc). Within x.table z.target (total g pass t z)) (sym e) y)
      next s t a rest x b (there m) y = inl m

      past : (a : Arc) (rest : List Arc) (b : Arc) → takes pass a ≡ false → takes pass b ≡ true → b ∈ (a ∷ rest) → b ∈ rest
      past a rest b k d (here e) = never (sym k ∙ ap (takes pass) (sym e) ∙ d)
      past a rest b k d (there m) = m

      none_left : (s : ℕ) (t : Token) (w : Work) (a : Arc) → (a ∈ []) ⊎ Within w.table a.target (total g pass t a) → Within w.table a.target (total g pass t a)
      none_left s t w a (inl m) = elim m [ ]
      none_left s t w a (inr y) = y

      up_to : (s : ℕ) (t : Token) (w : Work) → At ts s t → Spreading s t [] w → Spread (suc s) w
      up_to s t w e i j y l d a m k =
          case (lt_or_le j s) (λ z. i.spread j y z d a m k)
          (λ z.
          let same : j ≡ s = omega arith in
          let tok : t ≡ y = at_one ts s t y e (ap (λ (r : ℕ). get_or ts r none) (sym same) ∙ d) in
          subst (λ (x : Token). Within w.table a.target (total g pass x a)) tok (none_left s t w a (i.reached a (subst (λ (r : ℕ). a ∈ arcs_of g r) same m) k)))

  -- what the pass leaves where nothing is cut
  pub record Emitted (w : Work) : Type 0 where
    pub since : Since g fs' n w
    pub each : (s : ℕ) (t : Token) → At ts s t → (a : Arc) → a ∈ arcs_of g s → takes pass a ≡ true → Within w.table a.target (total g pass t a)

  pub emitting_spreads : drops_emitting h c ls ts q n ≡ false → Ok Emitted (emitting_pass h c ls ts q n)
  emitting_spreads d =
      weaken (SpreadTo (length ts)) Emitted (emitting_pass h c ls ts q n) (λ w j. record { since = j.since; each = λ s t e. j.spread s t (at_length ts s t e) e })
      (emitting_carried (Unit {0}) h c ls ts q n SpreadTo Spreading spreads (λ next. record { since = begins h c ls ts q n fs good floats timely old next; spread = λ i t l. absurd (omega arith) }) (λ u. d))
