-- The nonemitting pass where nothing is cut: its queue run empty, every epsilon arc of an active state leads to an active state that costs at most the arc's total. Assumes nothing.
use Rattle.std.specs.Prelude.{◌≡◌, ◌⊎◌, ℕ, ◌<◌, true, false, get_or, set, Float}
use Rattle.std.proofs.Math.Path.{refl}
use Rattle.std.proofs.Common.{sym, ap, ◌∙◌, subst, inl, inr}
use native.Mathlib.Omega.{arith}
use Rattle.std.proofs.Math.Option.{none, some}
use mathlib.Core.List.Memᴰ.{head as here}
use mathlib.Core.List.Memᴰ.{tail as there}
use mathlib.Core.List.{List, [], ◌∷◌}
use Rattle.std.proofs.Math.ListN.{length}
use Rattle.lists.specs.Tests.{case, never}
use Rattle.lists.specs.Lists.{◌∈◌}
use Rattle.model.specs.Basics.{◌⊕◌, Outcome, ok, refused}
use Rattle.model.specs.Graph.{Graph, Arc, arcs_of}
use Rattle.model.specs.Path.{Token, Table}
use Rattle.model.specs.Arrive.{nonemitting, takes, total, Here, Work, joined}
use Rattle.model.specs.Passes.{popped, nonemitting_pass}
use Rattle.model.specs.Accepted.{Ok}
use Rattle.model.proofs.Came.{More, Came, came_cut, came_vacant, came_better, came_dropped, came_joined}
use Rattle.model.specs.Checked.{GoodGraph}
use Rattle.copy_laws.specs.Walks.{Heard}
use Rattle.copy_laws.specs.Drops.{drops_nonemitting}
use Rattle.copy_laws.specs.Tables.{At}
use Rattle.copy_laws.proofs.Tables.{none≢some, at_one, at_set}
use Rattle.copy_laws.specs.Begun.{Starts}
use Rattle.copy_laws.proofs.Carried.{nonemitting_carried}
use Rattle.copy_laws.proofs.Carried.{Draining}
use Rattle.copy_laws.specs.Sums.{Floats32}
use Rattle.copy_laws.specs.Tokens.{InFrame}
use Rattle.copy_laws.specs.Active.{Active}
use Rattle.copy_laws.proofs.Active.{active_moved}
use Rattle.copy_laws.specs.Kept.{Between}
use Rattle.copy_laws.proofs.Kept.{InHand, draining}
use Rattle.copy_laws.specs.Within.{Within, Lowers, Reals}
use Rattle.copy_laws.proofs.Within.{lowers_same, lowers_trans, lowers_within, came_lowers, came_within}
use Rattle.copy_laws.proofs.Spread.{active_reals}
use Rattle.copy_laws.specs.Ends.{Runs, Emptied}
use Rattle.copy_laws.proofs.Ends.{runs_empty, pass_runs}
use Rattle.copy_laws.specs.Closing.{Old, Whole}

pushed_more : (q r : List ℕ) (s : ℕ) → r ≡ s ∷ q → More q r
pushed_more q r s e x m = subst (λ (l : List ℕ). x ∈ l) (sym e) (there m)

module _ (h : Here) (t : Token) (a : Arc) (w v : Work) where
  came_more : Came h nonemitting t a w v → More w.queue v.queue
  came_more (came_cut c e) x m = subst (λ (y : Work). x ∈ y.queue) (sym e) m
  came_more (came_vacant c e l f q r) x m = pushed_more w.queue v.queue a.target r x m
  came_more (came_better c held e b l u j f q r) x m = pushed_more w.queue v.queue a.target r x m
  came_more (came_dropped c held e b f q r) x m = subst (λ (y : List ℕ). x ∈ y) (sym r) m
  came_more (came_joined c held e b f q r) x m = r x m

  old_same : v.table ≡ w.table → Old w v
  old_same f s x e = inr (x, subst (λ (ts : Table). At ts s x) f e, refl)

  -- a new token at the target, which is on the queue or costs what the one before it did
  old_put : (u : Token) → v.table ≡ set w.table a.target (some u) → (a.target ∈ v.queue) ⊎ ((y : Token) × At w.table a.target y × (y.cost ≡ u.cost)) → Old w v
  old_put u f k s x e =
      case (at_set w.table a.target u s x (subst (λ (ts : Table). At ts s x) f e))
      (λ p. case k (λ i. inl (subst (λ (n : ℕ). n ∈ v.queue) (sym p.0) i))
      (λ y. inr (y.0, ap (λ (i : ℕ). get_or w.table i none) p.0 ∙ y.1, y.2 ∙ ap (λ (z : Token). z.cost) (sym p.1))))
      (λ p. inr (x, p.1, refl))

  came_old : Came h nonemitting t a w v → Old w v
  unfolding joined
  came_old (came_cut c e) = old_same (ap (λ (x : Work). x.table) e)
  came_old (came_vacant c e l f q r) = old_put _ f (inl (subst (λ (z : List ℕ). a.target ∈ z) (sym r) (here refl)))
  came_old (came_better c held e b l u j f q r) = old_put u f (inl (subst (λ (z : List ℕ). a.target ∈ z) (sym r) (here refl)))
  came_old (came_dropped c held e b f q r) = old_same f
  came_old (came_joined c held e b f q r) = old_put _ f (inr (held, e, refl))

-- ---- every epsilon arc is accounted for

module _ (h : Here) (fs : List Heard) (good : GoodGraph h.graph) (floats : Floats32 h.graph) (timely : InFrame h nonemitting fs) (ts : Table) where
  abbrev g : Graph
  g = h.graph

  -- Of an epsilon arc b of the active state k at cost x: k is on the queue, or the arc's target costs at most its total, or it is pending.
  abbrev Settled : (Pending : ℕ → Float → Arc → Type 0) → Work → Type 0
  Settled Pending w = (k : ℕ) (x : Token) → At w.table k x → (b : Arc) → b ∈ arcs_of g k → takes nonemitting b ≡ true → (k ∈ w.queue) ⊎ (Within w.table b.target (x.cost ⊕ b.weight) ⊎ Pending k x.cost b)

  -- while s's token t is in hand, its arcs that are still to come, at its cost
  abbrev Coming : ℕ → Token → List Arc → ℕ → Float → Arc → Type 0
  Coming s t rest k x b = (k ≡ s) × (x ≡ t.cost) × (b ∈ rest)

  record Closing (w : Work) : Type 0 where
    active : Active g fs w.table w.seq w.fresh
    lowered : Lowers ts w.table
    settled : Settled (λ k x b. ⊥) w

  record ClosingHand (s : ℕ) (t : Token) (rest : List Arc) (w : Work) : Type 0 where
    hand : InHand h nonemitting fs 0 s t rest w
    lowered : Lowers ts w.table
    settled : Settled (Coming s t rest) w

  -- the arc a arrived uncut
  settled_step : (s : ℕ) (t : Token) (a : Arc) (rest : List Arc) (w v : Work) → Came h nonemitting t a w v → Lowers w.table v.table → Within v.table a.target (t.cost ⊕ a.weight) → Settled (Coming s t (a ∷ rest)) w → Settled (Coming s t rest) v
  settled_step s t a rest w v came low new was k x e b m tb = go (came_old h t a w v came k x e)
    where
      Result : Float → Type 0
      Result c = (k ∈ v.queue) ⊎ (Within v.table b.target (c ⊕ b.weight) ⊎ Coming s t rest k c b)

      coming : (c : Float) → k ≡ s → c ≡ t.cost → b ∈ (a ∷ rest) → Result c
      coming c p q (here y) = inr (inl (subst (λ (z : Float). Within v.table b.target (z ⊕ b.weight)) (sym q) (subst (λ (z : Arc). Within v.table z.target (t.cost ⊕ z.weight)) (sym y) new)))
      coming c p q (there y) = inr (inr (p, q, y))

      before : (c : Float) → (k ∈ w.queue) ⊎ (Within w.table b.target (c ⊕ b.weight) ⊎ Coming s t (a ∷ rest) k c b) → Result c
      before c (inl y) = inl (came_more h t a w v came k y)
      before c (inr (inl y)) = inr (inl (lowers_within w.table v.table b.target (c ⊕ b.weight) low y))
      before c (inr (inr y)) = coming c y.0 y.1 y.2

      go : (k ∈ v.queue) ⊎ ((u : Token) × At w.table k u × (u.cost ≡ x.cost)) → Result x.cost
      go (inl y) = inl y
      go (inr y) = subst Result y.2 (before y.0.cost (was k y.0 y.1 b m tb))

  settled_pending : (P Q : ℕ → Float → Arc → Type 0) (w v : Work) → v.table ≡ w.table → ((k : ℕ) (x : Token) (b : Arc) → At w.table k x → b ∈ arcs_of g k → takes nonemitting b ≡ true → (k ∈ w.queue) ⊎ P k x.cost b → (k ∈ v.queue) ⊎ Q k x.cost b) → Settled P w → Settled Q v
  settled_pending P Q w v f n was k x e b m tb = go (was k x at b m tb)
    where
      at : At w.table k x
      at = subst (λ (us : Table). At us k x) f e

      move : (k ∈ w.queue) ⊎ P k x.cost b → (k ∈ v.queue) ⊎ (Within v.table b.target (x.cost ⊕ b.weight) ⊎ Q k x.cost b)
      move y = case (n k x b at m tb y) inl (λ z. inr (inr z))

      go : (k ∈ w.queue) ⊎ (Within w.table b.target (x.cost ⊕ b.weight) ⊎ P k x.cost b) → (k ∈ v.queue) ⊎ (Within v.table b.target (x.cost ⊕ b.weight) ⊎ Q k x.cost b)
      go (inl y) = move (inl y)
      go (inr (inl y)) = inr (inl (subst (λ (us : Table). Within us b.target (x.cost ⊕ b.weight)) (sym f) y))
      go (inr (inr y)) = move (inr y)

  -- no arc is left in hand, and no state on the queue
  none_coming : (s : ℕ) (t : Token) (w : Work) (k : ℕ) (x : Float) (b : Arc) → (k ∈ w.queue) ⊎ Coming s t [] k x b → (k ∈ w.queue) ⊎ ⊥
  none_coming s t w k x b (inl y) = inl y
  none_coming s t w k x b (inr y) = elim y.2 [ ]

  skipped : (s : ℕ) (t : Token) (a : Arc) (rest : List Arc) (w : Work) → takes nonemitting a ≡ false → (k : ℕ) (x : Float) (b : Arc) → takes nonemitting b ≡ true → (k ∈ w.queue) ⊎ Coming s t (a ∷ rest) k x b → (k ∈ w.queue) ⊎ Coming s t rest k x b
  skipped s t a rest w f k x b tb (inl y) = inl y
  skipped s t a rest w f k x b tb (inr y) = go y.2
    where
      go : b ∈ (a ∷ rest) → (k ∈ w.queue) ⊎ Coming s t rest k x b
      go (here e) = never (sym f ∙ ap (takes nonemitting) (sym e) ∙ tb)
      go (there m) = inr (y.0, y.1, m)

  -- the popped state's arcs are to come
  taken_up : (s : ℕ) (q : List ℕ) (t : Token) (w : Work) → w.queue ≡ s ∷ q → At w.table s t → (k : ℕ) (x : Token) (b : Arc) → At w.table k x → b ∈ arcs_of g k → (k ∈ w.queue) ⊎ ⊥ → (k ∈ q) ⊎ Coming s t (arcs_of g s) k x.cost b
  taken_up s q t w e i k x b d m (inr y) = absurd y
  taken_up s q t w e i k x b d m (inl y) = go (subst (λ (l : List ℕ). k ∈ l) e y)
    where
      go : k ∈ (s ∷ q) → (k ∈ q) ⊎ Coming s t (arcs_of g s) k x.cost b
      go (here p) = inr (p, ap (λ (z : Token). z.cost) (at_one w.table s x t (ap (λ (j : ℕ). get_or w.table j none) (sym p) ∙ d) i), subst (λ (j : ℕ). b ∈ arcs_of g j) p m)
      go (there p) = inl p

  -- a popped state with no token has no arcs
  not_active : (s : ℕ) (q : List ℕ) (w : Work) → w.queue ≡ s ∷ q → get_or w.table s none ≡ none → (k : ℕ) (x : Token) → At w.table k x → (k ∈ w.queue) ⊎ ⊥ → (k ∈ q) ⊎ ⊥
  not_active s q w e i k x d (inr y) = absurd y
  not_active s q w e i k x d (inl y) = go (subst (λ (l : List ℕ). k ∈ l) e y)
    where
      go : k ∈ (s ∷ q) → (k ∈ q) ⊎ ⊥
      go (here p) = none≢some x (sym i ∙ ap (λ (j : ℕ). get_or w.table j none) (sym p) ∙ d)
      go (there p) = inl p

  closes : Draining (Unit {0}) h Closing ClosingHand
  unfolding total
  closes =
      let kept = draining h fs good floats timely (Unit {0}) in
      record {
        carried = record {
          step = λ s t a rest m k w v u i came.
              let inside : a.target < length w.table = let z = (good.arc s a m).target in let y = i.hand.active.long in omega arith in
              let reals = active_reals g fs w.table w.seq w.fresh i.hand.active in
              let low = came_lowers h nonemitting t a w v inside reals came in
              record {
                hand = kept.carried.step s t a rest m k w v u i.hand came;
                lowered = lowers_trans ts w.table v.table i.lowered low;
                settled = settled_step s t a rest w v came low (came_within h nonemitting t a w v inside reals came (u tt)) i.settled;
              };
          skip = λ s t a rest k w i.
              record {
                hand = kept.carried.skip s t a rest k w i.hand;
                lowered = i.lowered;
                settled = settled_pending (Coming s t (a ∷ rest)) (Coming s t rest) w w refl (λ j x b d m tb. skipped s t a rest w k j x.cost b tb) i.settled;
              };
        };
        take_up = λ s q t w e i c.
            record {
              hand = kept.take_up s q t w e i c.active;
              lowered = c.lowered;
              settled = settled_pending (λ k x b. ⊥) (Coming s t (arcs_of g s)) w (popped w q) refl (λ k x b d m tb. taken_up s q t w e i k x b d m) c.settled;
            };
        put_down = λ s t w i. record { active = i.hand.active; lowered = i.lowered; settled = settled_pending (Coming s t []) (λ k x b. ⊥) w w refl (λ k x b d m tb. none_coming s t w k x.cost b) i.settled };
        vacant = λ s q w e i c.
            record { active = kept.vacant s q w e i c.active; lowered = c.lowered; settled = settled_pending (λ k x b. ⊥) (λ k x b. ⊥) w (popped w q) refl (λ k x b d m tb. not_active s q w e i k x d) c.settled };
        cut = λ s q w e u c. absurd (u tt);
      }

  begins : (w : Work) → w.table ≡ ts → Between h fs w → (v : Work) → Starts g w v → Closing v
  begins w same a v b =
      let f = b.same.table in
      record {
        active = active_moved g fs w v f b.same.seq b.same.fresh a;
        lowered = subst (λ (x : Table). Lowers ts x) (sym (f ∙ same)) (lowers_same ts (subst Reals same (active_reals g fs w.table w.seq w.fresh a)));
        settled = λ k x e c m tb. inl (b.queued k x (subst (λ (us : Table). At us k x) f e) c m tb);
      }

module _ (h : Here) (fs : List Heard) (good : GoodGraph h.graph) (floats : Floats32 h.graph) (timely : InFrame h nonemitting fs) (w : Work) (active : Between h fs w) (no_queue : w.queue ≡ []) (none_requeued : w.requeued ≡ []) where
  -- of the whole pass, whatever is cut
  pub pass_is_loop : Runs h w (nonemitting_pass h w)
  pass_is_loop = pass_runs h (λ s a m. (good.arc s a m).target) w active.long (λ s t e. (active.sound s t e).sums.cost.0) no_queue none_requeued

  pub pass_closes : drops_nonemitting h w ≡ false → Ok (Whole h.graph fs w.table) (nonemitting_pass h w)
  pass_closes d = go (nonemitting_pass h w) (nonemitting_carried (Unit {0}) h (Closing h fs good floats timely w.table) (ClosingHand h fs good floats timely w.table) (closes h fs good floats timely w.table) w (begins h fs good floats timely w.table w refl active) (λ u. d)) (runs_empty h w (nonemitting_pass h w) pass_is_loop)
    where
      settle : (v : Work) → v.queue ≡ [] → (k : ℕ) (W : Type 0) → (k ∈ v.queue) ⊎ (W ⊎ ⊥) → W
      settle v e k W (inl y) = elim (subst (λ (x : List ℕ). k ∈ x) e y) [ ]
      settle v e k W (inr (inl y)) = y
      settle v e k W (inr (inr y)) = absurd y

      go : (o : Outcome Work) → Ok (Closing h fs good floats timely w.table) o → Emptied o → Ok (Whole h.graph fs w.table) o
      go (ok v) c e = record { active = c.active; lowered = c.lowered; closed = λ s t i a m b. settle v e s _ (c.settled s t i a m b) }
      go (refused n) c e = tt
