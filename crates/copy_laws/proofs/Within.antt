-- An arrival makes no state dearer, and one that is not cut leaves its target at most its total. Assumes nothing.
use Rattle.std.specs.Prelude.{◌≡◌, ℕ, suc, ◌<◌, false, length, set, Float}
use Rattle.std.proofs.Common.{sym, ◌∙◌}
use Rattle.std.proofs.Math.Path.{ap, subst}
use Rattle.std.proofs.Math.Decide.{ℕ_discrete}
use Rattle.std.proofs.Math.Option.{none, some}
use Rattle.std.proofs.Math.ListN.{get_or}
use Rattle.std.proofs.Math.Dec.{T}
use Rattle.lists.specs.Tests.{holds, fails, never}
use Rattle.real32.specs.Order.{le_refl, le_trans, lt→le, not_lt→le}
use Rattle.real32.specs.Small.{tame_real}
use Rattle.model.specs.Basics.{◌≼◌}
use Rattle.model.specs.Graph.{Arc}
use Rattle.model.specs.Path.{Token, Table}
use Rattle.model.specs.Arrive.{Pass, total, Here, Work, arriving, joined, place_of}
use Rattle.model.proofs.Came.{Came, came_cut, came_vacant, came_better, came_dropped, came_joined}
use Rattle.copy_laws.proofs.Tables.{none≢some, some_same, at_new, at_old}
use Rattle.copy_laws.proofs.Active.{with_loser}
use Rattle.copy_laws.specs.Within.{Within, Lowers, Reals}

pub within_le : (ts : Table) (s : ℕ) (x y : Float) → Within ts s x → T (x ≼ y) → Within ts s y
within_le ts s x y p q = (p.0, p.1, le_trans p.0.cost x y p.2 q)

pub lowers_same : (ts : Table) → Reals ts → Lowers ts ts
lowers_same ts r s t e = (t, e, le_refl t.cost (r s t e))

pub lowers_trans : (ts us vs : Table) → Lowers ts us → Lowers us vs → Lowers ts vs
lowers_trans ts us vs p q s t e = let (u, d, c) = p s t e in within_le vs s u.cost t.cost (q s u d) c

pub lowers_within : (ts us : Table) (s : ℕ) (x : Float) → Lowers ts us → Within ts s x → Within us s x
lowers_within ts us s x p q = within_le us s q.0.cost x (p s q.0 q.1) q.2

module _ (h : Here) (p : Pass) (t : Token) (a : Arc) (w v : Work) (inside : a.target < length w.table) (reals : Reals w.table) where
  abbrev tot : Float
  tot = total h.graph p t a

  lowers_put : (u : Token) → v.table ≡ set w.table a.target (some u) → ((x : Token) → place_of w a ≡ some x → T (u.cost ≼ x.cost)) → Lowers w.table v.table
  lowers_put u f k s x e = go (ℕ_discrete s a.target)
    where
      go : Dec (s ≡ a.target) → Within v.table s x.cost
      go (yes y) = (u, ap (λ (i : ℕ). get_or v.table i none) y ∙ at_new w.table v.table a.target u f inside, k x (sym (ap (λ (i : ℕ). get_or w.table i none) y) ∙ e))
      go (no y) = (x, at_old w.table v.table a.target u s x f y e, le_refl x.cost (reals s x e))

  pub came_lowers : Came h p t a w v → Lowers w.table v.table
  unfolding arriving joined
  came_lowers (came_cut c e) = subst (λ (x : Work). Lowers w.table x.table) (sym e) (lowers_same w.table reals)
  came_lowers (came_vacant c e l f q r) = lowers_put _ f λ x d. none≢some x (sym e ∙ d)
  came_lowers (came_better c held e b l u j f q r) =
      let under : T (tot ≼ held.cost) = lt→le tot held.cost (holds b) in
      lowers_put u f λ x d. subst (λ (z : Token). T (u.cost ≼ z.cost)) (some_same held x (sym e ∙ d)) (with_loser (λ z. T (z.cost ≼ held.cost)) h (suc w.fresh) _ held u j under under)
  came_lowers (came_dropped c held e b f q r) = subst (λ (x : Table). Lowers w.table x) (sym f) (lowers_same w.table reals)
  came_lowers (came_joined c held e b f q r) = lowers_put _ f λ x d. subst (λ (z : Token). T (held.cost ≼ z.cost)) (some_same held x (sym e ∙ d)) (le_refl held.cost (reals a.target held e))

  pub came_within : Came h p t a w v → (w.cutoff ≼ tot) ≡ false → Within v.table a.target tot
  unfolding arriving joined
  came_within (came_cut c e) d = never (sym d ∙ c)
  came_within (came_vacant c e l f q r) d = (_, at_new w.table v.table a.target _ f inside, le_refl tot (tame_real tot (holds c.small)))
  came_within (came_better c held e b l u j f q r) d =
      let level : T (tot ≼ tot) = le_refl tot (tame_real tot (holds c.small)) in
      (u, at_new w.table v.table a.target u f inside, with_loser (λ z. T (z.cost ≼ tot)) h (suc w.fresh) _ held u j level level)
  came_within (came_dropped c held e b f q r) d =
      (held, ap (λ (ts : Table). get_or ts a.target none) f ∙ e, not_lt→le tot held.cost (tame_real tot (holds c.small)) (reals a.target held e) (fails b))
  came_within (came_joined c held e b f q r) d =
      (_, at_new w.table v.table a.target _ f inside, not_lt→le tot held.cost (tame_real tot (holds c.small)) (reals a.target held e) (fails b))
