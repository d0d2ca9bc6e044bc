-- Sums that stay small and are never −0: a token's cost and graph sum, and what a kept loser costs over the winner. Assumes nothing.
use Rattle.std.specs.Prelude.{◌≡◌, ℕ, ◌+◌, ◌*◌, ◌^◌, true, List, length, get_or, T, Float}
use Rattle.std.proofs.Common.{sym, subst, lit<}
use Rattle.std.proofs.Math.ListN.{get_or-eq_default}
use Rattle.std.specs.Float.Ieee.{fits, neg}
use Rattle.std.specs.Float.{binary32}
use Rattle.std.specs.Float.Ieee.Scale.{finite}
use Rattle.std.specs.Float.Ieee.Fits.{add-fits, sub-fits, neg-fits}
use Rattle.lists.specs.Tests.{case, lt_or_le, holds}
use Rattle.lists.specs.Lists.{◌∈◌}
use Rattle.lists.specs.Members.{at_member, map_from}
use Rattle.real32.specs.Sum.{sub_is, sub_le, sub_self}
use Rattle.real32.specs.Exact.{not_nz}
use Rattle.real32.specs.Small.{at_most, at_most_sub, small, Rep, rep, tame, tame_small, tame_finite, tame-sub}
use Rattle.model.specs.Basics.{◌≼◌, ◌⊕◌, ◌⊖◌, 0f}
use Rattle.model.specs.Graph.{Graph, Arc, arc_at, arc_numbers, arcs_of}
use Rattle.model.specs.Path.{Token, Merge}
use Rattle.model.specs.Arrive.{Pass, emitting, nonemitting, loglike, total}
use Rattle.copy_laws.specs.Sums.{All32, Floats32, Signed, Sums, Difference}

all32_at : (xs : List Float) (i : ℕ) → All32 xs → T (fits binary32 (get_or xs i 0f))
unfolding fits
all32_at xs i f = case (lt_or_le i (length xs)) (λ h. f (get_or xs i 0f) (at_member xs i 0f h)) (λ h. subst (λ (x : Float). T (fits binary32 x)) (sym (get_or-eq_default xs 0f h)) tt)

pub weight_32 : (g : Graph) → Floats32 g → (s : ℕ) (a : Arc) → a ∈ arcs_of g s → T (fits binary32 a.weight)
unfolding arcs_of arc_at
weight_32 g f s a m = let (i, k, e) = map_from (arc_at g s) (arc_numbers g s) a m in subst (λ (b : Arc). T (fits binary32 b.weight)) (sym e) (all32_at g.weights i f.weights)

pub signed_add : (x y : Float) → Signed x → T (fits binary32 y) → Signed (x ⊕ y)
signed_add x y s f = (add-fits binary32 x y, not_nz binary32 x y s.0 f s.1)

pub signed_sub : (x y : Float) → Signed x → T (fits binary32 y) → Signed (x ⊖ y)
signed_sub x y s f = subst Signed (sym (sub_is binary32 x y)) (signed_add x (neg y) s (neg-fits binary32 y f))

pub signed_total : (g : Graph) (p : Pass) (t : Token) (a : Arc) → Signed t.cost → T (fits binary32 a.weight) → Signed (total g p t a)
unfolding total
signed_total g (emitting ls off ad) t a s f = signed_add (t.cost ⊕ (off ⊖ loglike g ls a)) a.weight (signed_add t.cost (off ⊖ loglike g ls a) s (sub-fits binary32 off (loglike g ls a))) f
signed_total g nonemitting t a s f = signed_add t.cost a.weight s f

-- ---- what the loser costs over the winner

three_steps : Rep binary32 (2 ^ 101 + 2 ^ 100)
three_steps = rep binary32 3 100 (lit< tt) (lit< tt)

pub difference : (m : Merge) (won lost : Token) → m.cost ≡ lost.cost ⊖ won.cost → m.graph ≡ lost.graph ⊖ won.graph → Sums won → tame won.graph ≡ true → Sums lost → T (won.cost ≼ lost.cost) → Difference m
difference m won lost c g w t l u =
    record {
      cost = subst Signed (sym c) (signed_sub lost.cost won.cost l.cost w.cost.0);
      cost_up = subst (λ (x : Float). T (0f ≼ x)) (sym c) (subst (λ (x : Float). T (x ≼ lost.cost ⊖ won.cost)) (sub_self binary32 won.cost won_finite) (sub_le binary32 won.cost lost.cost won.cost won_finite u));
      cost_small = subst (λ (x : Float). T (small 101 x)) (sym c) (tame-sub lost.cost won.cost (holds l.cost_tame) (holds w.cost_tame));
      graph = subst Signed (sym g) (signed_sub lost.graph won.graph l.graph w.graph.0);
      graph_small = subst (λ (x : Float). T (at_most (3 * 2 ^ 100) x)) (sym g) (at_most_sub binary32 (2 ^ 101) (2 ^ 100) lost.graph won.graph three_steps l.graph_small (tame_small won.graph (holds t)));
    }
  where
    won_finite : T (finite won.cost)
    won_finite = tame_finite won.cost (holds w.cost_tame)
