-- What is listed below a path costs from 0 to the margin, and its graph difference is at most one step for each kept path that it takes, as long as these are fewer than 2 ^ 24. So the cost of a listed reading is finite and no −0, and so is its rank under that condition. Assumes nothing.
use Rattle.std.specs.Prelude.{◌≡◌, ℕ, suc, ◌*◌, ◌^◌, ◌<◌, Bool, true, false, cond, [], ◌∷◌, ℤ, Float}
use Rattle.std.proofs.Common.{sym, zero-add, lt_of_le_of_lt, le_of_lt, mul-le-mul_right, lit<, lit≤}
use Rattle.std.proofs.Math.Path.{subst}
use Rattle.std.proofs.Math.Nat.{le-suc}
use Rattle.std.proofs.Math.ListN.{length}
use Rattle.std.proofs.Math.Dec.{T}
use Rattle.std.specs.Float.Ieee.{binary32, fits, le}
use Rattle.std.specs.Float.Ieee.Scale.{finite}
use Rattle.lists.specs.Tests.{fails}
use Rattle.lists.specs.Lists.{◌∈◌}
use Rattle.real32.specs.Order.{finite_real, le_trans, lt→le, not_lt→le, between}
use Rattle.real32.specs.Sum.{add_comm, add_real}
use Rattle.real32.specs.Exact.{le_add}
use Rattle.real32.specs.Small.{at_most, at_most_finite, at_most_mono, at_most_add, Rep, rep, steps-add, huge}
use Rattle.model.specs.Basics.{◌≺◌, ◌≼◌, ◌⊕◌, 0f, nonzero}
use Rattle.model.specs.Path.{Merge, Path, word}
use Rattle.model.specs.Hash.{hash_word}
use Rattle.model.specs.Readings.{Below, on_top, by_way, below}
use Rattle.copy_laws.specs.Sums.{Signed, Difference}
use Rattle.copy_laws.proofs.Sums.{signed_add}
use Rattle.copy_laws.specs.Shapes.{Differences}
use Rattle.copy_laws.proofs.Below.{Downward, below_each}
use Rattle.copy_laws.specs.Bounds.{Few, Bounded}

zero_signed : Signed 0f
unfolding fits
zero_signed = (tt, tt)

pub fits_steps : (n : ℕ) → Few n → Rep binary32 (n * 2 ^ 102)
fits_steps n h = rep binary32 n 102 h (lt_of_le_of_lt (mul-le-mul_right (2 ^ 102) (le_of_lt h)) (lit< tt))

bounded_arc : (margin : Float) (w : ℤ) (b : Below) → Bounded margin b → Bounded margin (on_top w b)
unfolding on_top
bounded_arc margin w b d = go (nonzero w)
  where
    go : (c : Bool) → Bounded margin (cond c (record { hash = hash_word w b.hash; len = suc b.len; cost = b.cost; graph = b.graph; route = b.route }) b)
    go true = record { cost = d.cost; cost_up = d.cost_up; cost_under = d.cost_under; graph = d.graph; graph_small = d.graph_small }
    go false = d

module _ (margin : Float) (up : T (0f ≼ margin)) (small-margin : T (margin ≺ huge)) where
  margin_finite : T (finite margin)
  margin_finite = between 0f margin huge tt tt up (lt→le margin huge small-margin)

  -- a sum that the margin does not cut off
  under_margin : (x y : Float) → T (finite x) → T (finite y) → (margin ≺ x ⊕ y) ≡ false → T (x ⊕ y ≼ margin)
  under_margin x y fx fy e = not_lt→le margin (x ⊕ y) (finite_real margin margin_finite) (add_real binary32 x y fx (finite_real y fy)) (fails e)

  cost_finite : (b : Below) → Bounded margin b → T (finite b.cost)
  cost_finite b d = between 0f b.cost margin tt margin_finite d.cost_up d.cost_under

  -- x is the way's cost, from 0 on
  sum_up : (x : Float) (b : Below) → Signed x → T (0f ≼ x) → T (finite x) → Bounded margin b → T (0f ≼ x ⊕ b.cost)
  sum_up x b s u f d = le_trans 0f x (x ⊕ b.cost) u (le_add binary32 x b.cost s.0 (add_real binary32 x b.cost f (finite_real b.cost (cost_finite b d))) d.cost_up)

  bounded_own : (b : Below) → (margin ≺ (by_way 0f 0f [] b).cost) ≡ false → Bounded margin b → Bounded margin (by_way 0f 0f [] b)
  unfolding by_way
  bounded_own b e d =
      record {
        cost = signed_add 0f b.cost zero_signed d.cost.0;
        cost_up = sum_up 0f b zero_signed (unfold le in tt) tt d;
        cost_under = under_margin 0f b.cost tt (cost_finite b d) e;
        graph = signed_add 0f b.graph zero_signed d.graph.0;
        graph_small = λ few. let n = length b.route * 2 ^ 102 in subst (λ (k : ℕ). T (at_most k (0f ⊕ b.graph))) (zero-add n) (at_most_add binary32 0 n 0f b.graph (subst (Rep binary32) (sym (zero-add n)) (fits_steps (length b.route) few)) tt (d.graph_small few));
      }

  bounded_kept : (m : Merge) (b : Below) → Difference m → (margin ≺ (by_way m.cost m.graph (m.number ∷ []) b).cost) ≡ false → Bounded margin b → Bounded margin (by_way m.cost m.graph (m.number ∷ []) b)
  unfolding by_way
  bounded_kept m b k e d =
      let fm = at_most_finite (2 ^ 101) m.cost k.cost_small in
      record {
        cost = signed_add m.cost b.cost k.cost d.cost.0;
        cost_up = sum_up m.cost b k.cost k.cost_up fm d;
        cost_under = under_margin m.cost b.cost fm (cost_finite b d) e;
        graph = signed_add m.graph b.graph k.graph d.graph.0;
        graph_small = λ few.
            let n = length b.route in
            subst (λ (x : Float). T (at_most (suc n * 2 ^ 102) x)) (add_comm binary32 b.graph m.graph)
            (steps-add binary32 n 102 b.graph m.graph few (lt_of_le_of_lt (mul-le-mul_right (2 ^ 102) (le_of_lt few)) (lit< tt)) (d.graph_small (lt_of_le_of_lt (le-suc n) few)) (at_most_mono (3 * 2 ^ 100) (2 ^ 102) m.graph (lit≤ tt) k.graph_small));
      }

  bounded_downward : (cap : ℕ) → Downward margin cap (λ p b. Differences p → Bounded margin b)
  bounded_downward cap =
      record {
        start = λ k. record { cost = zero_signed; cost_up = unfold le in tt; cost_under = up; graph = zero_signed; graph_small = λ few. tt };
        arc = λ x p b r k. bounded_arc margin (word x) b (r k);
        own = λ m k p b e r f. bounded_own b e (r f.2);
        kept = λ m k p b q e r f. bounded_kept m b f.0 e (r f.1);
      }

  pub below_bounded : (cap : ℕ) (p : Path) → Differences p → (b : Below) → b ∈ below margin cap p → Bounded margin b
  below_bounded cap p k b m = below_each margin cap (λ p b. Differences p → Bounded margin b) (bounded_downward cap) p b m k
