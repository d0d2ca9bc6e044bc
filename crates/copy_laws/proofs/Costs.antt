-- The rank and the cost of every listed reading are finite and no −0; a kept one's rank, as long as it takes fewer than 2 ^ 24 kept paths. Assumes nothing.
use Rattle.std.specs.Prelude.{◌≡◌, ℕ, ◌*◌, ◌^◌, ◌≤◌, Bool, List, length, T, Float}
use Rattle.std.proofs.Common.{sym, ap, ◌∙◌, subst, mul-le-mul_right, le_of_lt, lit<, lit≤}
use Rattle.std.proofs.Math.Bool.{true, false, cond}
use Rattle.std.proofs.Math.Option.{some}
use Rattle.std.specs.Float.Ieee.{binary32, fits, neg, lt}
use Rattle.std.specs.Float.Ieee.Fits.{mul-fits, and_i}
use Rattle.lists.specs.Tests.{holds, and_both}
use Rattle.lists.specs.Lists.{◌∈◌}
use Rattle.real32.specs.Order.{lt_le_trans, le_lt_trans}
use Rattle.real32.specs.Small.{at_most_mono, at_most_mul, small, small-add, small-sub, huge, tame, tame_small}
use Rattle.model.specs.Basics.{◌≺◌, ◌≼◌, ◌⊕◌, ◌⊖◌, ◌⊗◌, 0f}
use Rattle.model.specs.Graph.{Graph}
use Rattle.model.specs.Passes.{State, fair, fair_margin}
use Rattle.model.specs.Reads.{Ranked, use_finals, Group, grouped}
use Rattle.model.specs.Readings.{Below, Kept, kept_of, kept_group, readings}
use Rattle.model.specs.Checked.{GoodGraph}
use Rattle.copy_laws.specs.Walks.{Heard}
use Rattle.copy_laws.specs.Sums.{Floats32}
use Rattle.copy_laws.proofs.Sums.{signed_add, signed_sub}
use Rattle.copy_laws.proofs.Shapes.{differences}
use Rattle.copy_laws.specs.States.{Standing}
use Rattle.copy_laws.specs.Ranks.{share, Sure}
use Rattle.copy_laws.proofs.Ranks.{share_small, ranked_at_lem, ranked_sure}
use Rattle.copy_laws.proofs.Listed.{grouped_own, kept_by_lem, readings_each}
use Rattle.copy_laws.specs.Bounds.{Few, Bounded}
use Rattle.copy_laws.proofs.Bounds.{below_bounded, fits_steps}
use Rattle.copy_laws.specs.Costs.{SureReading}

sure_more : (j k : ℕ) (x : Float) → 2 ^ j ≤ 2 ^ k → Sure j x → Sure k x
sure_more j k x i d = record { size = at_most_mono (2 ^ j) (2 ^ k) x i d.size; signed = d.signed }

-- what lies between 0 and a margin below 2 ^ 100 is so itself
margin_tame : (margin x : Float) → T (margin ≺ huge) → T (0f ≼ x) → T (x ≼ margin) → T (tame x)
unfolding tame
margin_tame margin x l u d = and_i (x ≺ huge) (neg huge ≺ x) (le_lt_trans x margin huge d l) (lt_le_trans (neg huge) 0f x (unfold lt neg in tt) u)

module _ (finals : Bool) (margin : Float) (up : T (0f ≼ margin)) (low : T (margin ≺ huge)) (r : Ranked) (b : Below) (sr : Sure 102 r.rank × Sure 101 r.cost) (d : Bounded margin b) where
  cost_small : T (small 100 b.cost)
  cost_small = tame_small b.cost (margin_tame margin b.cost low d.cost_up d.cost_under)

  share_of : Few (length b.route) → T (small 126 (share ⊗ b.graph))
  share_of few = let n = length b.route in at_most_mono (n * 2 ^ 102) (2 ^ 126) (share ⊗ b.graph) (mul-le-mul_right (2 ^ 102) (le_of_lt few)) (at_most_mul binary32 (n * 2 ^ 102) share b.graph (fits_steps n few) share_small (d.graph_small few))

  pub kept_sure : SureReading (kept_group (kept_of finals r b))
  unfolding kept_of
  kept_sure =
      let x = r.rank ⊕ b.cost in
      let wide = at_most_mono (2 ^ 100) (2 ^ 102) b.cost (lit≤ tt) cost_small in
      let sx : Sure 103 x = record { size = small-add binary32 102 r.rank b.cost (lit< tt) sr.0.size wide; signed = signed_add r.rank b.cost sr.0.signed d.cost.0 } in
      record {
        cost = record { size = small-add binary32 101 r.cost b.cost (lit< tt) sr.1.size (at_most_mono (2 ^ 100) (2 ^ 101) b.cost (lit≤ tt) cost_small); signed = signed_add r.cost b.cost sr.1.signed d.cost.0 };
        rank = λ few. rank_of_lem (sure_more 103 126 x (lit≤ tt) sx) few finals;
      }
    where
      rank_of_lem : Sure 126 (r.rank ⊕ b.cost) → Few (length b.route) → (c : Bool) → Sure 127 (r.rank ⊕ b.cost ⊖ cond c (share ⊗ b.graph) 0f)
      rank_of_lem s few true = record { size = small-sub binary32 126 (r.rank ⊕ b.cost) (share ⊗ b.graph) (lit< tt) s.size (share_of few); signed = signed_sub (r.rank ⊕ b.cost) (share ⊗ b.graph) s.signed (mul-fits binary32 share b.graph) }
      rank_of_lem s few false = record { size = small-sub binary32 126 (r.rank ⊕ b.cost) 0f (lit< tt) s.size tt; signed = signed_sub (r.rank ⊕ b.cost) 0f s.signed (unfold fits in tt) }

pub fair_margin_lem : (g : Graph) (fs : List Heard) (st : State) → Standing g fs st → (margin : Float) → st.margin ≡ some margin → T (0f ≼ margin) × T (margin ≺ huge)
unfolding fair
fair_margin_lem g fs st h margin e = let z = and_both (0f ≼ margin) (margin ≺ huge) (sym (ap fair_margin e) ∙ h.margin) in (holds z.0, holds z.1)

module _ (g : Graph) (good : GoodGraph g) (floats : Floats32 g) (fs : List Heard) (st : State) (h : Standing g fs st) (f : Bool) where
  pub own_sure : (x : Group) → x ∈ grouped g st f → SureReading x
  own_sure x m =
      let (r, n, e) = grouped_own g st f x m in
      let s = ranked_sure g good floats fs st h.active f r n in
      subst SureReading (sym e) (record { cost = sure_more 101 102 r.cost (lit≤ tt) s.1; rank = λ few. sure_more 102 127 r.rank (lit≤ tt) s.0 })

  pub readings_sure : (n : ℕ) (x : Group) → x ∈ (readings g st f n).groups → SureReading x
  readings_sure n =
      readings_each SureReading g st f n own_sure λ margin bound cap k e m.
      let d = kept_by_lem g st f margin bound cap k m in
      let a = ranked_at_lem g st f d.head d.among in
      let z = fair_margin_lem g fs st h margin e in
      subst (λ (y : Kept). SureReading (kept_group y)) (sym d.is)
      (kept_sure (use_finals g st f) margin z.0 z.1 d.head d.way (ranked_sure g good floats fs st h.active f d.head d.among)
      (below_bounded margin z.0 z.1 cap d.head.token.path (differences g fs d.head.token.path (h.active.sound a.state d.head.token a.at).forks) d.way d.below))
