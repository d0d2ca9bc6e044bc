-- `final_relative_cost` is +∞, or finite and no −0. Assumes nothing.
use Rattle.std.specs.Prelude.{◌≡◌, refl, ◌⊎◌, ℕ, zero, suc, ◌+◌, ◌^◌, ◌<◌, Bool, true, not, ◌&&◌, cond, List, [], ◌∷◌, length, get_or, T, Float}
use Rattle.std.proofs.Common.{sym, ap, ap₂, ◌∙◌, add-zero, zero-add, arith, lit<, lit≤}
use Rattle.std.proofs.Math.Path.{subst}
use Rattle.std.proofs.Math.Logic.{inl, inr}
use Rattle.std.proofs.Math.Bool.{false}
use Rattle.std.proofs.Math.Option.{Option, none, some}
use Rattle.std.specs.Float.{nan, inf, fin}
use Rattle.std.specs.Float.Ieee.{binary32, neg, lt}
use Rattle.std.specs.Float.Ieee.Scale.{finite}
use Rattle.lists.specs.Tests.{case, holds, is_true, never}
use Rattle.lists.specs.Members.{at_member}
use Rattle.real32.specs.Order.{lt_inf, neg_finite}
use Rattle.real32.specs.Sum.{inf_add, add_inf, sub_is}
use Rattle.real32.specs.Least.{fmin, fmin_is}
use Rattle.real32.specs.Small.{at_most_mono, small-sub, tame, tame_small, tame_finite, tame-add}
use Rattle.model.specs.Basics.{◌≺◌, ◌⊕◌, ◌⊖◌, 0f, ∞, first_of, nowhere, at_state}
use Rattle.model.specs.Graph.{Graph, states, final_weight, shape_wrong, start_wrong, final_wrong, refuse_at, check_states, check_finals, check_graph}
use Rattle.model.specs.Path.{Token, Table}
use Rattle.model.specs.Passes.{State}
use Rattle.model.specs.Reads.{least_from, final_relative_cost}
use Rattle.copy_laws.specs.Walks.{Heard}
use Rattle.copy_laws.specs.Tables.{At}
use Rattle.copy_laws.proofs.Tables.{at_length}
use Rattle.copy_laws.specs.Sums.{Floats32}
use Rattle.copy_laws.proofs.Sums.{signed_add, signed_sub}
use Rattle.copy_laws.specs.Active.{Active}
use Rattle.copy_laws.specs.Ranks.{Sure}
use Rattle.copy_laws.proofs.Ranks.{sure_finite}
use Rattle.copy_laws.specs.Relative.{SureOrInfinite, Least}

-- ---- a final weight of an accepted graph is tame or +∞

not_refused : {A : Type 0} (o : Option A) (rest : List (Option A)) → first_of (o ∷ rest) ≡ none → (o ≡ none) × (first_of rest ≡ none)
not_refused none rest e = (refl, e)
not_refused (some x) rest e = absurd (let z : ◌≡◌ {A = ℕ} 0 1 = cc in omega arith)

fair_final : (w : Float) → final_wrong w ≡ false → (tame w ≡ true) ⊎ (w ≡ ∞)
unfolding final_wrong tame lt neg
fair_final nan e = never (sym e)
fair_final (inf true) e = never (sym e)
fair_final (inf false) e = inr refl
fair_final (fin s m d) e = inl (go (tame (fin s m d)) (fin s m d ≺ ∞) (0f ≺ fin s m d) (is_true (lt_inf (fin s m d) tt)) e)
  where
    go : (t b c : Bool) → b ≡ true → (not t && not (not b && c)) ≡ false → t ≡ true
    go true b c p q = refl
    go false true c p q = never (sym q)
    go false false c p q = never p

fair_finals : (s : ℕ) (ws : List Float) → check_finals s ws ≡ none → (i : ℕ) → i < length ws → (tame (get_or ws i ∞) ≡ true) ⊎ (get_or ws i ∞ ≡ ∞)
fair_finals s [] e i h = absurd (omega arith)
fair_finals s (w ∷ ws) e zero h = fair_final w (passed (final_wrong w) (not_refused (refuse_at (at_state s) 5 (final_wrong w)) (check_finals (suc s) ws ∷ []) e).0)
  where
    passed : (b : Bool) → refuse_at (at_state s) 5 b ≡ none → b ≡ false
    passed true q = absurd (let z : ◌≡◌ {A = ℕ} 0 1 = cc in omega arith)
    passed false q = refl
fair_finals s (w ∷ ws) e (suc i) h =
    fair_finals (suc s) ws (not_refused (check_finals (suc s) ws) [] (not_refused (refuse_at (at_state s) 5 (final_wrong w)) (check_finals (suc s) ws ∷ []) e).1).0 i (omega arith)

final_fair : (g : Graph) → check_graph g ≡ none → (s : ℕ) → s < states g → (tame (final_weight g s) ≡ true) ⊎ (final_weight g s ≡ ∞)
unfolding check_graph
final_fair g e =
    let c4 = check_finals 0 g.finals in
    let c3 = check_states g 0 g.offsets in
    let c2 = refuse_at nowhere 2 (start_wrong g) in
    fair_finals 0 g.finals (not_refused c4 [] (not_refused c3 (c4 ∷ []) (not_refused c2 (c3 ∷ c4 ∷ []) (not_refused (refuse_at nowhere 1 (shape_wrong g)) (c2 ∷ c3 ∷ c4 ∷ []) e).1).1).1).0

least_of_lem : (P : Float → Type 0) (x y : Float) → P x → P y → P (fmin x y)
least_of_lem P x y p q = case (fmin_is x y) (λ e. subst P (sym e) p) (λ e. subst P (sym e) q)

first_cost : (x : Float) → T (finite x) → fmin ∞ x ≡ x
unfolding fmin
first_cost x f = let e : (x ≺ ∞) ≡ true = is_true (lt_inf x f) in rw e

least_step : (b : Float × Float) (x y : Float) → Sure 101 x → SureOrInfinite 101 y → Least b → Least (fmin b.0 x, fmin b.1 y)
least_step b x y sx sy (inl p) =
    inr (subst (Sure 101) (sym (ap (λ (z : Float). fmin z x) p.0 ∙ first_cost x (sure_finite 101 x sx))) sx, least_of_lem (SureOrInfinite 101) b.1 y (inl p.1) sy)
least_step b x y sx sy (inr p) = inr (least_of_lem (Sure 101) b.0 x p.0 sx, least_of_lem (SureOrInfinite 101) b.1 y p.1 sy)

module _ (g : Graph) (passed : check_graph g ≡ none) (floats : Floats32 g) (fs : List Heard) (st : State) (active : Active g fs st.table st.seq st.fresh) where
  token_cost_lem : (s : ℕ) (t : Token) → At st.table s t → Sure 101 t.cost
  token_cost_lem s t e =
      let d = (active.sound s t e).sums in
      record { size = at_most_mono (2 ^ 100) (2 ^ 101) t.cost (lit≤ tt) (tame_small t.cost (holds d.cost_tame)); signed = d.cost }

  final_cost : (s : ℕ) (t : Token) → At st.table s t → SureOrInfinite 101 (t.cost ⊕ final_weight g s)
  final_cost s t e =
      let d = (active.sound s t e).sums in
      let fw = final_weight g s in
      let i : s < states g = subst (λ (n : ℕ). s < n) active.long (at_length st.table s t e) in
      case (final_fair g passed s i)
      (λ f. inr (record { size = tame-add t.cost fw (holds d.cost_tame) (holds f); signed = signed_add t.cost fw d.cost (floats.finals fw (at_member g.finals s ∞ i)) }))
      (λ f. inl (ap (λ (x : Float). t.cost ⊕ x) f ∙ add_inf binary32 t.cost false (tame_finite t.cost (holds d.cost_tame))))

  least_from_lem : (s : ℕ) (ts : Table) (b : Float × Float) → ((i : ℕ) (t : Token) → At ts i t → At st.table (i + s) t) → Least b → Least (least_from g s ts b)
  least_from_lem s [] b f l = l
  least_from_lem s (none ∷ ts) b f l = least_from_lem (suc s) ts b (λ i t e. subst (λ (k : ℕ). At st.table k t) (omega arith) (f (suc i) t e)) l
  least_from_lem s (some t ∷ ts) b f l =
      let e : At st.table s t = subst (λ (k : ℕ). At st.table k t) (zero-add s) (f 0 t refl) in
      least_from_lem (suc s) ts (fmin b.0 t.cost, fmin b.1 (t.cost ⊕ final_weight g s)) (λ i u q. subst (λ (k : ℕ). At st.table k u) (omega arith) (f (suc i) u q)) (least_step b t.cost (t.cost ⊕ final_weight g s) (token_cost_lem s t e) (final_cost s t e) l)

  pub relative_cost_sure : SureOrInfinite 102 (final_relative_cost g st)
  unfolding final_relative_cost
  relative_cost_sure = go (least_from g 0 st.table (∞, ∞)) (least_from_lem 0 st.table (∞, ∞) (λ i t e. subst (λ (k : ℕ). At st.table k t) (sym (add-zero i)) e) (inl (refl, refl)))
    where
      less : (x y : Float) → SureOrInfinite 101 y → Sure 101 x → SureOrInfinite 102 (y ⊖ x)
      less x y (inl e) s = inl (ap (λ (z : Float). z ⊖ x) e ∙ sub_is binary32 ∞ x ∙ inf_add binary32 false (neg x) (neg_finite x (sure_finite 101 x s)))
      less x y (inr p) s = inr (record { size = small-sub binary32 101 y x (lit< tt) p.size s.size; signed = signed_sub y x p.signed s.signed.0 })

      go : (b : Float × Float) → Least b → SureOrInfinite 102 (cond (not (finite b.0) && not (finite b.1)) ∞ (b.1 ⊖ b.0))
      go b (inl p) = inl (ap₂ (λ (x y : Float). cond (not (finite x) && not (finite y)) ∞ (y ⊖ x)) p.0 p.1)
      go b (inr p) = let e : finite b.0 ≡ true = is_true (sure_finite 101 b.0 p.0) in rw e (less b.0 b.1 p.1 p.0)
