-- Of a table that the copy can have, no token that counts has a NaN for its rank. Assumes nothing.
use Rattle.std.specs.Prelude.{◌≡◌, refl, ℕ, ◌≤◌, ◌<◌, Bool, true, false, not, cond, List, length, Float, Some, None}
use Rattle.std.proofs.Common.{sym, ap₂, ◌∙◌, arith}
use Rattle.std.proofs.Math.Path.{ap, subst}
use Rattle.std.proofs.Math.Dec.{T}
use Rattle.std.specs.Float.Ieee.{is_nan}
use Rattle.std.specs.Float.Ieee.Scale.{finite}
use Rattle.real32.specs.Order.{real_is, finite_real}
use Rattle.model.specs.Basics.{◌⊕◌}
use Rattle.model.specs.Graph.{Graph}
use Rattle.model.specs.Passes.{State}
use Rattle.model.specs.Reads.{rank_one}
use Rattle.model.specs.Checked.{GoodGraph}
use Rattle.copy_laws.specs.Walks.{Heard}
use Rattle.copy_laws.specs.Sums.{Floats32}
use Rattle.copy_laws.specs.Active.{Active}
use Rattle.copy_laws.specs.Ranks.{end_weight}
use Rattle.copy_laws.proofs.Ranks.{sure_at, sure_finite}
use Rattle.tokens.specs.declared.Token.{Token as Stored}
use Rattle.tokens.specs.Layout.{held_at, place_in}
use Rattle.records.specs.History.{History}
use Rattle.stores.specs.Shown.{Shown}
use Rattle.stores.specs.Tables.{active_at, stored_is}
use Rattle.traceback.specs.declared.Candidate.{Candidate}
use Rattle.traceback.specs.Ranks.{rank_in, candidate_of, candidate_at}
use Rattle.traceback.specs.Ranking.{candidate_is, weight_is}

-- a candidate is a token's own, and that one counts
only : (f : Bool) (x c : Candidate) → cond f (Some x) None ≡ Some c → (f ≡ true) × (c ≡ x)
only true x c e = (refl, cc)
only false x c e = let z : ◌≡◌ {A = ℕ} 0 1 = cc in absurd (omega arith)

candidate_only : (s : ℕ) (t : Stored) (w : Float) (counts : Bool) (c : Candidate) → candidate_of s t w counts ≡ Some c
    → (finite (t.cost ⊕ w) ≡ true) × (c ≡ record { state = s; link = t.link; seq = t.seq; rank = rank_in (t.cost ⊕ w) t.graph w counts; cost = t.cost ⊕ w })
unfolding candidate_of
candidate_only s t w counts c e = only (finite (t.cost ⊕ w)) (record { state = s; link = t.link; seq = t.seq; rank = rank_in (t.cost ⊕ w) t.graph w counts; cost = t.cost ⊕ w }) c e

module _ (g : Graph) (good : GoodGraph g) (floats : Floats32 g) (heard : List Heard) (st : State) (active : Active g heard st.table st.seq st.fresh) where
  pub ranks_known : {h : ℕ → History} {used : ℕ} {tk : List ℕ} {sm : List Float} {b n : ℕ} → Shown h used tk sm b n st.table → (fs : List Float) → g.finals ≡ fs → n ≤ length fs
      → (counts : Bool) (s : ℕ) → s < n → (held_at tk (place_in b s) ≡ 0 → ⊥) → (c : Candidate) → candidate_at tk sm fs b s counts ≡ Some c → T (not (is_nan c.rank))
  unfolding rank_one
  ranks_known {h} {used} {tk} {sm} {b} {n} w fs q long counts s l d c e =
      let a = active_at w s l d in
      let x = end_weight g counts s in
      let one = rank_one counts x a.token in
      let k = candidate_only s a.stored x counts c (sym (ap₂ (λ (t : Stored) (u : Float). candidate_of s t u counts) (stored_is w a) (weight_is g fs s counts q (omega arith))) ∙ e) in
      let is = candidate_is h used n st.table s l a.stored a.token a.at a.is x counts in
      let sure = sure_at g good floats heard st active counts one (record { state = s; at = a.at; is = refl; counts = ap finite (sym is.cost) ∙ k.0 }) in
      let fin = subst (λ (y : Float). T (finite y)) (sym (ap (λ (y : Candidate). y.rank) k.1 ∙ is.rank)) (sure_finite 102 one.rank sure.0) in
      subst T (real_is c.rank) (finite_real c.rank fin)
