-- In a start every sum that is tested is tame: it goes over epsilon arcs alone, whose weights are not below 0, so that a total that passes the beam lies from 0 to the beam; and a graph sum is the total. So a start is refused by 13 or 14 alone. Assumes nothing.
use Rattle.std.specs.Prelude.{◌≡◌, ◌⊎◌, ℕ, suc, Bool, true, [], ◌∷◌, T, Float}
use Rattle.std.proofs.Math.Path.{refl, ap, subst}
use Rattle.std.proofs.Common.{sym, ◌∙◌}
use Rattle.std.proofs.Math.Logic.{inl, inr}
use Rattle.std.proofs.Math.Bool.{false}
use Rattle.std.proofs.Math.Option.{none}
use mathlib.Core.List.Memᴰ.{head as here}
use mathlib.Core.List.Memᴰ.{tail as there}
use Rattle.std.proofs.Math.ListN.{get_or}
use Rattle.std.specs.Float.Ieee.{binary32, add, lt, le, neg}
use Rattle.std.specs.Float.Ieee.Fits.{and_i}
use Rattle.lists.specs.Tests.{holds, fails, is_true, and_both, never}
use Rattle.lists.specs.Lists.{◌∈◌}
use Rattle.real32.specs.Order.{le_real_r, le_trans, not_le→lt, lt_le_trans, lt_trans}
use Rattle.real32.specs.Sum.{add_le, add_le_r}
use Rattle.real32.specs.Small.{huge, tame, tame_finite}
use Rattle.model.specs.Basics.{◌≺◌, ◌≼◌, ◌⊕◌, 0f, nowhere, Refusal}
use Rattle.model.specs.Graph.{Graph, Arc, states, arcs_of}
use Rattle.model.specs.Path.{Token, Table, Limits}
use Rattle.model.specs.Cutoff.{Config}
use Rattle.model.specs.Arrive.{nonemitting, takes, lower, total, Here, Work, arriving, joined}
use Rattle.model.specs.Passes.{State, no_tokens, during, start_token, start_work, start, dropped, fair}
use Rattle.model.specs.Calls.{start_call, refusal_answer, call}
use Rattle.model.proofs.Came.{Came, came_cut, came_vacant, came_better, came_dropped, came_joined}
use Rattle.model.specs.Checked.{GoodGraph}
use Rattle.copy_laws.proofs.Walks.{not_emits}
use Rattle.copy_laws.specs.Tables.{At}
use Rattle.copy_laws.proofs.Tables.{at_put, at_none}
use Rattle.copy_laws.proofs.Active.{with_loser}
use Rattle.copy_laws.specs.Refusals.{By, AnswerBy}
use Rattle.copy_laws.proofs.Refusals.{nonemitting_by}
use Rattle.copy_laws.proofs.Refusals.{Tamed, Steady, start_by, said_by_lem}
use Rattle.copy_laws.specs.StartSums.{Early}

start_early : Early start_token
unfolding start_token
start_early = record { up = unfold le lt in tt; same = refl }

sum_up : (x y : Float) → tame y ≡ true → T (0f ≼ x) → T (0f ≼ y) → T (0f ≼ x ⊕ y)
sum_up x y ty ux uy =
    le_trans 0f (0f ⊕ y) (x ⊕ y) (le_trans 0f (0f ⊕ 0f) (0f ⊕ y) (unfold add le lt in tt) (add_le_r binary32 0f 0f y tt uy)) (add_le binary32 0f x y (tame_finite y (holds ty)) ux)

-- below a fair beam, and not below 0
tame_below : (beam x : Float) → fair beam ≡ true → T (0f ≼ x) → (beam ≼ x) ≡ false → tame x ≡ true
unfolding fair tame
tame_below beam x f u e =
    let b = and_both (0f ≼ beam) (beam ≺ huge) f in
    let below : T (x ≺ beam) = not_le→lt beam x (le_real_r 0f beam (holds b.0)) (le_real_r 0f x u) (fails e) in
    is_true (and_i (lt x huge) (lt (neg huge) x) (lt_trans x beam huge below (holds b.1)) (lt_le_trans (neg huge) 0f x (unfold neg lt in tt) u))

module _ (h : Here) (good : GoodGraph h.graph) (beam : Float) (fair-beam : fair beam ≡ true) where
  -- the beam is the cutoff all along
  record Starting (w : Work) : Type 0 where
    cutoff : w.cutoff ≡ beam
    early : (s : ℕ) (t : Token) → At w.table s t → Early t

  module _ (s : ℕ) (t : Token) (a : Arc) (m : a ∈ arcs_of h.graph s) (k : takes nonemitting a ≡ true) (f : Early t) where
    total_up : T (0f ≼ total h.graph nonemitting t a)
    unfolding total
    total_up = sum_up t.cost a.weight (good.arc s a m).weight f.up ((good.arc s a m).epsilon (not_emits a k))

    sums_same : t.graph ⊕ a.weight ≡ total h.graph nonemitting t a
    unfolding total
    sums_same = ap (λ (x : Float). x ⊕ a.weight) f.same

    arriving_early : (n q : ℕ) (b : Bool) → Early (arriving h nonemitting t a n q b)
    unfolding arriving
    arriving_early n q b = record { up = total_up; same = sums_same }

    sums_tame : (w : Work) → Starting w → (w.cutoff ≼ total h.graph nonemitting t a) ≡ false → Tamed (13 ∷ 14 ∷ []) (here refl) (there (here refl)) h nonemitting t a
    sums_tame w j e =
        let x : tame (total h.graph nonemitting t a) ≡ true = tame_below beam (total h.graph nonemitting t a) fair-beam total_up (subst (λ (y : Float). (y ≼ total h.graph nonemitting t a) ≡ false) j.cutoff e) in
        record { cost = λ y. never (sym y ∙ x); graph = λ y. never (sym y ∙ ap tame sums_same ∙ x) }

    came_starting : (w v : Work) → Starting w → Came h nonemitting t a w v → Starting v
    unfolding lower joined
    came_starting w v j (came_cut c e) = subst Starting (sym e) j
    came_starting w v j (came_vacant c e l d q r) =
        record { cutoff = c.cutoff ∙ j.cutoff; early = at_put (λ i x. Early x) w.table v.table a.target _ d (arriving_early w.fresh (suc w.seq) false) (λ i x o y. j.early i x y) }
    came_starting w v j (came_better c held e b l u z d q r) =
        let new = arriving_early w.fresh held.seq false in
        record {
          cutoff = c.cutoff ∙ j.cutoff;
          early = at_put (λ i x. Early x) w.table v.table a.target u d
              (with_loser Early h (suc w.fresh) (arriving h nonemitting t a w.fresh held.seq false) held u z new (record { up = new.up; same = new.same })) (λ i x o y. j.early i x y);
        }
    came_starting w v j (came_dropped c held e b d q r) = record { cutoff = c.cutoff ∙ j.cutoff; early = λ i x y. j.early i x (ap (λ (ts : Table). get_or ts i none) (sym d) ∙ y) }
    came_starting w v j (came_joined c held e b d q r) =
        let old = j.early a.target held e in
        record { cutoff = c.cutoff ∙ j.cutoff; early = at_put (λ i x. Early x) w.table v.table a.target _ d (record { up = old.up; same = old.same }) (λ i x o y. j.early i x y) }

  starting_steady : Steady (13 ∷ 14 ∷ []) (here refl) (there (here refl)) h Starting Early
  starting_steady =
      record {
        tokens = λ w s t j e. j.early s t e;
        pops = λ w q j. record { cutoff = j.cutoff; early = j.early };
        step = λ s t a m k f w v j c. came_starting s t a m k f w v j c;
        tamed = λ s t a m k f w j e. sums_tame s t a m k f w j e;
      }

-- ---- a start

module _ (g : Graph) (c : Config) (good : GoodGraph g) (fair-beam : fair c.beam ≡ true) where
  start_only : (l : Limits) (st : State) → By (13 ∷ 14 ∷ []) (start g c l st)
  start_only l st =
      let h = during g l st 0 [] in
      start_by (13 ∷ 14 ∷ []) g c l st λ e.
      nonemitting_by (13 ∷ 14 ∷ []) (here refl) (there (here refl)) h (Starting h good c.beam fair-beam) Early (starting_steady h good c.beam fair-beam) (start_work g c) λ v b.
      record {
        cutoff = b.same.cutoff;
        early = λ s t i. at_put (λ j x. Early x) (no_tokens g) (start_work g c).table g.start start_token refl start_early (λ j x o y. at_none (states g) j x y) s t (ap (λ (ts : Table). get_or ts s none) (sym b.same.table) ∙ i);
      }

  pub start_refusals : (l : Limits) (st : State) (r : Refusal) → (call g c l start_call st).answer ≡ refusal_answer r → (r.number ≡ 13) ⊎ (r.number ≡ 14)
  unfolding call
  start_refusals l st r e = one r.number (subst (AnswerBy (13 ∷ 14 ∷ [])) e (said_by_lem (13 ∷ 14 ∷ []) (dropped g st) nowhere (start g c l st) (start_only l st)))
    where
      one : (n : ℕ) → n ∈ (13 ∷ 14 ∷ []) → (n ≡ 13) ⊎ (n ≡ 14)
      one n (here e) = inl e
      one n (there (here e)) = inr e
      one n (there (there m)) = elim m [ ]
