-- The ranked tokens: each is an active one, in a final state where finals count, of a rank that is finite and no −0; and where finals do not count every active one is ranked, by its cost. Assumes nothing.
use Rattle.std.specs.Prelude.{◌≡◌, refl, ℕ, zero, suc, ◌^◌, ◌<◌, Bool, cond, List, [], ◌∷◌, T, Float}
use Rattle.std.proofs.Common.{sym, ◌∙◌, add-zero, zero-add, arith, lit<, lit≤}
use Rattle.std.proofs.Math.Path.{ap, subst}
use Rattle.std.proofs.Math.Bool.{true, false}
use Rattle.std.proofs.Math.Option.{Option, none, some}
use mathlib.Core.List.Memᴰ.{head as here}
use mathlib.Core.List.Memᴰ.{tail as there}
use Rattle.std.specs.Float.Ieee.{binary32, fits, sub, add, neg, of_bits}
use Rattle.std.specs.Float.Ieee.Scale.{finite}
use Rattle.std.specs.Float.Ieee.Fits.{mul-fits}
use Rattle.lists.specs.Tests.{case, holds, is_true, never}
use Rattle.lists.specs.Lists.{◌∈◌}
use Rattle.lists.specs.Members.{at_member, sort_from}
use Rattle.lists.specs.Order.{sort_to}
use Rattle.real32.specs.Exact.{finite_r, add_zp}
use Rattle.real32.specs.Small.{at_most, at_most_finite, at_most_mono, at_most_mul, small, small-sub, rep_pow, tame, tame_small, tame_finite, tame-add}
use Rattle.model.specs.Basics.{◌⊕◌, ◌⊗◌, 0f, ∞}
use Rattle.model.specs.Graph.{Graph, states, final_weight, is_final}
use Rattle.model.specs.Path.{Token, Table}
use Rattle.model.specs.Passes.{State}
use Rattle.model.specs.Reads.{Ranked, use_finals, rank_one, rank_from, sooner, ranked}
use Rattle.model.specs.Checked.{GoodGraph}
use Rattle.copy_laws.specs.Walks.{Heard}
use Rattle.copy_laws.specs.Tables.{At}
use Rattle.copy_laws.proofs.Tables.{none≢some, at_length}
use Rattle.copy_laws.specs.Sums.{Floats32}
use Rattle.copy_laws.proofs.Sums.{signed_add, signed_sub}
use Rattle.copy_laws.specs.Active.{Active}
use Rattle.copy_laws.specs.Ranks.{end_weight, RankedAt, RankedFrom, share, Sure}

further : (g : Graph) (finals : Bool) (s : ℕ) (o : Option Token) (ts : Table) (r : Ranked) → RankedFrom g finals (suc s) ts r → RankedFrom g finals s (o ∷ ts) r
further g finals s o ts r a =
    record { place = suc a.place; at = a.at; is = a.is ∙ ap (λ (k : ℕ). rank_one finals (end_weight g finals k) r.token) (omega arith); counts = a.counts }

rank_token : (finals : Bool) (w : Float) (t : Token) → (rank_one finals w t).token ≡ t
unfolding rank_one
rank_token finals w t = refl

rank_from_lem : (g : Graph) (finals : Bool) (s : ℕ) (ts : Table) (r : Ranked) → r ∈ rank_from g finals s ts → RankedFrom g finals s ts r
unfolding rank_from
rank_from_lem g finals s [] r m = elim m [ ]
rank_from_lem g finals s (none ∷ ts) r m = further g finals s none ts r (rank_from_lem g finals (suc s) ts r m)
rank_from_lem g finals s (some t ∷ ts) r m = go (finite q.cost) refl m (rank_from_lem g finals (suc s) ts r)
  where
    q : Ranked
    q = rank_one finals (end_weight g finals s) t

    go : (b : Bool) → finite q.cost ≡ b → r ∈ cond b (q ∷ rank_from g finals (suc s) ts) (rank_from g finals (suc s) ts) → (r ∈ rank_from g finals (suc s) ts → RankedFrom g finals (suc s) ts r) → RankedFrom g finals s (some t ∷ ts) r
    go true f (here e) rec =
        let tk : r.token ≡ t = ap (λ (x : Ranked). x.token) e ∙ rank_token finals (end_weight g finals s) t in
        record {
          place = 0;
          at = ap some (sym tk);
          is = e ∙ ap (λ (x : Token). rank_one finals (end_weight g finals s) x) (sym tk) ∙ ap (λ (k : ℕ). rank_one finals (end_weight g finals k) r.token) (sym (zero-add s));
          counts = ap (λ (x : Ranked). finite x.cost) e ∙ f;
        }
    go true f (there n) rec = further g finals s (some t) ts r (rec n)
    go false f m rec = further g finals s (some t) ts r (rec m)

pub ranked_at_lem : (g : Graph) (st : State) (f : Bool) (r : Ranked) → r ∈ ranked g st f → RankedAt g (use_finals g st f) st.table r
unfolding ranked
ranked_at_lem g st f r m =
    let finals = use_finals g st f in
    let a = rank_from_lem g finals 0 st.table r (sort_from sooner (rank_from g finals 0 st.table) r m) in
    record { state = a.place; at = a.at; is = a.is ∙ ap (λ (k : ℕ). rank_one finals (end_weight g finals k) r.token) (add-zero a.place); counts = a.counts }

-- where finals count its state is final
pub ranked_final : (g : Graph) (finals : Bool) (ts : Table) (r : Ranked) (a : RankedAt g finals ts r) → finals ≡ true → is_final g a.state ≡ true
unfolding rank_one
ranked_final g finals ts r a e =
    let s = a.state in
    let c : r.cost ≡ r.token.cost ⊕ final_weight g s = ap (λ (x : Ranked). x.cost) a.is ∙ ap (λ (b : Bool). r.token.cost ⊕ end_weight g b s) e in
    is_true (finite_r binary32 r.token.cost (final_weight g s) (subst (λ (x : Float). T (finite x)) c (holds a.counts)))

-- ---- where finals do not count

pub rank_in_lem : (g : Graph) (k : ℕ) (ts : Table) (i : ℕ) (t : Token) → At ts i t → finite (t.cost ⊕ 0f) ≡ true → rank_one false 0f t ∈ rank_from g false k ts
unfolding rank_from rank_one
rank_in_lem g k [] i t e f = none≢some t e
rank_in_lem g k (none ∷ ts) zero t e f = none≢some t e
rank_in_lem g k (none ∷ ts) (suc i) t e f = rank_in_lem g (suc k) ts i t e f
rank_in_lem g k (some u ∷ ts) zero t e f = go (finite (u.cost ⊕ 0f)) (ap (λ (x : Token). finite (x.cost ⊕ 0f)) same ∙ f)
  where
    same : u ≡ t
    same = cc

    go : (b : Bool) → b ≡ true → rank_one false 0f t ∈ cond b (rank_one false 0f u ∷ rank_from g false (suc k) ts) (rank_from g false (suc k) ts)
    go true q = here (ap (rank_one false 0f) (sym same))
    go false q = never q
rank_in_lem g k (some u ∷ ts) (suc i) t e f = go (finite (u.cost ⊕ 0f)) (rank_in_lem g (suc k) ts i t e f)
  where
    go : (b : Bool) → rank_one false 0f t ∈ rank_from g false (suc k) ts → rank_one false 0f t ∈ cond b (rank_one false 0f u ∷ rank_from g false (suc k) ts) (rank_from g false (suc k) ts)
    go true m = there m
    go false m = m

module _ (g : Graph) (fs : List Heard) (st : State) (active : Active g fs st.table st.seq st.fresh) where
  pub zero_more : (s : ℕ) (t : Token) → At st.table s t → t.cost ⊕ 0f ≡ t.cost
  zero_more s t e = let z = (active.sound s t e).sums.cost in add_zp binary32 t.cost z.0 z.1

  -- rank and cost are the token's cost
  pub plain_rank : (r : Ranked) → RankedAt g false st.table r → (r.rank ≡ r.token.cost) × (r.cost ≡ r.token.cost)
  unfolding rank_one
  plain_rank r a = let z = zero_more a.state r.token a.at in (ap (λ (x : Ranked). x.rank) a.is ∙ z, ap (λ (x : Ranked). x.cost) a.is ∙ z)

  -- every active token is ranked
  pub plain_ranked : (f : Bool) → use_finals g st f ≡ false → (s : ℕ) (t : Token) → At st.table s t → rank_one false 0f t ∈ ranked g st f
  unfolding ranked
  plain_ranked f e s t a =
      sort_to sooner (rank_from g (use_finals g st f) 0 st.table) (rank_one false 0f t)
      (subst (λ (b : Bool). rank_one false 0f t ∈ rank_from g b 0 st.table) (sym e)
      (rank_in_lem g 0 st.table s t a (ap finite (zero_more s t a) ∙ is_true (tame_finite t.cost (holds (active.sound s t a).sums.cost_tame)))))

pub share_small : T (at_most 1 share)
unfolding sub add neg of_bits
share_small = tt

pub share_shrinks : (k : ℕ) (x : Float) → k < 127 → T (small k x) → T (small k (share ⊗ x))
share_shrinks k x i s = at_most_mul binary32 (2 ^ k) share x (rep_pow binary32 k (omega arith)) share_small s

pub sure_finite : (k : ℕ) (x : Float) → Sure k x → T (finite x)
sure_finite k x d = at_most_finite (2 ^ k) x d.size

module _ (g : Graph) (good : GoodGraph g) (floats : Floats32 g) (fs : List Heard) (st : State) (active : Active g fs st.table st.seq st.fresh) where
  final_fits : (s : ℕ) → s < states g → T (fits binary32 (final_weight g s))
  final_fits s i = floats.finals (final_weight g s) (at_member g.finals s ∞ i)

  final_tame : (s : ℕ) → s < states g → is_final g s ≡ true → tame (final_weight g s) ≡ true
  final_tame s i e = case (good.final s i) (λ t. t) (λ q. never (sym q ∙ e))

  -- of every active token that counts, whether finals count or not
  pub sure_at : (b : Bool) (r : Ranked) → RankedAt g b st.table r → Sure 102 r.rank × Sure 101 r.cost
  unfolding rank_one
  sure_at false r a =
      let z = plain_rank g fs st active r a in
      let d = (active.sound a.state r.token a.at).sums in
      let small-cost = tame_small r.token.cost (holds d.cost_tame) in (
        subst (Sure 102) (sym z.0) (record { size = at_most_mono (2 ^ 100) (2 ^ 102) r.token.cost (lit≤ tt) small-cost; signed = d.cost }),
        subst (Sure 101) (sym z.1) (record { size = at_most_mono (2 ^ 100) (2 ^ 101) r.token.cost (lit≤ tt) small-cost; signed = d.cost }),
      )
  sure_at true r a =
      let t = r.token in
      let s = a.state in
      let fw = final_weight g s in
      let i : s < states g = subst (λ (n : ℕ). s < n) active.long (at_length st.table s t a.at) in
      let tf = holds (final_tame s i (ranked_final g true st.table r a refl)) in
      let d = (active.sound s t a.at).sums in
      let c = tame-add t.cost fw (holds d.cost_tame) tf in
      let e = share_shrinks 101 (t.graph ⊕ fw) (lit< tt) (tame-add t.graph fw (holds (active.light s t a.at)) tf) in
      let cs = signed_add t.cost fw d.cost (final_fits s i) in (
        subst (Sure 102) (sym (ap (λ (x : Ranked). x.rank) a.is))
            (record { size = small-sub binary32 101 (t.cost ⊕ fw) (share ⊗ (t.graph ⊕ fw)) (lit< tt) c e; signed = signed_sub (t.cost ⊕ fw) (share ⊗ (t.graph ⊕ fw)) cs (mul-fits binary32 share (t.graph ⊕ fw)) }),
        subst (Sure 101) (sym (ap (λ (x : Ranked). x.cost) a.is)) (record { size = c; signed = cs }),
      )

  pub ranked_sure : (f : Bool) (r : Ranked) → r ∈ ranked g st f → Sure 102 r.rank × Sure 101 r.cost
  ranked_sure f r m = sure_at (use_finals g st f) r (ranked_at_lem g st f r m)
