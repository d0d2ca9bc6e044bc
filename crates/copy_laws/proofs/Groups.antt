-- The Rust's `grouped` keeps the best token of each word list in a map, as it meets them, and then sorts; its `best_token` keeps the best so far. The definition sorts first, and gives the same. Assumes nothing.
use Rattle.std.specs.Prelude.{◌≡◌, refl, ◌⊎◌, Bool, true, false, cond, T}
use Rattle.std.proofs.Common.{sym, ap, ◌∙◌, inl, inr}
use Rattle.std.proofs.Math.Path.{subst}
use Rattle.std.proofs.Math.Option.{some}
use mathlib.Core.List.Memᴰ.{head as here}
use mathlib.Core.List.Memᴰ.{tail as there}
use mathlib.Core.List.{List, [], ◌∷◌, map, head?}
use Rattle.lists.specs.Tests.{case}
use Rattle.lists.specs.Lists.{◌∈◌, sort_by}
use Rattle.lists.specs.Members.{sort_from, map_from, map_to}
use Rattle.lists.specs.Order.{Perm, perm_member, perm_sym, Sorted, Strict, sort_to}
use Rattle.real32.specs.Order.{real}
use Rattle.model.specs.Graph.{Graph}
use Rattle.model.specs.Path.{same_words}
use Rattle.model.specs.Passes.{State}
use Rattle.model.specs.Reads.{Ranked, use_finals, rank_from, sooner, ranked, best_token, Group, own_group, grouped}
use Rattle.model.specs.Checked.{GoodGraph}
use Rattle.copy_laws.specs.Walks.{Heard}
use Rattle.copy_laws.specs.Sums.{Floats32}
use Rattle.copy_laws.specs.Active.{Active}
use Rattle.copy_laws.specs.Sooner.{rank_of as ranked_rank, seq_of as ranked_seq}
use Rattle.copy_laws.proofs.Sooner.{earlier_strict, one_seq, stays_is, has_rank, one_entry, ranked_total, ranked_sorted, first_soonest}
use Rattle.copy_laws.proofs.Labels.{words_alike, words_same}
use Rattle.copy_laws.proofs.Minima.{sort_minima}
use Rattle.copy_laws.proofs.Minima.{not_itself, Minima}
use Rattle.copy_laws.proofs.Folded.{map_minima}
use Rattle.copy_laws.proofs.Folded.{perm-map, perm_nodup}
use Rattle.copy_laws.specs.Groups.{words_of, rank_of, seq_of, group_order, old_stays, group_map, best_so_far, best_of}

module _ (g : Graph) (good : GoodGraph g) (floats : Floats32 g) (fs : List Heard) (st : State) (active : Active g fs st.table st.seq st.fresh) (f : Bool) where
  abbrev met : List Ranked
  met = rank_from g (use_finals g st f) 0 st.table

  in_ranked : (r : Ranked) → r ∈ met → r ∈ ranked g st f
  unfolding ranked
  in_ranked r m = sort_to sooner met r m

  in_met : (r : Ranked) → r ∈ ranked g st f → r ∈ met
  unfolding ranked
  in_met r m = sort_from sooner met r m

  abbrev Ordered : Group → Type 0
  Ordered x = T (real x.rank)

  own_of : (rs : List Ranked) (x : Group) → x ∈ map own_group rs → (r : Ranked) × (r ∈ rs) × (x ≡ own_group r)
  own_of rs x m = map_from own_group rs x m

  group_rank : (x : Group) → x ∈ map own_group (ranked g st f) → Ordered x
  group_rank x m = let (r, n, e) = own_of (ranked g st f) x m in subst Ordered (sym e) (has_rank g good floats fs st active f r n)

  group_total : (x y : Group) → x ∈ map own_group (ranked g st f) → y ∈ map own_group (ranked g st f) → group_order x y ≡ false → group_order y x ≡ false → x ≡ y
  group_total x y m n d e =
      let (r, i, p) = own_of (ranked g st f) x m in
      let (q, j, s) = own_of (ranked g st f) y n in
      let same : r ≡ q = one_entry g good floats fs st active f r q i j (sym (ap seq_of p) ∙ one_seq rank_of seq_of x y (group_rank x m) (group_rank y n) d e ∙ ap seq_of s) in
      p ∙ ap own_group same ∙ sym s

  map_sorted : (rs : List Ranked) → Sorted sooner rs → Sorted group_order (map own_group rs)
  map_sorted [] s = tt
  map_sorted (r ∷ rs) s = (λ y m. let (q, n, e) = own_of rs y m in ap (λ (x : Group). group_order x (own_group r)) e ∙ s.0 q n, map_sorted rs s.1)

  -- members, and not their order, make minima
  map_best : Minima words_of group_order (map own_group (ranked g st f)) (group_map met)
  unfolding group_map
  map_best =
      let to : (x : Group) → x ∈ map own_group met → x ∈ map own_group (ranked g st f) = λ x m. let (r, n, e) = own_of met x m in subst (λ (y : Group). y ∈ map own_group (ranked g st f)) (sym e) (map_to own_group (ranked g st f) r (in_ranked r n)) in
      let back : (x : Group) → x ∈ map own_group (ranked g st f) → x ∈ map own_group met = λ x m. let (r, n, e) = own_of (ranked g st f) x m in subst (λ (y : Group). y ∈ map own_group met) (sym e) (map_to own_group met r (in_met r n)) in
      let a = map_minima words_of same_words old_stays words_same words_alike group_order Ordered (earlier_strict rank_of seq_of) (λ old new p q. stays_is rank_of seq_of old new p q) (map own_group met) (λ x m. group_rank x (to x m)) in
      record { from = λ y m. to y (a.from y m); least = λ y x m n e. a.least y x m (back x n) e; each = λ x m. a.each x (back x m); apart = a.apart }

  -- In whatever order the map gives its entries out, sorted they are the definition's groups.
  pub grouped_right : (gs : List Group) → Perm (group_map met) gs → sort_by group_order gs ≡ grouped g st f
  unfolding grouped
  grouped_right gs p =
      let a = map_best in
      let back = perm_member (perm_sym p) in
      sort_minima words_of same_words words_same words_alike group_order Ordered (earlier_strict rank_of seq_of) (map own_group (ranked g st f)) gs group_rank group_total (map_sorted (ranked g st f) (ranked_sorted g good floats fs st active f))
      (record { from = λ y m. a.from y (back y m); least = λ y x m n e. a.least y x (back y m) n e; each = λ x m. let (y, n, e) = a.each x m in (y, perm_member p y n, e); apart = perm_nodup (perm-map words_of p) a.apart })

  -- ---- the Rust's `best_token`

  some_best : (b : Ranked) (rs all : List Ranked) → ((r : Ranked) → r ∈ all → r ∈ ranked g st f) → b ∈ all → ((r : Ranked) → r ∈ rs → r ∈ all) → ((r : Ranked) → r ∈ all → (r ∈ rs) ⊎ (sooner r b ≡ false)) → (best_so_far b rs ∈ all) × ((r : Ranked) → r ∈ all → sooner r (best_so_far b rs) ≡ false)
  some_best b [] all ok i k d = (i, λ r m. case (d r m) (λ n. elim n [ ]) (λ e. e))
  some_best b (x ∷ rs) all ok i k d = go (sooner x b) refl (λ c. some_best c rs all ok)
    where
      strict : Strict (λ (r : Ranked). T (real r.rank)) sooner
      strict = earlier_strict ranked_rank ranked_seq

      rank : (r : Ranked) → r ∈ all → T (real r.rank)
      rank r m = has_rank g good floats fs st active f r (ok r m)

      itself : sooner x x ≡ false
      itself = not_itself (λ (r : Ranked). T (real r.rank)) sooner strict x (rank x (k x (here refl)))

      Result : Ranked → Type 0
      Result c = (best_so_far c rs ∈ all) × ((r : Ranked) → r ∈ all → sooner r (best_so_far c rs) ≡ false)

      behind : (r : Ranked) → r ∈ (x ∷ rs) → (r ≡ x) ⊎ (r ∈ rs)
      behind r (here e) = inl e
      behind r (there m) = inr m

      go : (c : Bool) → sooner x b ≡ c → ((c : Ranked) → c ∈ all → ((r : Ranked) → r ∈ rs → r ∈ all) → ((r : Ranked) → r ∈ all → (r ∈ rs) ⊎ (sooner r c ≡ false)) → Result c) → Result (cond c x b)
      go true e rec =
          rec x (k x (here refl)) (λ r m. k r (there m)) λ r m.
          case (d r m) (λ n. case (behind r n) (λ q. inr (ap (λ (y : Ranked). sooner y x) q ∙ itself)) inl)
          (λ q. inr (strict.through r b x (rank r m) (rank b i) (rank x (k x (here refl))) q (strict.asym x b (rank x (k x (here refl))) (rank b i) e)))
      go false e rec = rec b i (λ r m. k r (there m)) λ r m. case (d r m) (λ n. case (behind r n) (λ q. inr (ap (λ (y : Ranked). sooner y b) q ∙ e)) inl) inr

  -- Looked for in ascending order of states, the best token is the first of the ranked ones.
  pub best_right : best_of met ≡ best_token g st f
  best_right = go met refl (ranked g st f) refl
    where
      go : (ms : List Ranked) → met ≡ ms → (rs : List Ranked) → ranked g st f ≡ rs → best_of ms ≡ head? rs
      go [] e [] q = refl
      go [] e (r ∷ rs) q = elim (subst (λ (l : List Ranked). r ∈ l) e (in_met r (subst (λ (l : List Ranked). r ∈ l) (sym q) (here refl)))) [ ]
      go (m ∷ ms) e [] q = elim (subst (λ (l : List Ranked). m ∈ l) q (in_ranked m (subst (λ (l : List Ranked). m ∈ l) (sym e) (here refl)))) [ ]
      go (m ∷ ms) e (r ∷ rs) q =
          let ok : (x : Ranked) → x ∈ (m ∷ ms) → x ∈ ranked g st f = λ x i. in_ranked x (subst (λ (l : List Ranked). x ∈ l) (sym e) i) in
          let head : r ∈ ranked g st f = subst (λ (l : List Ranked). r ∈ l) (sym q) (here refl) in
          let b = best_so_far m ms in
          let z = some_best m ms (m ∷ ms) ok (here refl) (λ x i. there i) (λ x i. first x i) in
          ap some (ranked_total g good floats fs st active f b r (ok b z.0) head (first_soonest g good floats fs st active f r rs q b (ok b z.0)) (z.1 r (subst (λ (l : List Ranked). r ∈ l) e (in_met r head))))
        where
          first : (x : Ranked) → x ∈ (m ∷ ms) → (x ∈ ms) ⊎ (sooner x m ≡ false)
          first x (here p) =
              let i : m ∈ ranked g st f = in_ranked m (subst (λ (l : List Ranked). m ∈ l) (sym e) (here refl)) in
              inr (ap (λ (y : Ranked). sooner y m) p ∙ not_itself (λ (r : Ranked). T (real r.rank)) sooner (earlier_strict ranked_rank ranked_seq) m (has_rank g good floats fs st active f m i))
          first x (there i) = inl i
