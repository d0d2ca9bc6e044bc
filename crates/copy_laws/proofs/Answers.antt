-- What each read answers where the copy stands as it does after every list of calls. Assumes nothing.
use Rattle.std.specs.Prelude.{◌≡◌, ℕ, Bool, take, ℤ, Float}
use Rattle.std.proofs.Math.Path.{refl, sym, ap, subst}
use Rattle.std.proofs.Common.{◌∙◌}
use Rattle.std.proofs.Math.Bool.{true, false, cond}
use Rattle.std.proofs.Math.Option.{Option, none, some}
use mathlib.Core.List.Memᴰ.{head as here}
use mathlib.Core.List.{List, [], ◌∷◌, map, head?}
use Rattle.std.proofs.Math.Dec.{T}
use Rattle.lists.specs.Lists.{◌∈◌}
use Rattle.lists.specs.Members.{take_from, map_from}
use Rattle.lists.specs.Count.{Nodup}
use Rattle.real32.specs.Order.{le_trans}
use Rattle.model.specs.Basics.{◌≼◌, ◌⊕◌, 0f}
use Rattle.model.specs.Graph.{Graph, is_final, final_weight}
use Rattle.model.specs.Path.{Token}
use Rattle.model.specs.Passes.{State}
use Rattle.model.specs.Reads.{Ranked, use_finals, rank_one, ranked, Traced, trace, best_path, Group, grouped, trace_groups, alternatives}
use Rattle.model.specs.Readings.{readings}
use Rattle.model.specs.Calls.{Reading, reading_of}
use Rattle.model.specs.Checked.{GoodGraph}
use Rattle.copy_laws.specs.Walks.{words_along, sum_of}
use Rattle.copy_laws.specs.Routes.{along}
use Rattle.copy_laws.proofs.Routes.{trace_words}
use Rattle.copy_laws.specs.Tables.{At}
use Rattle.copy_laws.specs.Sums.{Floats32}
use Rattle.copy_laws.specs.Points.{Point, Stands}
use Rattle.copy_laws.specs.Ranks.{end_weight, RankedAt}
use Rattle.copy_laws.proofs.Ranks.{ranked_at_lem, ranked_final, zero_more, plain_rank, plain_ranked}
use Rattle.copy_laws.proofs.Sooner.{first_least}
use Rattle.copy_laws.specs.Listed.{Listed}
use Rattle.copy_laws.proofs.Listed.{grouped_own, readings_listed_lem}
use Rattle.copy_laws.specs.Distinct.{group_words}
use Rattle.copy_laws.proofs.Distinct.{readings_distinct, alternatives_distinct, reading_traces_distinct}
use Rattle.copy_laws.proofs.Stamps.{trace_frames}
use Rattle.copy_laws.specs.Segments.{Tiles}
use Rattle.copy_laws.proofs.Segments.{own_segments, no_segments}
use Rattle.copy_laws.specs.Claims.{OnePath, OneTrace, Own, Best, BestOrNone, Alternatives, Readings}

module _ (g : Graph) (good : GoodGraph g) (floats : Floats32 g) (pt : Point) (h : Stands g pt) (f : Bool) where
  abbrev st : State
  st = pt.state

  abbrev finals : Bool
  finals = use_finals g st f

  -- ---- along a route of an active token's path

  one_path : (route : List ℕ) (s : ℕ) (t : Token) → At st.table s t → (finals ≡ true → is_final g s ≡ true) → (ws : List ℤ) → ws ≡ words_along (along route t.path) → OnePath g pt finals ws
  one_path route s t a e ws q =
      let w = (h.standing.active.sound s t a).walks route in
      record { route = along route t.path; end = s; walk = w; frames = w.frames ∙ sym h.standing.frames; final = e; words = q }

  one_trace : (route : List ℕ) (s : ℕ) (t : Token) → At st.table s t → (finals ≡ true → is_final g s ≡ true) → (cost : Float) → OneTrace g pt finals (trace st.frames route t.path cost)
  unfolding one_path
  one_trace route s t a e cost =
      let d = h.standing.active.sound s t a in
      record { path = one_path route s t a e (trace st.frames route t.path cost).words (trace_words st.frames route t.path cost); stamps = trace_frames g pt.heard st.frames route t.path cost d.forks d.marked }

  cost_is : (r : Ranked) (a : RankedAt g finals st.table r) → r.cost ≡ cond finals (r.token.cost ⊕ final_weight g a.state) r.token.cost
  unfolding rank_one
  cost_is r a = ap (λ (x : Ranked). x.cost) a.is ∙ go finals
    where
      go : (b : Bool) → r.token.cost ⊕ end_weight g b a.state ≡ cond b (r.token.cost ⊕ final_weight g a.state) r.token.cost
      go true = refl
      go false = zero_more g pt.heard st h.standing.active a.state r.token a.at

  plain_at : (b : Bool) → b ≡ false → (r : Ranked) → RankedAt g b st.table r → RankedAt g false st.table r
  plain_at b e r a = subst (λ (c : Bool). RankedAt g c st.table r) e a

  -- a ranked token's own path
  own_path : (r : Ranked) → r ∈ ranked g st f → Own g pt finals (trace st.frames [] r.token.path r.cost)
  unfolding one_path one_trace trace
  own_path r m =
      let t = r.token in
      let tr = trace st.frames [] t.path r.cost in
      let a = ranked_at_lem g st f r m in
      let d = h.standing.active.sound a.state t a.at in
      let w = d.walks [] in
      let segs = own_segments g good st.frames a.state t.path r.cost d.marked w.leads (w.frames ∙ sym h.standing.frames) in
      record {
        trace = one_trace [] a.state t a.at (ranked_final g finals st.table r a) r.cost;
        tiles = segs.0;
        none_at_0 = λ e. no_segments tr.phones (subst (λ (n : ℕ). Tiles 0 n tr.phones) e segs.0);
        spells = segs.1;
        sum = cost_is r a ∙ ap (λ (x : Float). cond finals (x ⊕ final_weight g a.state) x) d.cost;
      }

  -- ---- the best path

  abbrev Uncut : Type 0
  Uncut = pt.cut ≡ false

  best_some : (r : Ranked) (rs : List Ranked) → ranked g st f ≡ r ∷ rs → Best g pt Uncut finals (trace st.frames [] r.token.path r.cost)
  unfolding trace
  best_some r rs e =
      let m : r ∈ ranked g st f = subst (λ (l : List Ranked). r ∈ l) (sym e) (here refl) in
      let a = ranked_at_lem g st f r m in
      record {
        own = own_path r m;
        least = λ q s u route i w.
            let k = h.covered s u route i w in
            let y = rank_one false 0f k.0 in
            let n = plain_ranked g pt.heard st h.standing.active f q i k.0 k.1 in
            let pr = plain_rank g pt.heard st h.standing.active r (plain_at finals q r a) in
            let py = plain_rank g pt.heard st h.standing.active y (plain_at finals q y (ranked_at_lem g st f y n)) in
            let low = first_least g good floats pt.heard st h.standing.active f r rs e y n in
            le_trans r.cost k.0.cost (sum_of g pt.heard route)
            (subst (λ (x : Float). T (x ≼ k.0.cost)) (pr.0 ∙ sym pr.1) (subst (λ (x : Float). T (r.rank ≼ x)) (py.0 ∙ token_is k.0) low)) k.2;
      }
    where
      token_is : (t : Token) → (rank_one false 0f t).token.cost ≡ t.cost
      token_is t = unfold rank_one in refl

  pub best_right : BestOrNone g pt Uncut finals (best_path g st f)
  unfolding best_path
  best_right = go (ranked g st f) refl
    where
      go : (l : List Ranked) → ranked g st f ≡ l → BestOrNone g pt Uncut finals (elim (head? l) as (λ x. Option Traced) [ none ↦ none | some r ↦ some (trace st.frames [] r.token.path r.cost) ])
      go [] e = λ q s u route i w. let k = h.covered s u route i w in elim (subst (λ (l : List Ranked). rank_one false 0f k.0 ∈ l) e (plain_ranked g pt.heard st h.standing.active f q i k.0 k.1)) [ ]
      go (r ∷ rs) e = best_some r rs e

  -- ---- groups

  listed_path : (x : Group) → Listed g finals st.table x → (ws : List ℤ) → ws ≡ x.words → OnePath g pt finals ws
  listed_path x l ws e = one_path x.route l.state x.token l.at l.final ws (e ∙ l.words)

  traced_group : (max : ℕ) (xs : List Group) (tr : Traced) → tr ∈ trace_groups st max xs → (x : Group) × (x ∈ xs) × (tr ≡ trace st.frames x.route x.token.path x.cost)
  traced_group max xs tr m = let (x, n, e) = map_from (λ (x : Group). trace st.frames x.route x.token.path x.cost) (take max xs) tr m in (x, take_from max xs x n, e)

  traced_path : (max : ℕ) (xs : List Group) → ((x : Group) → x ∈ xs → Listed g finals st.table x) → (tr : Traced) → tr ∈ trace_groups st max xs → OneTrace g pt finals tr
  traced_path max xs l tr m =
      let (x, n, e) = traced_group max xs tr m in
      let y = l x n in
      subst (OneTrace g pt finals) (sym e) (one_trace x.route y.state x.token y.at y.final x.cost)

  -- an alternative is a ranked token's own path
  own_traced : (max : ℕ) (tr : Traced) → tr ∈ trace_groups st max (grouped g st f) → Own g pt finals tr
  own_traced max tr m =
      let (x, n, e) = traced_group max (grouped g st f) tr m in
      let (r, i, q) = grouped_own g st f x n in
      subst (Own g pt finals) (sym (e ∙ ap (λ (y : Group). trace st.frames y.route y.token.path y.cost) q)) (own_path r i)

  pub alternatives_right : (max : ℕ) → Alternatives g pt finals (alternatives g st f max)
  unfolding alternatives
  alternatives_right max = record { each = own_traced max; distinct = alternatives_distinct g st f max }

  same_words_lem : (xs : List Group) → map (λ (r : Reading). r.words) (map reading_of xs) ≡ group_words xs
  same_words_lem [] = refl
  same_words_lem (x ∷ xs) = ap (λ (l : List (List ℤ)). x.words ∷ l) (same_words_lem xs)

  pub readings_right : (n max : ℕ) → Readings g pt finals (map reading_of (readings g st f n).groups) (trace_groups st max (readings g st f n).groups)
  readings_right n max =
      let xs = (readings g st f n).groups in
      record {
        each = λ r m. let (x, i, e) = map_from reading_of xs r m in listed_path x (readings_listed_lem g st f n x i) r.words (ap (λ (y : Reading). y.words) e);
        distinct = subst Nodup (sym (same_words_lem xs)) (readings_distinct g st f n);
        traced = traced_path max xs (readings_listed_lem g st f n);
        traced_distinct = reading_traces_distinct g st f n max;
      }
