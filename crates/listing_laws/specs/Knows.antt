-- What a situation knows of the readings that merges kept: numbers, ranks and routes. Assumes nothing.
use Rattle.std.specs.Prelude.{◌≡◌, ℕ, ◌≤◌, ◌<◌, Bool, T, ℤ, length, Float}
use Rattle.std.proofs.Common.{sym, ap, ◌∙◌, arith}
use Rattle.std.proofs.Math.Path.{subst}
use Rattle.std.proofs.Math.Option.{Option, some}
use mathlib.Core.List.{List, [], tail}
use Rattle.lists.specs.Lists.{◌∈◌, keep_if}
use Rattle.real32.specs.Order.{real}
use Rattle.real32.specs.Small.{huge}
use Rattle.model.specs.Basics.{◌≺◌, ◌≼◌, 0f}
use Rattle.model.specs.Graph.{Graph}
use Rattle.model.specs.Path.{Path, empty_path, arc_onto, branch_on, Token}
use Rattle.model.specs.Reads.{Ranked, rank_one, ranked, use_finals}
use Rattle.model.specs.Readings.{Below, below, heads, kept_of, kept_below}
use Rattle.copy_laws.specs.Walks.{Heard}
use Rattle.copy_laws.specs.Tables.{At}
use Rattle.copy_laws.proofs.Tables.{at_length}
use Rattle.copy_laws.specs.Shapes.{Forks, Differences}
use Rattle.copy_laws.proofs.Shapes.{differences}
use Rattle.copy_laws.proofs.Ranks.{ranked_at_lem}
use Rattle.copy_laws.proofs.Listed.{kept_by_lem}
use Rattle.copy_laws.proofs.Costs.{fair_margin_lem}
use Rattle.stores.specs.Shown.{Is, Shows, shows_token}
use Rattle.histories.specs.Laws.{Numbered}
use Rattle.stores.specs.Tables.{active_at}
use Rattle.ranking.specs.Ranked.{token_in}
use Rattle.below.specs.Lists.{below_of, Dearer}
use Rattle.below.specs.Paths.{below_history, dearer_of}
use Rattle.below.specs.Lengths.{below_route}
use Rattle.below.specs.Owned.{below_own_first}
use Rattle.kept_readings.specs.Meaning.{kept_within}
use Rattle.kept_readings.specs.Whole.{kept_rank, Orderly}
use Rattle.listing_laws.specs.Situation.{Situation, Held}
use Rattle.listing_laws.specs.Known.{kept_key, way_has_rank, Known}
use Rattle.listing_laws.specs.Owns.{rank_in}
use Rattle.listing_laws.specs.Orderly.{orderly}

-- a path's newest branch has a number
numbered_of : (g : Graph) (fs : List Heard) (p : Path) → Forks g fs p → Numbered p
numbered_of g fs empty_path d = tt
numbered_of g fs (arc_onto x p) d = numbered_of g fs p d
numbered_of g fs (branch_on m k p) d = d.0.numbered

module _ {tk : List ℕ} {sm fs : List Float} {rs : List ℕ} {ls : List ℤ} {gs : List Float} {n b used : ℕ} {keeps : Bool} {margin : Float} (S : Situation tk sm fs rs ls gs n b used keeps margin) where
  -- the record that an active token's path is the history of
  path_of_lem : (s : ℕ) (t : Token) → At S.st.table s t → (l : ℕ) × Is S.h used l t.path
  path_of_lem s t e = go (subst (Shows S.h used _) e (S.shown.place s (let z = at_length S.st.table s t e in let y = S.shown.size in omega arith)))
    where
      go : {c : _} → Shows S.h used c (some t) → (l : ℕ) × Is S.h used l t.path
      go (shows_token y q i) = (y.link, i.link)

  -- so an active state's token has it
  pub numbered : (counts : Bool) (s : ℕ) → Held tk b n s → Numbered (rank_in S counts s).token.path
  unfolding rank_one
  numbered counts s (l, d) =
      let a = active_at S.shown s l d in
      subst (λ (o : Option Token). Numbered (token_in o).path) (sym a.at) (numbered_of S.g S.heard a.token.path (S.standing.active.sound s a.token a.at).forks)

  module _ (has_margin : S.st.margin ≡ some margin) (few_records : used ≤ 1_048_576) (f : Bool) (bound : Float) (cap : ℕ) (some-cap : 0 < cap) where
    up : T (0f ≼ margin)
    up = (fair_margin_lem S.g S.heard S.st S.standing margin has_margin).0

    -- the margin is small
    pub low : T (margin ≺ huge)
    low = (fair_margin_lem S.g S.heard S.st S.standing margin has_margin).1

    module _ (r : Ranked) (m : r ∈ ranked S.g S.st f) where
      where_is : (l : ℕ) × Is S.h used l r.token.path
      where_is = let a = ranked_at_lem S.g S.st f r m in path_of_lem a.state r.token a.at

      apart : Differences r.token.path
      apart = let a = ranked_at_lem S.g S.st f r m in differences S.g S.heard r.token.path (S.standing.active.sound a.state r.token a.at).forks

      listed_is : below margin cap r.token.path ≡ below_of margin cap (S.h where_is.0)
      listed_is = let i = where_is.1 in below_history margin cap r.token.path i.own i.frames ∙ ap (below_of margin cap) (sym i.is)

      -- few kept paths are taken
      pub route_few : (w : Below) → w ∈ below margin cap r.token.path → length w.route ≤ used
      route_few w k =
          let i = where_is.1 in
          let z = below_route S.stands margin cap where_is.0 i.low w (subst (λ (l : List Below). w ∈ l) listed_is k) in
          let y = i.low in
          omega arith

      -- but by the first way some
      route_some : (w : Below) → w ∈ tail (below margin cap r.token.path) → w.route ≡ [] → ⊥
      route_some w k =
          let i = where_is.1 in
          let o = below_own_first margin low up cap some-cap (S.h where_is.0) (subst Dearer (sym i.is) (dearer_of r.token.path apart)) in
          o.routed w (subst (λ (l : List Below). w ∈ tail l) (listed_is ∙ o.is) k)

      rank_real : (finals : Bool) (w : Below) → w ∈ below margin cap r.token.path → T (real (kept_rank (kept_of finals r w)))
      rank_real finals w k = way_has_rank S.g S.good S.floats S.heard S.st S.standing margin has_margin f finals cap r m w k (let z = route_few w k in omega arith)

    -- what the heads keep has ranks, and no two of one key are level
    pub met_orderly : Orderly (keep_if (kept_within bound) (kept_below (use_finals S.g S.st f) margin cap (heads (use_finals S.g S.st f) bound (ranked S.g S.st f))))
    met_orderly =
        orderly S.g S.good S.floats S.heard S.st S.standing.active f (use_finals S.g S.st f) margin bound cap (λ r m. rank_real r m (use_finals S.g S.st f))

    -- and so do the routes
    pub known : Known S.g S.heard S.st f margin bound cap
    known =
        record {
          good = S.good;
          floats = S.floats;
          standing = S.standing;
          has_margin = has_margin;
          few = λ k m.
              let d = kept_by_lem S.g S.st f margin bound cap k m in
              let z = route_few d.head d.among d.way d.below in
              let y = ap (λ (x : Below). length x.route) (kept_key d) in
              omega arith;
          routed = λ k m q.
              let d = kept_by_lem S.g S.st f margin bound cap k m in
              route_some d.head d.among d.way d.behind (ap (λ (x : Below). x.route) (sym (kept_key d)) ∙ q);
        }
