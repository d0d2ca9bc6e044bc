-- The entries that are counted for 15: those that the definition counts. Assumes nothing.
use Rattle.std.specs.Prelude.{◌≡◌, ℕ, Bool, true, List, [], map, eqb, ℤ, take, Float}
use Rattle.std.proofs.Common.{sym, ◌∙◌, ap, subst}
use Rattle.std.proofs.lemmas.Simd.{map-map}
use Rattle.lists.specs.Lists.{◌∈◌, firsts, sum}
use Rattle.lists.specs.Members.{map_from}
use Rattle.model.specs.Reads.{Ranked}
use Rattle.model.specs.Readings.{visited_all}
use Rattle.records.specs.History.{History, plain, history_of}
use Rattle.stores.specs.Shown.{timed}
use Rattle.below.specs.Filling.{visited_below, entries_below}
use Rattle.below.specs.Marks.{link_of, head_links}
use Rattle.below.specs.Maps.{map_same}
use Rattle.below.specs.Paths.{visited_histories}
use Rattle.listing_laws.specs.Situation.{Situation, Held}
use Rattle.listing_laws.specs.Owns.{rank_in, link_in}

module _ {tk : List ℕ} {sm fs : List Float} {rs : List ℕ} {ls : List ℤ} {gs : List Float} {n b used : ℕ} {keeps : Bool} {margin : Float} (S : Situation tk sm fs rs ls gs n b used keeps margin) (counts : Bool) (heads : List ℕ) (m : ℕ)
    (held : (s : ℕ) → s ∈ take m heads → Held tk b n s) where
  abbrev histories : List History
  histories = map S.h (head_links tk b heads m)

  histories_are : map (λ (t : Ranked). history_of t.token.path) (map (rank_in S counts) (take m heads)) ≡ histories
  histories_are =
      map-map (λ (t : Ranked). history_of t.token.path) (rank_in S counts) (take m heads)
      ∙ map_same (λ (s : ℕ). history_of (rank_in S counts s).token.path) (λ (s : ℕ). S.h (link_of tk b s)) (take m heads) (λ s k. sym (link_in S counts s (held s k)).is)
      ∙ sym (map-map S.h (link_of tk b) (take m heads))

  visited_are : (cap : ℕ) → visited_all margin cap (map (rank_in S counts) (take m heads)) ≡ visited_below margin cap histories
  visited_are cap =
      visited_histories margin cap (map (rank_in S counts) (take m heads))
      (λ t k.
      let (s, i, e) = map_from (rank_in S counts) (take m heads) t k in
      let z = link_in S counts s (held s i) in
      subst (λ (r : Ranked). (plain r.token.path ≡ true) × timed r.token.path) (sym e) (z.own, z.frames))
      ∙ ap (visited_below margin cap) histories_are

  -- over the histories of the heads
  pub belows_are : (cap : ℕ) → sum (map (λ (j : ℕ × ℕ). j.1) (firsts (λ (a b : ℕ × ℕ). eqb a.0 b.0) [] (visited_all margin cap (map (rank_in S counts) (take m heads))))) ≡ entries_below margin cap histories
  belows_are cap = ap (λ (vs : List (ℕ × ℕ)). sum (map (λ (j : ℕ × ℕ). j.1) (firsts (λ (a b : ℕ × ℕ). eqb a.0 b.0) [] vs))) (visited_are cap)
