-- Ranks of the own groups, and the heads that are expanded: the definition's. Assumes nothing.
use Rattle.std.specs.Prelude.{◌≡◌, refl, ℕ, zero, suc, ◌≤◌, ◌<◌, Bool, true, false, List, [], ◌∷◌, map, ℤ, length, get_or, take, Float}
use Rattle.std.proofs.Math.Path.{sym, ap}
use Rattle.std.proofs.Common.{◌∙◌, ap₂, subst, arith, length-take-le, get_or-take}
use Rattle.lists.specs.Lists.{◌∈◌, keep_if, firsts}
use Rattle.lists.specs.Members.{map_to}
use Rattle.model.specs.Basics.{∞}
use Rattle.model.specs.Reads.{Ranked, ranked, grouped, use_finals}
use Rattle.model.specs.Readings.{same_head, heads, rank_at}
use Rattle.copy_laws.proofs.Ranks.{ranked_at_lem}
use Rattle.records.specs.History.{tag}
use Rattle.histories.specs.Reading.{same_reading}
use Rattle.histories.specs.Laws.{Falls, Numbered, same_head_lem, stands_falls}
use Rattle.ranking.specs.Ranked.{RankedIs}
use Rattle.groups.specs.Firsts.{link_at, same_states, FirstsIs}
use Rattle.below.specs.Maps.{firsts-map}
use Rattle.kept_readings.specs.Heads.{HeadsAre}
use Rattle.kept_readings.specs.Meaning.{Head, stood}
use Rattle.kept_readings.specs.Model.{is_head_of, heads_are}
use Rattle.merged.specs.Items.{rank_of, own_rank}
use Rattle.listing_laws.specs.Situation.{Situation, Held}
use Rattle.listing_laws.specs.Alike.{at_front, firsts_as}
use Rattle.listing_laws.specs.Owns.{firsts_among, rank_in, group_in, link_in, ranked_are, own_ranked, grouped_are}

module _ {tk : List ℕ} {sm fs : List Float} {rs : List ℕ} {ls : List ℤ} {gs : List Float} {n b used : ℕ} {keeps : Bool} {margin : Float} (S : Situation tk sm fs rs ls gs n b used keeps margin) (counts : Bool) where
  abbrev HeadAt : ℕ → Type 0
  HeadAt s = Head S.g tk b n counts S.st.table s

  -- the rank that is read is the token's
  pub rank_is : (s : ℕ) → HeadAt s → own_rank tk sm fs b counts s ≡ (rank_in S counts s).rank
  rank_is s H = let x = stood S.shown S.g S.finals S.long counts s H in ap rank_of x.is ∙ x.head.rank

  rank_at_lem : (xs : List ℕ) (i : ℕ) → i < length xs → rank_at i (map (group_in S counts) xs) ≡ (rank_in S counts (get_or xs i 0)).rank
  rank_at_lem [] i l = absurd (omega arith)
  rank_at_lem (x ∷ xs) zero l = refl
  rank_at_lem (x ∷ xs) (suc i) l = rank_at_lem xs i (omega arith)

  rank_past : (xs : List ℕ) (i : ℕ) → length xs ≤ i → rank_at i (map (group_in S counts) xs) ≡ ∞
  rank_past [] i l = refl
  rank_past (x ∷ xs) zero l = absurd (omega arith)
  rank_past (x ∷ xs) (suc i) l = rank_past xs i (omega arith)

  module _ (use_final : Bool) (c : counts ≡ use_finals S.g S.st use_final) {order : List ℕ} {all : ℕ} (R : RankedIs tk sm fs b n counts order all) where
    -- every ranked state has a token that counts
    pub head_in : (s : ℕ) → s ∈ take all order → HeadAt s
    head_in s k =
        let m : rank_in S counts s ∈ ranked S.g S.st use_final = subst (λ (l : List Ranked). rank_in S counts s ∈ l) (sym (ranked_are S counts use_final c R)) (map_to (rank_in S counts) (take all order) s k) in
        let a = ranked_at_lem S.g S.st use_final (rank_in S counts s) m in
        record { inside = (R.each s k).0; held = (R.each s k).1; counted = a.counts }

    module _ {own own' : List ℕ} {m : ℕ} (copied : take all own ≡ take all order) (F : FirstsIs tk rs ls b used false own own' all m) (room : m ≤ length own') where
      -- what a kept reading has to rank below: the rank of the i-th group
      pub bound_at : (i : ℕ) → i < m → rank_at i (grouped S.g S.st use_final) ≡ own_rank tk sm fs b counts (get_or own' i 0)
      bound_at i l =
          let z = length-take-le m own' room in
          let e = get_or-take m own' i 0 l in
          ap (rank_at i) (grouped_are S counts use_final c R copied F) ∙ rank_at_lem (take m own') i (omega arith) ∙ ap (λ (s : ℕ). (rank_in S counts s).rank) e ∙ sym (rank_is (get_or own' i 0) (head_in (get_or own' i 0) (own_ranked S counts R copied F (get_or own' i 0) (at_front own' m i room l))))

      -- none where there is no such group
      pub bound_past : (i : ℕ) → m ≤ i → rank_at i (grouped S.g S.st use_final) ≡ ∞
      bound_past i l = let z = length-take-le m own' room in ap (rank_at i) (grouped_are S counts use_final c R copied F) ∙ rank_past (take m own') i (omega arith)

    -- ---- heads

    module _ (numbered : (s : ℕ) → Held tk b n s → Numbered (rank_in S counts s).token.path) {heads₁ heads₂ : List ℕ} {k m : ℕ} (bound : Float) (F : FirstsIs tk rs ls b used true order heads₁ all k) (A : HeadsAre tk sm fs rs ls b used counts bound heads₁ heads₂ k m) where
      head_same : (s t : ℕ) → Held tk b n s → Held tk b n t → same_head (rank_in S counts s) (rank_in S counts t) ≡ same_states S.h tk b true s t
      head_same s t d e =
          let i = link_in S counts s d in
          let j = link_in S counts t e in
          sym
          (ap₂ (same_reading true) i.is j.is
          ∙ same_head_lem (tag (S.h (link_at tk b s))) (tag (S.h (link_at tk b t))) (rank_in S counts s).token.path (rank_in S counts t).token.path i.own j.own
          (subst (Falls (tag (S.h (link_at tk b s)))) i.is (stands_falls S.stands (link_at tk b s) i.low)) (subst (Falls (tag (S.h (link_at tk b t)))) j.is (stands_falls S.stands (link_at tk b t) j.low)) (numbered s d) (numbered t e))

      firsts_are : firsts same_head [] (ranked S.g S.st use_final) ≡ map (rank_in S counts) (take k heads₁)
      firsts_are =
          ap (firsts same_head []) (ranked_are S counts use_final c R) ∙ firsts-map (rank_in S counts) same_head [] (take all order)
          ∙ ap (map (rank_in S counts))
          (firsts_as (λ (s t : ℕ). same_head (rank_in S counts s) (rank_in S counts t)) (same_states S.h tk b true) (Held tk b n) head_same [] (take all order) (λ x k. elim k [ ]) R.each ∙ sym (F.is gs S.h S.stands))

      first_from_lem : (s : ℕ) → s ∈ take k heads₁ → s ∈ take all order
      first_from_lem = firsts_among S.h S.stands F

      -- the heads that were kept are the definition's
      pub heads_right : heads counts bound (ranked S.g S.st use_final) ≡ map (rank_in S counts) (take m heads₂)
      unfolding heads
      heads_right =
          ap (keep_if (is_head_of counts bound)) firsts_are
          ∙ sym (heads_are gs S.h S.stands S.shown S.g S.finals S.long counts bound A (λ s i. (head_in s (first_from_lem s i), numbered s (R.each s (first_from_lem s i)))))
