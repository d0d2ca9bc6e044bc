-- The states of the first of each word list stand for the definition's groups. Assumes nothing.
use Rattle.std.specs.Prelude.{◌≡◌, ℕ, ◌-◌, false, ℤ, Float}
use Rattle.std.proofs.Math.Path.{sym, ap, ap₂, subst}
use Rattle.std.proofs.Common.{◌∙◌}
use Rattle.std.proofs.Math.Bool.{Bool}
use mathlib.Core.List.{List, [], map, map-map, reverse, reverse-reverse}
use Rattle.std.proofs.Math.ListN.{take}
use Rattle.lists.specs.Lists.{◌∈◌, sort_by, firsts}
use Rattle.lists.specs.Tests.{same, holds, is_true}
use Rattle.lists.specs.Members.{firsts_from}
use Rattle.model.specs.Path.{words_back, same_words}
use Rattle.model.specs.Reads.{Ranked, rank_one, rank_from, sooner, Group, own_group, ranked, grouped, use_finals}
use Rattle.copy_laws.proofs.Labels.{words_alike, words_same}
use Rattle.tokens.specs.Layout.{cell_at}
use Rattle.tokens.specs.declared.Token.{Token as Stored}
use Rattle.records.specs.History.{History}
use Rattle.records.specs.Layout.{store}
use Rattle.records.specs.Stands.{Stands}
use Rattle.stores.specs.Shown.{Is}
use Rattle.stores.specs.Tables.{active_at, stored_is}
use Rattle.histories.specs.Reading.{same_reading}
use Rattle.histories.specs.Laws.{whole_words}
use Rattle.ranking.specs.Ranked.{ranked_at, token_in, RankedIs}
use Rattle.groups.specs.Firsts.{link_at, same_states, FirstsIs}
use Rattle.below.specs.Maps.{firsts-map}
use Rattle.listing_laws.specs.Situation.{Situation, Held}
use Rattle.listing_laws.specs.Alike.{firsts_as}

-- word lists are compared newest first or oldest first alike
pub reverse_same : (xs ys : List ℤ) → same_words (reverse xs) (reverse ys) ≡ same_words xs ys
reverse_same xs ys =
    same (same_words (reverse xs) (reverse ys)) (same_words xs ys)
    (λ t. holds (words_alike xs ys (sym (reverse-reverse xs) ∙ ap reverse (words_same (reverse xs) (reverse ys) (is_true t)) ∙ reverse-reverse ys)))
    (λ t. holds (words_alike (reverse xs) (reverse ys) (ap reverse (words_same xs ys (is_true t)))))

-- the first of each class are among those that were listed
pub firsts_among : {tk rs : List ℕ} {ls : List ℤ} {gs : List Float} {b used : ℕ} {to_join_lem : Bool} {before after : List ℕ} {n m : ℕ} (h : ℕ → History) → Stands (store rs ls gs) used h → FirstsIs tk rs ls b used to_join_lem before after n m → (s : ℕ) → s ∈ take m after → s ∈ take n before
firsts_among {tk} {gs = gs} {b} {to_join_lem = to_join_lem} {before} {n = n} h ok F s k = firsts_from (same_states h tk b to_join_lem) [] (take n before) s (subst (λ (xs : List ℕ). s ∈ xs) (F.is gs h ok) k)

module _ {tk : List ℕ} {sm fs : List Float} {rs : List ℕ} {ls : List ℤ} {gs : List Float} {n b used : ℕ} {keeps : Bool} {margin : Float} (S : Situation tk sm fs rs ls gs n b used keeps margin) (counts : Bool) where
  -- the token of an active state, ranked, and its group
  abbrev pub rank_in : ℕ → Ranked
  rank_in s = ranked_at S.g counts S.st.table s

  abbrev pub group_in : ℕ → Group
  group_in s = own_group (rank_in s)

  -- its record stands for the token's path
  pub link_in : (s : ℕ) → Held tk b n s → Is S.h used (link_at tk b s) (rank_in s).token.path
  unfolding cell_at rank_one
  link_in s (l, d) =
      let a = active_at S.shown s l d in
      subst (λ o. Is S.h used (link_at tk b s) (token_in o).path) (sym a.at)
      (subst (λ (k : ℕ). Is S.h used k a.token.path) (sym (ap (λ (t : Stored). t.link) (stored_is S.shown a))) a.is.link)

  -- states are grouped by the words of their groups
  pub group_same : (s t : ℕ) → Held tk b n s → Held tk b n t → same_words (group_in s).words (group_in t).words ≡ same_states S.h tk b false s t
  unfolding same_reading
  group_same s t d e =
      let i = link_in s d in
      let j = link_in t e in
      reverse_same (words_back (rank_in s).token.path) (words_back (rank_in t).token.path)
      ∙ ap₂ same_words (sym (whole_words (rank_in s).token.path i.own)) (sym (whole_words (rank_in t).token.path j.own)) ∙ ap₂ (same_reading false) (sym i.is) (sym j.is)

  -- the states of the groups are ranked, so they are active
  module _ {order : List ℕ} {all : ℕ} (R : RankedIs tk sm fs b n counts order all) {own own' : List ℕ} {m : ℕ} (copied : take all own ≡ take all order) (F : FirstsIs tk rs ls b used false own own' all m) where
    pub own_ranked : (s : ℕ) → s ∈ take m own' → s ∈ take all order
    own_ranked s k = subst (λ (xs : List ℕ). s ∈ xs) copied (firsts_among S.h S.stands F s k)

    pub own_held : (s : ℕ) → s ∈ take m own' → Held tk b n s
    own_held s k = R.each s (own_ranked s k)

  module _ (use_final : Bool) (c : counts ≡ use_finals S.g S.st use_final) {order : List ℕ} {all : ℕ} (R : RankedIs tk sm fs b n counts order all) where
    -- the ranked states stand for the definition's ranked tokens
    pub ranked_are : ranked S.g S.st use_final ≡ map rank_in (take all order)
    unfolding ranked
    ranked_are = ap (λ (c : Bool). sort_by sooner (rank_from S.g c 0 S.st.table)) (sym c) ∙ sym (R.is S.g S.finals S.h used S.st.table S.shown)

    module _ {own own' : List ℕ} {m : ℕ} (copied : take all own ≡ take all order) (F : FirstsIs tk rs ls b used false own own' all m) where
      -- and the first of each word list for its groups
      pub grouped_are : grouped S.g S.st use_final ≡ map group_in (take m own')
      unfolding grouped
      grouped_are =
          let like : Group → Group → Bool = λ x y. same_words x.words y.words in
          let xs = take all order in
          ap (λ (l : List Ranked). firsts like [] (map own_group l)) ranked_are ∙ ap (firsts like []) (map-map own_group rank_in xs) ∙ firsts-map group_in like [] xs
          ∙ ap (map group_in)
          (firsts_as (λ (s t : ℕ). like (group_in s) (group_in t)) (same_states S.h tk b false) (Held tk b n) group_same [] xs (λ x k. elim k [ ]) R.each
          ∙ ap (firsts (same_states S.h tk b false) []) (sym copied) ∙ sym (F.is gs S.h S.stands))
