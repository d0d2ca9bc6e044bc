-- Two kept readings with the same words are one: words fix hash and length, and the kept map has one reading of each. Assumes nothing.
use Rattle.std.specs.Prelude.{◌≡◌, ℕ, Bool, true, length, ℤ, Float}
use Rattle.std.proofs.Common.{sym, ap, ◌∙◌}
use Rattle.std.proofs.Math.Path.{subst}
use Rattle.std.proofs.Math.Bool.{not}
use mathlib.Core.List.{List, [], map, map-map, reverse}
use Rattle.lists.specs.Lists.{◌∈◌, keep_if, sort_by}
use Rattle.lists.specs.Firsts.{Apart, firsts_are}
use Rattle.lists.specs.Count.{Nodup}
use Rattle.model.specs.Basics.{◌≼◌, 0f}
use Rattle.model.specs.Graph.{Graph}
use Rattle.model.specs.Passes.{State}
use Rattle.model.specs.Reads.{use_finals, sooner, ranked, Group}
use Rattle.model.specs.Hash.{hash_words}
use Rattle.model.specs.Readings.{same_key, heads, Kept, kept_of, kept_below, kept_map, kept_group}
use Rattle.copy_laws.specs.Walks.{Heard}
use Rattle.copy_laws.proofs.Routes.{trace_words}
use Rattle.copy_laws.specs.States.{Standing}
use Rattle.copy_laws.proofs.Ranks.{ranked_at_lem}
use Rattle.copy_laws.proofs.Listed.{kept_by_lem}
use Rattle.copy_laws.specs.Below.{words_back_along, Keyed}
use Rattle.copy_laws.proofs.Below.{below_keyed}
use Rattle.copy_laws.specs.Distinct.{group_words}
use Rattle.listing_laws.specs.Alike.{apart_names}
use Rattle.listing_laws.specs.Known.{kept_read_in, kept_groups}
use Rattle.listing_laws.specs.Once.{key_of}

-- ---- the kept map

abbrev same_kept : Kept → Kept → Bool
same_kept a b = same_key a.key b.key

module _ {g : Graph} {fs : List Heard} {st : State} (h : Standing g fs st) (f : Bool) (margin bound : Float) (cap : ℕ) where
  kept_keyed : (k : Kept) → k ∈ kept_read_in g st f margin bound cap → Keyed st.fresh k.ranked.token.path k.key
  unfolding kept_of
  kept_keyed k m =
      let d = kept_by_lem g st f margin bound cap k m in
      let a = ranked_at_lem g st f d.head d.among in
      subst (λ (y : Kept). Keyed st.fresh y.ranked.token.path y.key) (sym d.is)
      (below_keyed margin cap st.fresh d.head.token.path (h.active.sound a.state d.head.token a.at).falls d.way d.below)

  back_words : (k : Kept) → reverse (kept_group k).words ≡ words_back_along k.key.route k.ranked.token.path
  back_words k = ap reverse (trace_words 0 k.key.route k.ranked.token.path 0f)

  kept_hash : (k : Kept) → k ∈ kept_read_in g st f margin bound cap → k.key.hash ≡ hash_words (reverse (kept_group k).words)
  kept_hash k m = (kept_keyed k m).hash ∙ ap hash_words (sym (back_words k))

  kept_len : (k : Kept) → k ∈ kept_read_in g st f margin bound cap → k.key.len ≡ length (reverse (kept_group k).words)
  kept_len k m = (kept_keyed k m).len ∙ ap length (sym (back_words k))

  words_key : (k j : Kept) → k ∈ kept_read_in g st f margin bound cap → j ∈ kept_read_in g st f margin bound cap → (kept_group k).words ≡ (kept_group j).words → same_kept k j ≡ true
  words_key k j m n e =
      key_of k.key j.key (kept_hash k m ∙ ap (λ (w : List ℤ). hash_words (reverse w)) e ∙ sym (kept_hash j n)) (kept_len k m ∙ ap (λ (w : List ℤ). length (reverse w)) e ∙ sym (kept_len j n))

  map_apart : Apart same_kept (kept_read_in g st f margin bound cap)
  unfolding kept_map
  map_apart =
      let finals = use_finals g st f in
      let ks = kept_below finals margin cap (heads finals bound (ranked g st f)) in
      (firsts_are same_kept [] (sort_by (λ (a b : Kept). sooner a.ranked b.ranked) (keep_if (λ (k : Kept). not (bound ≼ k.ranked.rank)) ks))).apart

  -- so no words come twice
  pub kept_distinct : Nodup (group_words (kept_groups (kept_read_in g st f margin bound cap)))
  kept_distinct =
      let ks = kept_read_in g st f margin bound cap in
      subst Nodup (sym (map-map (λ (x : Group). x.words) kept_group ks)) (apart_names same_kept (λ (k : Kept). (kept_group k).words) ks words_key map_apart)
