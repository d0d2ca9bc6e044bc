-- The words of own groups and kept readings as they are walked: those of the definition's groups. A kept reading's hash and length are theirs. Assumes nothing.
use Rattle.std.specs.Prelude.{◌≡◌, refl, Bool, true, false, ◌&&◌, ◌||◌, ℤ, length, Float}
use Rattle.std.proofs.Common.{sym, ◌∙◌}
use Rattle.std.proofs.Math.Path.{ap, ap₂}
use Prim.Native.Nat.{ℕ, ◌≤◌}
use Rattle.std.proofs.Math.Bool.{not}
use mathlib.Core.List.{List, [], reverse, reverse-reverse}
use Rattle.std.proofs.Math.Dec.{ltb, eqb}
use Rattle.std.specs.Float.Ieee.{eq}
use Rattle.lists.specs.Lists.{◌∈◌}
use Rattle.model.specs.Basics.{◌≺◌, 0f}
use Rattle.model.specs.Path.{Path, Token}
use Rattle.model.specs.Hash.{hash_words}
use Rattle.model.specs.Reads.{Ranked, trace}
use Rattle.model.specs.Readings.{Below, below, Kept, kept_of, kept_group, words_lt, is_own, read_order}
use Rattle.copy_laws.proofs.Routes.{trace_words, own_words_lem}
use Rattle.copy_laws.specs.Below.{words_back_along, Keyed}
use Rattle.copy_laws.proofs.Below.{below_keyed}
use Rattle.copy_laws.specs.Shapes.{Falling}
use Rattle.groups.specs.Firsts.{link_at}
use Rattle.below.specs.Stored.{stands_for, Decoded}
use Rattle.kept_readings.specs.declared.KeptReading.{KeptReading}
use Rattle.kept_readings.specs.Meaning.{as_kept}
use Rattle.routes.specs.Entries.{joins_of}
use Rattle.routes.specs.Joins.{numbers_are, joins_routed}
use Rattle.routes.specs.Told.{words_told}
use Rattle.merged.specs.Twins.{own_words}
use Rattle.kept_order.specs.Before.{words_back, kept_words, reads_before}
use Rattle.listing_laws.specs.Situation.{Situation, Held}
use Rattle.listing_laws.specs.Owns.{rank_in, group_in, link_in}

module _ {tk : List ℕ} {sm fs : List Float} {rs : List ℕ} {ls : List ℤ} {gs : List Float} {n b used : ℕ} {keeps : Bool} {margin : Float} (S : Situation tk sm fs rs ls gs n b used keeps margin) (counts : Bool) where
  -- of an own group
  pub own_words_are : (s : ℕ) → Held tk b n s → (group_in S counts s).words ≡ reverse (own_words rs ls tk b s)
  own_words_are s d =
      let p = (rank_in S counts s).token.path in
      own_words_lem p ∙ sym (trace_words 0 [] p 0f) ∙ words_told S.stands 0 (link_at tk b s) p 0f (link_in S counts s d) [] (λ x k. elim k [ ])

module _ {tk : List ℕ} {sm fs : List Float} {rs : List ℕ} {ls : List ℤ} {gs : List Float} {n b used : ℕ} {keeps : Bool} {margin : Float} (S : Situation tk sm fs rs ls gs n b used keeps margin) (counts : Bool) {hs ns : List ℕ} {xs : List Float} {bs : List Below} (D : Decoded S.h used hs ns xs bs) where
  abbrev stand : KeptReading → Kept
  stand k = as_kept (rank_in S counts) bs k

  module _ (k : KeptReading) (held : Held tk b n k.state) (low : k.entry ≤ length bs) where
    abbrev path : Path
    path = (rank_in S counts k.state).token.path

    -- of a kept reading
    pub kept_words_lem : (kept_group (stand k)).words ≡ kept_words tk rs ls b ns k
    kept_words_lem =
        ap (λ (route : List ℕ). (trace 0 route path 0f).words) (sym (numbers_are D k.entry low))
        ∙ words_told S.stands 0 (link_at tk b k.state) path 0f (link_in S counts k.state held) (joins_of ns k.entry) (joins_routed D k.entry low)

    back_is : words_back tk rs ls b ns k ≡ words_back_along (stands_for bs k.entry).route path
    back_is = sym (reverse-reverse (words_back tk rs ls b ns k)) ∙ ap reverse (sym kept_words_lem ∙ trace_words 0 (stands_for bs k.entry).route path 0f)

    module _ (finals : Bool) (cap : ℕ) (r : Ranked) (way : Below) (is : stand k ≡ kept_of finals r way) (m : way ∈ below margin cap r.token.path) (f : ℕ) (falls : Falling f r.token.path) where
      key_is : (stand k).key ≡ way
      unfolding kept_of
      key_is = ap (λ (x : Kept). x.key) is

      token_is : (rank_in S counts k.state).token ≡ r.token
      unfolding kept_of
      token_is = ap (λ (x : Kept). x.ranked.token) is

      keyed : Keyed f r.token.path way
      keyed = below_keyed margin cap f r.token.path falls way m

      along_is : words_back_along way.route r.token.path ≡ words_back tk rs ls b ns k
      along_is = sym (back_is ∙ ap₂ (λ (route : List ℕ) (t : Token). words_back_along route t.path) (ap (λ (x : Below). x.route) key_is) token_is)

      -- its hash and length are those of its words
      pub kept_hash : k.hash ≡ hash_words (words_back tk rs ls b ns k)
      kept_hash = ap (λ (x : Below). x.hash) key_is ∙ keyed.hash ∙ ap hash_words along_is

      pub kept_len : k.len ≡ length (words_back tk rs ls b ns k)
      kept_len = ap (λ (x : Below). x.len) key_is ∙ keyed.len ∙ ap length along_is

  -- ---- the order

  -- kept readings are compared as their groups are
  pub before_is : (j k : KeptReading) → Held tk b n j.state → Held tk b n k.state → j.entry ≤ length bs → k.entry ≤ length bs → is_own (kept_group (stand j)) ≡ false → is_own (kept_group (stand k)) ≡ false
      → j.seq ≡ (rank_in S counts j.state).token.seq → k.seq ≡ (rank_in S counts k.state).token.seq → reads_before tk rs ls b ns j k ≡ read_order (kept_group (stand j)) (kept_group (stand k))
  unfolding read_order
  before_is j k dj dk lj lk oj ok sj sk =
      ap₂ (λ (x y : ℕ). (j.rank ≺ k.rank || (eq j.rank k.rank && ltb y x)) || ((eq j.rank k.rank && eqb x y) && words_lt (kept_words tk rs ls b ns j) (kept_words tk rs ls b ns k))) sj sk
      ∙ ap₂ (λ (u v : List ℤ). (j.rank ≺ k.rank || (eq j.rank k.rank && ltb (seq k) (seq j))) || ((eq j.rank k.rank && eqb (seq j) (seq k)) && words_lt u v)) (sym (kept_words_lem j dj lj)) (sym (kept_words_lem k dk lk))
      ∙ shape (j.rank ≺ k.rank) (eq j.rank k.rank) (ltb (seq k) (seq j)) (eqb (seq j) (seq k)) (words_lt (kept_group (stand j)).words (kept_group (stand k)).words)
      ∙ ap₂ (λ (x y : Bool). j.rank ≺ k.rank || (eq j.rank k.rank && ((x && not y) || (not (not x && y) && (ltb (seq k) (seq j) || (eqb (seq j) (seq k) && words_lt (kept_group (stand j)).words (kept_group (stand k)).words)))))) (sym oj) (sym ok)
    where
      seq : KeptReading → ℕ
      seq x = (rank_in S counts x.state).token.seq

      shape : (p q s t w : Bool) → ((p || (q && s)) || ((q && t) && w)) ≡ (p || (q && (s || (t && w))))
      shape true q s t w = refl
      shape false true true t w = refl
      shape false true false t w = refl
      shape false false s t w = refl
