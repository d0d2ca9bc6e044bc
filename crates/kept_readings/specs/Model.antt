-- The heads that are kept are the definition's. Assumes nothing.
use Rattle.std.specs.Prelude.{◌≡◌, ℕ, zero, suc, ◌≤◌, Bool, true, false, cond, not, ◌&&◌, ◌||◌, ltb, List, [], ◌∷◌, map, length, take, ℤ, nat_lt, refl, Float}
use Rattle.std.proofs.Common.{sym, ap, ap₂, ◌∙◌, arith, lt-ltb}
use mathlib.Core.List.Memᴰ.{head as here}
use mathlib.Core.List.Memᴰ.{tail as there}
use Rattle.lists.specs.Lists.{◌∈◌, keep_if}
use Rattle.lists.specs.Tests.{never}
use Rattle.model.specs.Basics.{◌≼◌}
use Rattle.model.specs.Graph.{Graph}
use Rattle.model.specs.Path.{Table}
use Rattle.model.specs.Reads.{Ranked}
use Rattle.model.specs.Readings.{join_number}
use Rattle.records.specs.History.{History}
use Rattle.records.specs.Layout.{store}
use Rattle.records.specs.Stands.{Stands}
use Rattle.stores.specs.Shown.{Shown}
use Rattle.histories.specs.Reading.{join_tag}
use Rattle.histories.specs.Laws.{Numbered, tag_of, join_tag_lem}
use Rattle.ranking.specs.Ranked.{ranked_at}
use Rattle.kept_readings.specs.Heads.{best_within, is_head, HeadsAre}
use Rattle.kept_readings.specs.Meaning.{Head, stood}

-- the definition's test: it has a join, and where finals do not count it ranks below the bound
abbrev pub is_head_of : (finals : Bool) → (bound : Float) → Ranked → Bool
is_head_of finals bound r = nat_lt 0 (join_number r.token.path) && (finals || not (bound ≼ r.rank))

module _ {A B : Type 0} (f : A → B) (p : A → Bool) (q : B → Bool) where
  -- tests that agree on the members keep the same
  pub keep_as : (xs : List A) → ((x : A) → x ∈ xs → p x ≡ q (f x)) → map f (keep_if p xs) ≡ keep_if q (map f xs)
  keep_as [] e = refl
  keep_as (x ∷ xs) e = go (p x) (q (f x)) (e x (here refl)) (keep_as xs (λ y m. e y (there m)))
    where
      go : (a b : Bool) → a ≡ b → map f (keep_if p xs) ≡ keep_if q (map f xs) → map f (cond a (x ∷ keep_if p xs) (keep_if p xs)) ≡ cond b (f x ∷ keep_if q (map f xs)) (keep_if q (map f xs))
      go true true w r = ap (λ (l : List B). f x ∷ l) r
      go false false w r = r
      go true false w r = never (sym w)
      go false true w r = never w

tag_some : (n : ℕ) → nat_lt 0 (tag_of n) ≡ nat_lt 0 n
tag_some zero = refl
tag_some (suc n) = lt-ltb 0 (suc (suc n)) (omega arith) ∙ sym (lt-ltb 0 (suc n) (omega arith))

module _ {rs : List ℕ} {ls : List ℤ} {used : ℕ} (gs : List Float) (h : ℕ → History) (ok : Stands (store rs ls gs) used h) {tk : List ℕ} {sm fs : List Float} {b n : ℕ} {ts : Table} (w : Shown h used tk sm b n ts) (g : Graph) (q : g.finals ≡ fs) (long : n ≤ length fs) (counts : Bool) (bound : Float) where
  abbrev rank_of : ℕ → Ranked
  rank_of s = ranked_at g counts ts s

  head_as : (s : ℕ) → Head g tk b n counts ts s → Numbered (rank_of s).token.path → is_head h tk sm fs b counts bound s ≡ is_head_of counts bound (rank_of s)
  head_as s H N =
      let S = stood w g q long counts s H in
      ap₂ (λ (x y : Bool). x && (counts || y)) (ap (λ (x : History). ltb 0 (join_tag x)) S.link.is ∙ ap (ltb 0) (join_tag_lem (rank_of s).token.path N) ∙ tag_some (join_number (rank_of s).token.path))
      (ap (best_within bound) S.is ∙ ap (λ (x : Float). not (bound ≼ x)) S.head.rank)

  pub heads_are : {heads heads' : List ℕ} {k m : ℕ} → HeadsAre tk sm fs rs ls b used counts bound heads heads' k m → ((s : ℕ) → s ∈ take k heads → Head g tk b n counts ts s × Numbered (rank_of s).token.path)
      → map rank_of (take m heads') ≡ keep_if (is_head_of counts bound) (map rank_of (take k heads))
  heads_are {heads} {heads'} {k} {m} A d = ap (map rank_of) (A.is gs h ok) ∙ keep_as rank_of (is_head h tk sm fs b counts bound) (is_head_of counts bound) (take k heads) (λ s i. let x = d s i in head_as s x.0 x.1)
