-- The map that is filled stands for the definition's. Assumes nothing.
use Rattle.std.specs.Prelude.{◌≡◌, ℕ, zero, suc, ◌+◌, ◌-◌, ◌<◌, ◌≤◌, Bool, true, false, ◌&&◌, ◌||◌, ◌⊎◌, List, [], ◌∷◌, ◌++◌, map, length, take, ℤ, ◌==◌, nat_lt, refl, Float, Option, Some, None, is_some}
use Rattle.std.proofs.Common.{sym, ap, ap₂, ◌∙◌, subst, inl, inr, arith, eq-eqb, eqb-true}
use mathlib.Core.List.Memᴰ.{head as here}
use mathlib.Core.List.Memᴰ.{tail as there}
use mathlib.Core.List.{tail}
use Rattle.std.specs.Float.Ieee.{eq}
use Rattle.lists.specs.Lists.{◌∈◌, keep_if, range}
use Rattle.lists.specs.Tests.{case, and_both}
use Rattle.lists.specs.Members.{keep_from, map_from}
use Rattle.lists.specs.Order.{Perm, perm-length}
use Rattle.model.specs.Basics.{◌≺◌}
use Rattle.model.specs.Graph.{Graph}
use Rattle.model.specs.Path.{Table}
use Rattle.model.specs.Reads.{Ranked, sooner}
use Rattle.model.specs.Readings.{below, same_key, Kept, kept_of, kept_below, kept_map}
use Rattle.copy_laws.proofs.Sooner.{HasRank, earlier_strict}
use Rattle.records.specs.History.{History}
use Rattle.records.specs.Layout.{store}
use Rattle.records.specs.Stands.{Stands}
use Rattle.stores.specs.Shown.{Shown}
use Rattle.traceback.specs.declared.Candidate.{Candidate}
use Rattle.traceback.specs.Ranks.{candidate_at}
use Rattle.ranking.specs.Ranked.{ranked_at}
use Rattle.groups.specs.Firsts.{link_at}
use Rattle.entries.specs.Entries.{entry_at}
use Rattle.below.specs.Stored.{first_at, count_at}
use Rattle.below.specs.Filling.{Listed}
use Rattle.kept_readings.specs.declared.KeptReading.{KeptReading}
use Rattle.kept_readings.specs.Kept.{kept_list, same_kept, sooner_kept, all_from, all_of, Added, are_added, are_more, ranks_below, within}
use Rattle.kept_readings.specs.Adding.{all-length, all_then}
use Rattle.kept_readings.specs.Heads.{kept_by, kept_starts_from, kept_under, HeadsKept, no_heads, head_on, FillIs}
use Rattle.kept_readings.specs.Bests.{Orders, all_perm, all_map}
use Rattle.kept_readings.specs.Meaning.{as_kept, kept_within, Head, stood, ListsInside, keep_both, map_both, heads_kept}

-- ---- the definition's map

abbrev pub same_words_kept : Kept → Kept → Bool
same_words_kept a b = same_key a.key b.key

abbrev pub sooner_of_kept : Kept → Kept → Bool
sooner_of_kept a b = sooner a.ranked b.ranked

abbrev pub kept_rank : Kept → Float
kept_rank k = k.ranked.rank

abbrev pub kept_seq : Kept → ℕ
kept_seq k = k.ranked.token.seq

-- Every rank is a number, and of two with one key that are level both are one.
pub record Orderly (ks : List Kept) : Type 0 where
  pub ranks : (k : Kept) → k ∈ ks → HasRank kept_rank kept_seq k
  pub one : (x y : Kept) → x ∈ ks → y ∈ ks → same_words_kept x y ≡ true → sooner_of_kept x y ≡ false → sooner_of_kept y x ≡ false → x ≡ y

orders : Orders same_words_kept sooner_of_kept (HasRank kept_rank kept_seq)
orders =
    record {
      itself = λ x. both (eq-eqb x.key.hash x.key.hash refl) (eq-eqb x.key.len x.key.len refl);
      turned = λ x y t. let d = keys x y t in both (eq-eqb y.key.hash x.key.hash (sym d.0)) (eq-eqb y.key.len x.key.len (sym d.1));
      along = λ x y z t u. let d = keys x y t in let e = keys y z u in both (eq-eqb x.key.hash z.key.hash (d.0 ∙ e.0)) (eq-eqb x.key.len z.key.len (d.1 ∙ e.1));
      strict = earlier_strict kept_rank kept_seq;
    }
  where
    both : {a b : Bool} → a ≡ true → b ≡ true → (a && b) ≡ true
    both e f = ap₂ (λ (x y : Bool). x && y) e f

    keys : (x y : Kept) → same_words_kept x y ≡ true → (x.key.hash ≡ y.key.hash) × (x.key.len ≡ y.key.len)
    keys x y t = let d = and_both (x.key.hash == y.key.hash) (x.key.len == y.key.len) t in (eqb-true x.key.hash y.key.hash d.0, eqb-true x.key.len y.key.len d.1)

abbrev candidates : (finals : Bool) → (margin bound : Float) → (cap : ℕ) → List Ranked → List Kept
candidates finals margin bound cap rs = keep_if (kept_within bound) (kept_below finals margin cap rs)

map_perm : (finals : Bool) (margin bound : Float) (cap : ℕ) (rs : List Ranked) → Orderly (candidates finals margin bound cap rs)
    → Perm (all_from same_words_kept sooner_of_kept [] (candidates finals margin bound cap rs)) (kept_map finals margin bound cap rs)
unfolding kept_map
map_perm finals margin bound cap rs O = all_perm same_words_kept sooner_of_kept orders (candidates finals margin bound cap rs) O.ranks O.one

-- ---- lists

append_from : {A : Type 0} (xs ys : List A) (x : A) → x ∈ (xs ++ ys) → (x ∈ xs) ⊎ (x ∈ ys)
append_from [] ys x m = inr m
append_from (y ∷ xs) ys x (here e) = inl (here e)
append_from (y ∷ xs) ys x (there m) = case (append_from xs ys x m) (λ k. inl (there k)) (λ k. inr k)

append_assoc : {A : Type 0} (xs ys zs : List A) → xs ++ (ys ++ zs) ≡ (xs ++ ys) ++ zs
append_assoc [] ys zs = refl
append_assoc (x ∷ xs) ys zs = ap (λ l. x ∷ l) (append_assoc xs ys zs)

length_map : {A B : Type 0} (f : A → B) (xs : List A) → length (map f xs) ≡ length xs
length_map f [] = refl
length_map f (x ∷ xs) = ap suc (length_map f xs)

take_more : (j m : ℕ) (xs : List ℕ) → j ≤ m → (ys : List ℕ) × (take m xs ≡ take j xs ++ ys)
take_more j m [] l = ([], none j m)
  where
    none : (j m : ℕ) → take {A = ℕ} m [] ≡ take j [] ++ []
    none zero zero = refl
    none zero (suc m) = refl
    none (suc j) zero = refl
    none (suc j) (suc m) = refl
take_more zero m (x ∷ xs) l = (take m (x ∷ xs), refl)
take_more (suc j) zero (x ∷ xs) l = absurd (omega arith)
take_more (suc j) (suc m) (x ∷ xs) l = let (ys, e) = take_more j m xs (omega arith) in (ys, ap (λ (l : List ℕ). x ∷ l) e)

below_both : (finals : Bool) (margin : Float) (cap : ℕ) (xs ys : List Ranked) → kept_below finals margin cap (xs ++ ys) ≡ kept_below finals margin cap xs ++ kept_below finals margin cap ys
below_both finals margin cap [] ys = refl
below_both finals margin cap (r ∷ rs) ys =
    ap (λ (l : List Kept). map (kept_of finals r) (tail (below margin cap r.token.path)) ++ l) (below_both finals margin cap rs ys)
    ∙ append_assoc (map (kept_of finals r) (tail (below margin cap r.token.path))) (kept_below finals margin cap rs) (kept_below finals margin cap ys)

-- ---- the whole

module _ {rs : List ℕ} {ls : List ℤ} {used : ℕ} (gs : List Float) (h : ℕ → History) (ok : Stands (store rs ls gs) used h) {margin : Float} {cap : ℕ} {links lists hs ns : List ℕ} {xs : List Float} {e : ℕ} (L : Listed h used margin cap links lists hs ns xs e) (I : ListsInside h used links lists e)
    {tk : List ℕ} {sm fs : List Float} {b n : ℕ} {ts : Table} (w : Shown h used tk sm b n ts) (g : Graph) (q : g.finals ≡ fs) (long : n ≤ length fs) (counts : Bool) (bound : Float) where
  abbrev rank_of : ℕ → Ranked
  rank_of s = ranked_at g counts ts s

  -- its seq is its token's
  abbrev SeqIs : KeptReading → Type 0
  SeqIs k = k.seq ≡ (rank_of k.state).token.seq

  under_seq : (s : ℕ) → Head g tk b n counts ts s → (above : _) (first count : ℕ) (k : KeptReading) → k ∈ kept_under hs ns xs (candidate_at tk sm fs b s counts) counts bound above first count → SeqIs k
  under_seq s H above first count k m =
      let S = stood w g q long counts s H in
      let c = S.candidate in
      let i : k ∈ within bound (kept_starts_from hs ns xs c counts above (first + 1) (count - 1)) = subst (λ (x : Option Candidate). k ∈ kept_under hs ns xs x counts bound above first count) S.is m in
      let (z, j, u) = map_from (λ (z : ℕ). kept_by c counts above z (entry_at hs ns xs z)) (range (first + 1) (count - 1)) k (keep_from (ranks_below bound) (kept_starts_from hs ns xs c counts above (first + 1) (count - 1)) k i) in
      subst SeqIs (sym u) (S.seq ∙ ap (λ (t : ℕ). (rank_of t).token.seq) (sym S.head.state))

  heads_seq : (ss : List ℕ) (ks : List KeptReading) → ((s : ℕ) → s ∈ ss → Head g tk b n counts ts s × (link_at tk b s ∈ links)) → HeadsKept tk sm fs rs ls b used counts bound lists hs ns xs ss ks → (k : KeptReading) → k ∈ ks → SeqIs k
  heads_seq [] ks d no_heads k m = elim m [ ]
  heads_seq (s ∷ ss) ks d (head_on {ks = is} {ls' = js} K Ks) k m =
      case (append_from is js k m)
      (λ i. under_seq s (d s (here refl)).0 K.above (first_at lists K.join) (count_at lists K.join) k (subst (λ (l : List KeptReading). k ∈ l) K.is i))
      (λ i. heads_seq ss js (λ t j. d t (there j)) Ks k i)

  abbrev stand : KeptReading → Kept
  stand = as_kept rank_of L.bs

  abbrev wanted : List ℕ → List Kept
  wanted ss = candidates counts margin bound cap (map rank_of ss)

  wanted_both : (ss us : List ℕ) → wanted (ss ++ us) ≡ wanted ss ++ wanted us
  wanted_both ss us =
      ap (λ (l : List Ranked). candidates counts margin bound cap l) (map_both rank_of ss us) ∙ ap (keep_if (kept_within bound)) (below_both counts margin cap (map rank_of ss) (map rank_of us))
      ∙ keep_both (kept_within bound) (kept_below counts margin cap (map rank_of ss)) (kept_below counts margin cap (map rank_of us))

  module _ {heads : List ℕ} {m : ℕ} {khs kns : List ℕ} {kxs : List Float} {places : ℕ} {khs' kns' : List ℕ} {kxs' : List Float} {r : Option ℕ}
      (F : FillIs tk sm fs rs ls b used counts bound heads m lists hs ns xs khs kns kxs places khs' kns' kxs' r)
      (d : (s : ℕ) → s ∈ take m heads → Head g tk b n counts ts s × (link_at tk b s ∈ links)) (O : Orderly (wanted (take m heads))) where
    parts : (ys : List ℕ) × (take m heads ≡ take F.j heads ++ ys)
    parts = take_more F.j m heads F.few

    some_heads : (s : ℕ) → s ∈ take F.j heads → Head g tk b n counts ts s × (link_at tk b s ∈ links)
    some_heads s i = d s (subst (λ (l : List ℕ). s ∈ l) (sym parts.1) (append_to (take F.j heads) parts.0 s i))
      where
        append_to : (xs ys : List ℕ) (x : ℕ) → x ∈ xs → x ∈ (xs ++ ys)
        append_to [] ys x m = elim m [ ]
        append_to (y ∷ xs) ys x (here e) = here e
        append_to (y ∷ xs) ys x (there m) = there (append_to xs ys x m)

    images : map stand (all_of F.ks) ≡ all_from same_words_kept sooner_of_kept [] (wanted (take F.j heads))
    images =
        sym (all_map stand same_kept sooner_kept same_words_kept sooner_of_kept SeqIs (λ x y u v. refl)
        (λ x y u v. ap₂ (λ (i j : ℕ). x.rank ≺ y.rank || (eq x.rank y.rank && nat_lt i j)) (sym v) (sym u)) [] F.ks (λ x i. elim i [ ]) (heads_seq (take F.j heads) F.ks some_heads F.are))
        ∙ ap (all_from same_words_kept sooner_of_kept []) (heads_kept gs h ok L I w g q long counts bound (take F.j heads) F.ks some_heads F.are)

    perm : Perm (all_from same_words_kept sooner_of_kept [] (wanted (take m heads))) (kept_map counts margin bound cap (map rank_of (take m heads)))
    perm = map_perm counts margin bound cap (map rank_of (take m heads)) O

    -- what the places hold is the definition's map, in some order
    pub map_held : {k : ℕ} → r ≡ Some k → Perm (map stand (kept_list khs' kns' kxs' k)) (kept_map counts margin bound cap (map rank_of (take m heads)))
    map_held {k} l = go (subst (λ (x : Option ℕ). Added khs kns kxs 0 F.ks places khs' kns' kxs' x) l F.added)
      where
        go : Added khs kns kxs 0 F.ks places khs' kns' kxs' (Some k) → Perm (map stand (kept_list khs' kns' kxs' k)) (kept_map counts margin bound cap (map rank_of (take m heads)))
        go (are_added j u e) =
            subst (λ (ks : List Kept). Perm ks (kept_map counts margin bound cap (map rank_of (take m heads))))
            (sym (ap (map stand) e ∙ images ∙ ap (λ (i : ℕ). all_from same_words_kept sooner_of_kept [] (wanted (take i heads))) (F.all (ap is_some l)))) perm

    -- where there are too few places, the definition's map has more than these
    pub map_more : r ≡ None → places < length (kept_map counts margin bound cap (map rank_of (take m heads)))
    map_more l = go (subst (λ (x : Option ℕ). Added khs kns kxs 0 F.ks places khs' kns' kxs' x) l F.added)
      where
        longer : length (all_from same_words_kept sooner_of_kept [] (wanted (take F.j heads))) ≤ length (all_from same_words_kept sooner_of_kept [] (wanted (take m heads)))
        longer =
            subst (λ (ks : List Kept). length (all_from same_words_kept sooner_of_kept [] (wanted (take F.j heads))) ≤ length ks)
            (sym (ap (λ (ss : List ℕ). all_from same_words_kept sooner_of_kept [] (wanted ss)) parts.1 ∙ ap (all_from same_words_kept sooner_of_kept []) (wanted_both (take F.j heads) parts.0) ∙ all_then same_words_kept sooner_of_kept [] (wanted (take F.j heads)) (wanted parts.0)))
            (all-length same_words_kept sooner_of_kept (all_from same_words_kept sooner_of_kept [] (wanted (take F.j heads))) (wanted parts.0))

        go : Added khs kns kxs 0 F.ks places khs' kns' kxs' None → places < length (kept_map counts margin bound cap (map rank_of (take m heads)))
        go (are_more u) =
            let x : length (all_of F.ks) ≡ length (all_from same_words_kept sooner_of_kept [] (wanted (take F.j heads))) = sym (length_map stand (all_of F.ks)) ∙ ap length images in
            let y = perm-length perm in
            let z = longer in
            omega arith
