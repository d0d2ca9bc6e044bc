-- What is added for the heads is what the definition has below them. Assumes nothing.
use Rattle.std.specs.Prelude.{◌≡◌, ℕ, zero, suc, ◌+◌, ◌-◌, ◌*◌, ◌%◌, ◌^◌, ◌<◌, ◌≤◌, Bool, true, false, cond, not, List, [], ◌∷◌, ◌++◌, map, length, ℤ, refl, Float, Option as RustOption, Some, None}
use Rattle.std.proofs.Common.{sym, ◌∙◌, arith}
use Rattle.std.proofs.Math.Path.{ap, ap₂, subst}
use Rattle.std.proofs.Math.Option.{Option}
use mathlib.Core.List.Memᴰ.{head as here}
use mathlib.Core.List.Memᴰ.{tail as there}
use mathlib.Core.List.{map-map, tail}
use Rattle.std.specs.Float.Ieee.Scale.{finite}
use Rattle.lists.specs.Lists.{◌∈◌, keep_if, range}
use Rattle.model.specs.Basics.{◌≼◌, ◌⊕◌, ◌⊖◌, ◌⊗◌, 0f, 1f}
use Rattle.model.specs.Graph.{Graph, final_weight}
use Rattle.model.specs.Path.{Token as Model, Table}
use Rattle.model.specs.Reads.{graph_scale, Ranked, rank_one}
use Rattle.model.specs.Readings.{Below, below, Kept, kept_of, kept_below}
use Rattle.copy_laws.specs.Ways.{with_words_on}
use Rattle.tokens.specs.declared.Token.{Token as Stored}
use Rattle.tokens.specs.Layout.{held_at, place_in, cell_at}
use Rattle.records.specs.History.{History, tag}
use Rattle.records.specs.Layout.{store}
use Rattle.records.specs.Stands.{Stands}
use Rattle.stores.specs.Shown.{Is, Shown}
use Rattle.stores.specs.Tables.{active_at, stored_is}
use Rattle.histories.specs.declared.Hashed.{Hashed}
use Rattle.histories.specs.Reading.{join_tag, read_words, hashed, EndIs, HashIs}
use Rattle.histories.specs.Laws.{end_words}
use Rattle.traceback.specs.declared.Candidate.{Candidate}
use Rattle.traceback.specs.Ranks.{rank_in, candidate_of, candidate_at, CandidateIs}
use Rattle.traceback.specs.Ranking.{candidate_is, weight_is}
use Rattle.ranking.specs.Ranked.{ranked_at, token_in}
use Rattle.groups.specs.Firsts.{link_at}
use Rattle.entries.specs.declared.Entry.{Entry}
use Rattle.entries.specs.Entries.{entry_at}
use Rattle.below.specs.Lists.{below_of}
use Rattle.below.specs.Stored.{stands_for, Decoded, first_at, count_at}
use Rattle.below.specs.Filling.{Listed}
use Rattle.below.specs.Paths.{below_history}
use Rattle.below.specs.Down.{words_on, below_to}
use Rattle.kept_readings.specs.declared.KeptReading.{KeptReading}
use Rattle.kept_readings.specs.Kept.{ranks_below}
use Rattle.kept_readings.specs.Heads.{kept_by, kept_starts_from, kept_under, HeadsKept, no_heads, head_on}

-- the kept reading of the definition that one stands for, where states have these ranked tokens, and entries stand for these paths
abbrev pub as_kept : (ℕ → Ranked) → List Below → KeptReading → Kept
as_kept rank bs k =
    let x = stands_for bs k.entry in
    record { key = record { hash = k.hash; len = k.len; cost = x.cost; graph = x.graph; route = x.route }; ranked = record { rank = k.rank; cost = k.cost; token = (rank k.state).token } }

abbrev pub kept_within : Float → Kept → Bool
kept_within bound k = not (bound ≼ k.ranked.rank)

-- ---- lists

module _ {A B : Type 0} (f : A → B) (p : A → Bool) (q : B → Bool) (e : (x : A) → q (f x) ≡ p x) where
  keep-map : (xs : List A) → map f (keep_if p xs) ≡ keep_if q (map f xs)
  keep-map [] = refl
  keep-map (x ∷ xs) = go (p x) (q (f x)) (e x) (keep-map xs)
    where
      go : (a b : Bool) → b ≡ a → map f (keep_if p xs) ≡ keep_if q (map f xs) → map f (cond a (x ∷ keep_if p xs) (keep_if p xs)) ≡ cond b (f x ∷ keep_if q (map f xs)) (keep_if q (map f xs))
      go true true w r = ap (λ (l : List B). f x ∷ l) r
      go false false w r = r
      go true false w r = absurd (subst (λ (b : Bool). cond b (Unit {0}) ⊥) (sym w) tt)
      go false true w r = absurd (subst (λ (b : Bool). cond b (Unit {0}) ⊥) w tt)

module _ {A : Type 0} (p : A → Bool) where
  pub keep_both : (xs ys : List A) → keep_if p (xs ++ ys) ≡ keep_if p xs ++ keep_if p ys
  keep_both [] ys = refl
  keep_both (x ∷ xs) ys = go (p x) (keep_both xs ys)
    where
      go : (b : Bool) → keep_if p (xs ++ ys) ≡ keep_if p xs ++ keep_if p ys → cond b (x ∷ keep_if p (xs ++ ys)) (keep_if p (xs ++ ys)) ≡ cond b (x ∷ keep_if p xs) (keep_if p xs) ++ keep_if p ys
      go true r = ap (λ (l : List A). x ∷ l) r
      go false r = r

pub map_both : {A B : Type 0} (f : A → B) (xs ys : List A) → map f (xs ++ ys) ≡ map f xs ++ map f ys
map_both f [] ys = refl
map_both f (x ∷ xs) ys = ap (λ l. f x ∷ l) (map_both f xs ys)

map_range : {A : Type 0} (f g : ℕ → A) (a n : ℕ) → ((i : ℕ) → a ≤ i → i < a + n → f i ≡ g i) → map f (range a n) ≡ map g (range a n)
map_range f g a zero e = refl
map_range f g a (suc n) e = ap₂ (λ x l. x ∷ l) (e a (omega arith) (omega arith)) (map_range f g (suc a) n (λ i l u. e i (omega arith) (omega arith)))

tail_range : {A : Type 0} (f : ℕ → A) (a n : ℕ) → tail (map f (range a n)) ≡ map f (range (a + 1) (n - 1))
tail_range f a zero = refl
tail_range f a (suc n) = ap₂ (λ (x y : ℕ). map f (range x y)) (let e : suc a ≡ a + 1 = omega arith in e) (let e : n ≡ suc n - 1 = omega arith in e)

-- ---- an entry

-- what an entry's fields are
record EntryFor (x : Below) (b : Entry) : Type 0 where
  hash : b.hash ≡ x.hash
  len : b.len ≡ x.len
  cost : b.cost ≡ x.cost
  graph : b.graph ≡ x.graph

entry_for : {h : ℕ → History} {used : ℕ} {hs ns : List ℕ} {xs : List Float} {bs : List Below} → Decoded h used hs ns xs bs → (e : ℕ) → e ≤ length bs → EntryFor (stands_for bs e) (entry_at hs ns xs e)
unfolding entry_at
entry_for D zero l = record { hash = refl; len = refl; cost = refl; graph = refl }
entry_for D (suc i) l =
    let q = sym (D.is i (omega arith)) in
    record { hash = ap (λ (x : Below). x.hash) q; len = ap (λ (x : Below). x.len) q; cost = ap (λ (x : Below). x.cost) q; graph = ap (λ (x : Below). x.graph) q }

-- ---- a head's token

-- its candidate stands for it
pub record HeadIs (c : Candidate) (r : Ranked) (s : ℕ) : Type 0 where
  pub state : c.state ≡ s
  pub rank : c.rank ≡ r.rank
  pub cost : c.cost ≡ r.cost

kept_is : (rank : ℕ → Ranked) (bs : List Below) (c : Candidate) (s : ℕ) → HeadIs c (rank s) s → (counts : Bool) (above : Hashed) (ws : List ℤ) → above ≡ hashed ws → (e : ℕ) (b : Entry) → EntryFor (stands_for bs e) b
    → as_kept rank bs (kept_by c counts above e b) ≡ kept_of counts (rank s) (with_words_on ws (stands_for bs e))
unfolding kept_of
kept_is rank bs c s H counts above ws a e b E =
    let x = stands_for bs e in
    (λ t. record {
      key = record { hash = (E.hash t * (a t).shift % 2 ^ 64 + (a t).hash) % 2 ^ 64; len = E.len t + (a t).len; cost = x.cost; graph = x.graph; route = x.route };
      ranked = record { rank = H.rank t ⊕ E.cost t ⊖ cond counts ((1f ⊖ graph_scale) ⊗ E.graph t) 0f; cost = H.cost t ⊕ E.cost t; token = (rank (H.state t)).token };
    })
    ∙ ap (kept_of counts (rank s)) (sym (words_on ws x))

-- ---- one head

-- an active state whose token counts
pub record Head (g : Graph) (tk : List ℕ) (b n : ℕ) (counts : Bool) (ts : Table) (s : ℕ) : Type 0 where
  pub inside : s < n
  pub held : held_at tk (place_in b s) ≡ 0 → ⊥
  pub counted : finite (ranked_at g counts ts s).cost ≡ true

-- its candidate and its record
pub record Stood (g : Graph) (h : ℕ → History) (used : ℕ) (tk : List ℕ) (sm fs : List Float) (b : ℕ) (counts : Bool) (ts : Table) (s : ℕ) : Type 0 where
  pub candidate : Candidate
  pub is : candidate_at tk sm fs b s counts ≡ Some candidate
  pub head : HeadIs candidate (ranked_at g counts ts s) s
  pub seq : candidate.seq ≡ (ranked_at g counts ts s).token.seq
  pub link : Is h used (link_at tk b s) (ranked_at g counts ts s).token.path

module _ {h : ℕ → History} {used : ℕ} {tk : List ℕ} {sm fs : List Float} {b n : ℕ} {ts : Table} (w : Shown h used tk sm b n ts) (g : Graph) (q : g.finals ≡ fs) (long : n ≤ length fs) (counts : Bool) where
  pub stood : (s : ℕ) → Head g tk b n counts ts s → Stood g h used tk sm fs b counts ts s
  unfolding candidate_of rank_one cell_at
  stood s H =
      let a = active_at w s H.inside H.held in
      let y = a.stored in
      let x = cond counts (final_weight g s) 0f in
      let r : ranked_at g counts ts s ≡ rank_one counts x a.token = ap (λ (o : Option Model). rank_one counts x (token_in o)) a.at in
      let c : Candidate = record { state = s; link = y.link; seq = y.seq; rank = rank_in (y.cost ⊕ x) y.graph x counts; cost = y.cost ⊕ x } in
      let i : CandidateIs h used n ts c (rank_one counts x a.token) = candidate_is h used n ts s H.inside y a.token a.at a.is x counts in
      let v : finite (y.cost ⊕ x) ≡ true = ap finite (i.cost ∙ ap (λ (u : Ranked). u.cost) (sym r)) ∙ H.counted in
      record {
        candidate = c;
        is = ap₂ (λ (t : Stored) (u : Float). candidate_of s t u counts) (stored_is w a) (weight_is g fs s counts q (let z = H.inside in omega arith)) ∙ ap (λ (z : Bool). cond z (Some c) None) v;
        head = record { state = refl; rank = i.rank ∙ ap (λ (u : Ranked). u.rank) (sym r); cost = i.cost ∙ ap (λ (u : Ranked). u.cost) (sym r) };
        seq = i.seq ∙ ap (λ (u : Ranked). u.token.seq) (sym r);
        link = subst (λ (u : Ranked). Is h used (link_at tk b s) u.token.path) (sym r) (subst (λ (k : ℕ). Is h used k a.token.path) (sym (ap (λ (t : Stored). t.link) (stored_is w a))) a.is.link);
      }

-- the list of each join has its entries among those that stand for something
abbrev pub ListsInside : (ℕ → History) → (used : ℕ) → (links lists : List ℕ) → (n : ℕ) → Type 0
ListsInside h used links lists n = (l : ℕ) → l ∈ links → (e : ℕ) → e ≤ used → tag (h e) ≡ join_tag (h l) → first_at lists e + count_at lists e ≤ n + 1

module _ {rs : List ℕ} {ls : List ℤ} {used : ℕ} (gs : List Float) (h : ℕ → History) (ok : Stands (store rs ls gs) used h) {margin : Float} {cap : ℕ} {links lists hs ns : List ℕ} {xs : List Float} {m : ℕ} (L : Listed h used margin cap links lists hs ns xs m) (I : ListsInside h used links lists m)
    {tk : List ℕ} {sm fs : List Float} {b n : ℕ} {ts : Table} (w : Shown h used tk sm b n ts) (g : Graph) (q : g.finals ≡ fs) (long : n ≤ length fs) (counts : Bool) (bound : Float) where
  abbrev rank_of : ℕ → Ranked
  rank_of s = ranked_at g counts ts s

  module _ (s : ℕ) (H : Head g tk b n counts ts s) (there-is : link_at tk b s ∈ links) where
    S : Stood g h used tk sm fs b counts ts s
    S = stood w g q long counts s H

    module _ (join : ℕ) (above : Hashed) (E : EndIs rs ls used (link_at tk b s) true join) (K : HashIs rs ls used (link_at tk b s) join above) where
      ws : List ℤ
      ws = read_words true (h (link_at tk b s))

      above_is : above ≡ hashed ws
      unfolding ws
      above_is = K.is gs h ok ∙ ap hashed (end_words gs h ok E)

      low : join ≤ used
      low = let x = E.low in let y = S.link.low in omega arith

      below_is : below margin cap (rank_of s).token.path ≡ map (λ (e : ℕ). with_words_on ws (stands_for L.bs e)) (range (first_at lists join) (count_at lists join))
      unfolding ws
      below_is =
          below_history margin cap (rank_of s).token.path S.link.own S.link.frames
          ∙ ap (below_of margin cap) (sym S.link.is)
          ∙ below_to ok margin cap (link_at tk b s) join S.link.low low (E.is gs h ok)
          ∙ ap (map (with_words_on ws)) (sym (L.lists_are (link_at tk b s) there-is join low (E.is gs h ok)))
          ∙ map-map (with_words_on ws) (stands_for L.bs) (range (first_at lists join) (count_at lists join))

      under_is : map (as_kept rank_of L.bs) (kept_under hs ns xs (candidate_at tk sm fs b s counts) counts bound above (first_at lists join) (count_at lists join))
          ≡ keep_if (kept_within bound) (map (kept_of counts (rank_of s)) (tail (below margin cap (rank_of s).token.path)))
      under_is =
          let c = S.candidate in
          let a = first_at lists join in
          let k = count_at lists join in
          ap (λ (x : RustOption Candidate). map (as_kept rank_of L.bs) (kept_under hs ns xs x counts bound above a k)) S.is
          ∙ keep-map (as_kept rank_of L.bs) (ranks_below bound) (kept_within bound) (λ x. refl) (kept_starts_from hs ns xs c counts above (a + 1) (k - 1))
          ∙ ap (keep_if (kept_within bound))
          (map-map (as_kept rank_of L.bs) (λ (e : ℕ). kept_by c counts above e (entry_at hs ns xs e)) (range (a + 1) (k - 1))
          ∙ map_range (λ (e : ℕ). as_kept rank_of L.bs (kept_by c counts above e (entry_at hs ns xs e))) (λ (e : ℕ). kept_of counts (rank_of s) (with_words_on ws (stands_for L.bs e))) (a + 1) (k - 1)
          (λ e u v. kept_is rank_of L.bs c s S.head counts above ws above_is e (entry_at hs ns xs e) (entry_for L.decoded e (let y = I (link_at tk b s) there-is join low (E.is gs h ok) in let z = L.many in omega arith)))
          ∙ sym (map-map (kept_of counts (rank_of s)) (λ (e : ℕ). with_words_on ws (stands_for L.bs e)) (range (a + 1) (k - 1)))
          ∙ ap (map (kept_of counts (rank_of s))) (sym (tail_range (λ (e : ℕ). with_words_on ws (stands_for L.bs e)) a k) ∙ ap tail (sym below_is)))

  -- all heads
  pub heads_kept : (ss : List ℕ) (ks : List KeptReading) → ((s : ℕ) → s ∈ ss → Head g tk b n counts ts s × (link_at tk b s ∈ links)) → HeadsKept tk sm fs rs ls b used counts bound lists hs ns xs ss ks
      → map (as_kept rank_of L.bs) ks ≡ keep_if (kept_within bound) (kept_below counts margin cap (map rank_of ss))
  heads_kept [] ks d no_heads = refl
  heads_kept (s ∷ ss) ks d (head_on {ks = is} {ls' = js} K Ks) =
      let x = d s (here refl) in
      map_both (as_kept rank_of L.bs) is js
      ∙ ap₂ (λ (a c : List Kept). a ++ c) (ap (map (as_kept rank_of L.bs)) K.is ∙ under_is s x.0 x.1 K.join K.above K.end_is K.hash_is) (heads_kept ss js (λ t m. d t (there m)) Ks)
      ∙ sym (keep_both (kept_within bound) (map (kept_of counts (rank_of s)) (tail (below margin cap (rank_of s).token.path))) (kept_below counts margin cap (map rank_of ss)))
