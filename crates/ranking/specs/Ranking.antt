-- The listed states, sorted by key, are the definition's tokens, best first. Assumes nothing.
use Rattle.std.specs.Prelude.{◌≡◌, refl, ℕ, zero, suc, ◌+◌, ◌*◌, ◌^◌, ◌≤◌, ◌<◌, Bool, false, T, ltb, length, take, Float, Option as RustOption, Some, None}
use Rattle.std.proofs.Math.Path.{sym, ap, ap₂, subst}
use Rattle.std.proofs.Common.{◌∙◌, arith}
use Rattle.std.proofs.Math.Bool.{true, cond}
use Rattle.std.proofs.Math.Option.{Option, none, some}
use mathlib.Core.List.{List, [], ◌∷◌, ◌++◌, map, append-nil, append_assoc, map-append}
use Rattle.std.proofs.Math.ListN.{get_or, drop, drop_of_length-le}
use Rattle.std.proofs.Math.Seq.{drop-cons}
use Rattle.std.specs.Float.{binary32}
use Rattle.std.specs.Float.Ieee.{fits}
use Rattle.std.specs.Float.Ieee.Fits.{add-fits, sub-fits, cond-fits}
use Rattle.std.specs.Float.Ieee.Scale.{finite}
use Rattle.lists.specs.Lists.{◌∈◌, sort_by}
use Rattle.lists.specs.Members.{sort_from, map_from, map_to}
use Rattle.lists.specs.Tests.{case, eq_or_not, and_both}
use Rattle.model.specs.Basics.{◌⊕◌, 0f}
use Rattle.model.specs.Graph.{Graph, final_weight}
use Rattle.model.specs.Path.{Token as Model, Table}
use Rattle.model.specs.Reads.{Ranked, rank_one, rank_from, sooner}
use Rattle.tokens.specs.declared.Token.{Token as Stored}
use Rattle.tokens.specs.Layout.{cell_at, token_of, held_at, place_in}
use Rattle.tokens.specs.Held.{some_held}
use Rattle.records.specs.History.{History}
use Rattle.stores.specs.Shown.{Shown}
use Rattle.stores.specs.Tables.{vacant_at, active_at, stored_is}
use Rattle.sorting.specs.Moves.{Lent, Kept}
use Rattle.sorting.specs.Sorting.{Sorted}
use Rattle.sorting.specs.Keyed.{sorted_keyed}
use Rattle.traceback.specs.declared.Candidate.{Candidate}
use Rattle.traceback.specs.Ranks.{weight_in, rank_in, candidate_of, candidate_at, CandidateIs}
use Rattle.traceback.specs.Ranking.{candidate_is, tests_same, weight_is}
use Rattle.ranking.specs.Keys.{Keyed, keys_compare}
use Rattle.ranking.specs.Listed.{below, below_from, below_ascending, counted, counts_in_place, key_or, key_at, Listed, counts_active}
use Rattle.ranking.specs.Ranked.{token_in, ranked_at, RankAsks, RankedIs}

-- ---- a candidate's rank and seq

rank_fits : (c graph w : Float) (counts : Bool) → T (fits binary32 c) → T (fits binary32 (rank_in c graph w counts))
rank_fits c graph w counts f = cond-fits binary32 counts _ c (sub-fits binary32 c _) f

-- a rank of f32 and a seq of u32
abbrev Fitting : RustOption Candidate → Type 0
Fitting None = Unit {0}
Fitting (Some c) = T (fits binary32 c.rank) × (c.seq < 2 ^ 32)

candidate_fits : (s : ℕ) (t : Stored) (w : Float) (counts : Bool) → t.seq < 2 ^ 32 → Fitting (candidate_of s t w counts)
unfolding candidate_of
candidate_fits s t w counts l = go (finite (t.cost ⊕ w)) (record { state = s; link = t.link; seq = t.seq; rank = rank_in (t.cost ⊕ w) t.graph w counts; cost = t.cost ⊕ w }) (rank_fits (t.cost ⊕ w) t.graph w counts (add-fits binary32 t.cost w)) l
  where
    go : (b : Bool) (c : Candidate) → T (fits binary32 c.rank) → c.seq < 2 ^ 32 → Fitting (cond b (Some c) None)
    go true c f l = (f, l)
    go false c f l = tt

-- ---- the states that count, as the stores show them

module _ {h : ℕ → History} {used : ℕ} {tk : List ℕ} {sm fs : List Float} {b n : ℕ} {ts : Table} (w : Shown h used tk sm b n ts) (g : Graph) (q : g.finals ≡ fs) (long : n ≤ length fs) (counts : Bool) where
  record At (s : ℕ) : Type 0 where
    token : Model
    there : get_or ts s none ≡ some token
    candidate : Candidate
    is : candidate_at tk sm fs b s counts ≡ cond (finite (ranked_at g counts ts s).cost) (Some candidate) None
    same : CandidateIs h used n ts candidate (ranked_at g counts ts s)

  at_active : (s : ℕ) → s < n → (held_at tk (place_in b s) ≡ 0 → ⊥) → At s
  unfolding candidate_of rank_one
  at_active s l d =
      let a = active_at w s l d in
      let y = a.stored in
      let x = cond counts (final_weight g s) 0f in
      let r : ranked_at g counts ts s ≡ rank_one counts x a.token = ap (λ (o : Option Model). rank_one counts x (token_in o)) a.at in
      record {
        token = a.token;
        there = a.at;
        candidate = record { state = s; link = y.link; seq = y.seq; rank = rank_in (y.cost ⊕ x) y.graph x counts; cost = y.cost ⊕ x };
        is = ap₂ (λ (t : Stored) (u : Float). candidate_of s t u counts) (stored_is w a) (weight_is g fs s counts q (omega arith))
            ∙ ap (λ (c : Float). cond (finite c) (Some (record { state = s; link = y.link; seq = y.seq; rank = rank_in (y.cost ⊕ x) y.graph x counts; cost = y.cost ⊕ x })) None) (ap (λ (c : Float). c ⊕ x) a.is.cost ∙ ap (λ (v : Ranked). v.cost) (sym r));
        same = rw r (candidate_is h used n ts s l y a.token a.at a.is x counts);
      }

  abbrev stands : ℕ → Ranked
  stands = ranked_at g counts ts

  abbrev passes : ℕ → Bool
  passes = counts_in_place tk sm fs b counts

  counted_if : (f : Bool) (c : Candidate) → counted (cond f (Some c) None) ≡ f
  counted_if true c = refl
  counted_if false c = refl

  -- ---- they stand for the tokens that count

  one_more : (s : ℕ) (f : Bool) (rest : List Ranked) → map stands (cond f (s ∷ []) []) ++ rest ≡ cond f (stands s ∷ rest) rest
  one_more s true rest = refl
  one_more s false rest = refl

  from_token : (s : ℕ) (t : Model) (o : Option Model) (rest : Table) → o ≡ some t
      → rank_from g counts s (o ∷ rest) ≡ (let r = rank_one counts (cond counts (final_weight g s) 0f) (token_in o) in cond (finite r.cost) (r ∷ rank_from g counts (suc s) rest) (rank_from g counts (suc s) rest))
  unfolding rank_from
  from_token s t o rest e = rw e

  ranked_step : (s : ℕ) → s < n → map stands (cond (passes s) (s ∷ []) []) ++ rank_from g counts (suc s) (drop (suc s) ts) ≡ rank_from g counts s (drop s ts)
  unfolding rank_from
  ranked_step s l =
      let rest = rank_from g counts (suc s) (drop (suc s) ts) in
      let d : drop s ts ≡ get_or ts s none ∷ drop (suc s) ts = drop-cons ts s none (let z = w.size in omega arith) in
      case (eq_or_not (held_at tk (place_in b s)) 0) (λ e. rw (e, d, vacant_at w s l e))
      (λ e.
      let a = at_active s l e in
      let p : passes s ≡ finite (stands s).cost = counts_active tk sm fs b counts s e ∙ ap counted a.is ∙ counted_if (finite (stands s).cost) a.candidate in
      one_more s (passes s) rest ∙ ap (λ (f : Bool). cond f (stands s ∷ rest) rest) p ∙ sym (from_token s a.token (get_or ts s none) (drop (suc s) ts) a.there) ∙ ap (rank_from g counts s) (sym d))

  ranked_upto : (s : ℕ) → s ≤ n → map stands (below passes s) ++ rank_from g counts s (drop s ts) ≡ rank_from g counts 0 ts
  ranked_upto zero l = refl
  ranked_upto (suc s) l =
      let one = cond (passes s) (s ∷ []) [] in
      let rest = rank_from g counts (suc s) (drop (suc s) ts) in
      ap (λ (rs : List Ranked). rs ++ rest) (map-append stands (below passes s) one) ∙ append_assoc (map stands (below passes s)) (map stands one) rest
      ∙ ap (λ (rs : List Ranked). map stands (below passes s) ++ rs) (ranked_step s (omega arith)) ∙ ranked_upto s (omega arith)

  ranked_all : map stands (below passes n) ≡ rank_from g counts 0 ts
  unfolding rank_from
  ranked_all =
      let e : drop n ts ≡ [] = drop_of_length-le ts {i = n} (let z = w.size in omega arith) in
      sym (append-nil (map stands (below passes n))) ∙ ap (λ (rs : Table). map stands (below passes n) ++ rank_from g counts n rs) (sym e) ∙ ranked_upto n (omega arith)

  -- ---- their keys compare as they do

  module _ {keys order : List ℕ} (asks : RankAsks tk sm fs b n counts keys order) (small : (i : ℕ) → get_or tk i 0 < 2 ^ 32) where
    record Counts (s : ℕ) : Type 0 where
      candidate : Candidate
      is : candidate_at tk sm fs b s counts ≡ Some candidate
      same : CandidateIs h used n ts candidate (stands s)
      keyed : Keyed candidate

    counts_at : (s : ℕ) → s ∈ below passes n → Counts s
    unfolding cell_at
    counts_at s m =
        let (l, e) = below_from passes n s m in
        let (x, y) = and_both (ltb 0 (held_at tk (place_in b s))) (counted (candidate_at tk sm fs b s counts)) e in
        let d = some_held (held_at tk (place_in b s)) x in
        let a = at_active s l d in
        let f : finite (stands s).cost ≡ true = sym (counted_if (finite (stands s).cost) a.candidate) ∙ sym (ap counted a.is) ∙ y in
        let i : candidate_at tk sm fs b s counts ≡ Some a.candidate = a.is ∙ ap (λ (z : Bool). cond z (Some a.candidate) None) f in
        let k : Fitting (Some a.candidate) = subst Fitting i (candidate_fits s (token_of (cell_at tk sm (place_in b s))) (weight_in fs s counts) counts (small (place_in b s * 4 + 1))) in
        record { candidate = a.candidate; is = i; same = a.same; keyed = record { rank_fits = k.0; rank_known = asks.known s l d a.candidate i; seq_fits = k.1 } }

    compares : (i j : ℕ) → i ∈ below passes n → j ∈ below passes n → sooner (stands i) (stands j) ≡ ltb (key_at tk sm fs b counts i) (key_at tk sm fs b counts j)
    compares i j m k =
        let x = counts_at i m in
        let y = counts_at j k in
        sym (tests_same h used n ts y.candidate x.candidate (stands j) (stands i) y.same x.same) ∙ keys_compare x.candidate y.candidate x.keyed y.keyed ∙ ap₂ (λ (p q : RustOption Candidate). ltb (key_or p) (key_or q)) (sym x.is) (sym y.is)

-- ---- the listed states, sorted

module _ {tk : List ℕ} {sm fs : List Float} {b n : ℕ} {counts : Bool} {keys₀ keys keys' order₀ order order' : List ℕ} {m : ℕ} (asks : RankAsks tk sm fs b n counts keys₀ order₀) (small : (i : ℕ) → get_or tk i 0 < 2 ^ 32)
    (l : Listed tk sm fs b counts n keys order m) (kept : Kept keys₀ keys' order₀ order') (sorted : Sorted keys keys' order order' m) where
  abbrev listed : List ℕ
  listed = below (counts_in_place tk sm fs b counts) n

  lent : Lent keys' order' m
  lent =
      let f = l.few in
      let k = kept in
      record { keys_long = omega (arith, asks.keys_long); items_long = omega (arith, asks.order_long) }

  sorted_each : (s : ℕ) → s ∈ take m order' → s ∈ listed
  sorted_each s k =
      let key = key_at tk sm fs b counts in
      let before : ℕ → ℕ → Bool = λ i j. ltb (key i) (key j) in
      let e = sorted_keyed (λ (i : ℕ). i) key before listed (below_ascending (counts_in_place tk sm fs b counts) n) (λ i j p q. refl) l.keys_are l.order_are lent sorted in
      let (i, p, f) = map_from (λ (i : ℕ). i) listed s (sort_from before (map (λ (i : ℕ). i) listed) s (subst (λ (is : List ℕ). s ∈ is) e (map_to (λ (i : ℕ). i) (take m order') s k))) in
      subst (λ (j : ℕ). j ∈ listed) (sym f) p

  pub ranked_is : RankedIs tk sm fs b n counts order' m
  ranked_is =
      record {
        few = l.few;
        each = λ s k.
            let (i, e) = below_from (counts_in_place tk sm fs b counts) n s (sorted_each s k) in
            (i, some_held (held_at tk (place_in b s)) (and_both (ltb 0 (held_at tk (place_in b s))) (counted (candidate_at tk sm fs b s counts)) e).0);
        is = λ g q h used ts w.
            sorted_keyed (ranked_at g counts ts) (key_at tk sm fs b counts) sooner listed (below_ascending (counts_in_place tk sm fs b counts) n) (compares w g q asks.finals counts asks small) l.keys_are l.order_are lent sorted
            ∙ ap (sort_by sooner) (ranked_all w g q asks.finals counts);
      }
