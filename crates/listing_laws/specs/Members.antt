-- Every kept reading in the map is of a head, by an entry that was put, with its token's seq. Assumes nothing.
use Rattle.std.specs.Prelude.{◌≡◌, refl, ◌⊎◌, ℕ, ◌+◌, ◌-◌, ◌≤◌, ◌<◌, Bool, true, false, cond, List, [], ◌∷◌, map, ℤ, take, Float, Option, Some, is_some}
use Rattle.std.proofs.Common.{sym, ap, ◌∙◌, subst, inl, inr, arith}
use mathlib.Core.List.Memᴰ
use mathlib.Core.List.Memᴰ.{head as here}
use mathlib.Core.List.Memᴰ.{tail as there}
use Rattle.lists.specs.Tests.{case}
use Rattle.lists.specs.Lists.{◌∈◌, range}
use Rattle.lists.specs.Members.{keep_from, map_from}
use Rattle.traceback.specs.declared.Candidate.{Candidate}
use Rattle.traceback.specs.Ranks.{candidate_at}
use Rattle.histories.specs.declared.Hashed.{Hashed}
use Rattle.groups.specs.Firsts.{link_at}
use Rattle.entries.specs.Entries.{entry_at}
use Rattle.below.specs.Stored.{first_at, count_at}
use Rattle.below.specs.Short.{Short}
use Rattle.below.specs.Maps.{range_member}
use Rattle.kept_readings.specs.declared.KeptReading.{KeptReading}
use Rattle.kept_readings.specs.Kept.{kept_list, same_kept, sooner_kept, add_to, all_from, Added, are_added, ranks_below, within}
use Rattle.kept_readings.specs.Heads.{kept_by, kept_starts_from, kept_under, HeadsKept, no_heads, head_on, FillIs}
use Rattle.kept_readings.specs.Meaning.{Head, stood}
use Rattle.listing_laws.specs.Situation.{Situation}
use Rattle.listing_laws.specs.Owns.{rank_in}

module _ {A : Type 0} (same sooner : A → A → Bool) where
  add_from : (k : A) (xs : List A) (x : A) → x ∈ add_to same sooner k xs → (x ≡ k) ⊎ (x ∈ xs)
  add_from k [] x (here e) = inl e
  add_from k [] x (there m) = elim m [ ]
  add_from k (y ∷ xs) x m = go (same k y) (sooner k y) m (add_from k xs x)
    where
      later : (x ≡ k) ⊎ (x ∈ xs) → (x ≡ k) ⊎ (x ∈ (y ∷ xs))
      later (inl e) = inl e
      later (inr i) = inr (there i)

      go : (a b : Bool) → x ∈ cond a (cond b k y ∷ xs) (y ∷ add_to same sooner k xs) → (x ∈ add_to same sooner k xs → (x ≡ k) ⊎ (x ∈ xs)) → (x ≡ k) ⊎ (x ∈ (y ∷ xs))
      go true true (here e) rec = inl e
      go true true (there i) rec = inr (there i)
      go true false (here e) rec = inr (here e)
      go true false (there i) rec = inr (there i)
      go false b (here e) rec = inr (here e)
      go false b (there i) rec = later (rec i)

  all_from_lem : (xs ks : List A) (x : A) → x ∈ all_from same sooner xs ks → (x ∈ xs) ⊎ (x ∈ ks)
  all_from_lem xs [] x m = inl m
  all_from_lem xs (k ∷ ks) x m = case (all_from_lem (add_to same sooner k xs) ks x m) (λ i. case (add_from k xs x i) (λ e. inr (here e)) inl) (λ i. inr (there i))

module _ {tk : List ℕ} {sm fs : List Float} {rs : List ℕ} {ls : List ℤ} {gs : List Float} {n b used : ℕ} {keeps : Bool} {margin : Float} (S : Situation tk sm fs rs ls gs n b used keeps margin) (counts : Bool) where
  -- of one of these states, by an entry below e
  pub record KeptHeld (ss : List ℕ) (e : ℕ) (k : KeptReading) : Type 0 where
    pub state_in : k.state ∈ ss
    pub entry_low : k.entry < e
    pub seq : k.seq ≡ (rank_in S counts k.state).token.seq

  module _ {lists hs ns : List ℕ} {xs : List Float} {next : ℕ} (short : Short lists hs ns xs used next) (bound : Float) where
    held_under : (s : ℕ) → Head S.g tk b n counts S.st.table s → (join : ℕ) (above : Hashed) → join ≤ used → (k : KeptReading)
        → k ∈ kept_under hs ns xs (candidate_at tk sm fs b s counts) counts bound above (first_at lists join) (count_at lists join) → (k.state ≡ s) × (k.entry < next) × (k.seq ≡ (rank_in S counts s).token.seq)
    held_under s H join above l k m =
        let x = stood S.shown S.g S.finals S.long counts s H in
        let c = x.candidate in
        let first = first_at lists join in
        let count = count_at lists join in
        let i : k ∈ within bound (kept_starts_from hs ns xs c counts above (first + 1) (count - 1)) = subst (λ (y : Option Candidate). k ∈ kept_under hs ns xs y counts bound above first count) x.is m in
        let (z, j, u) = map_from (λ (z : ℕ). kept_by c counts above z (entry_at hs ns xs z)) (range (first + 1) (count - 1)) k (keep_from (ranks_below bound) (kept_starts_from hs ns xs c counts above (first + 1) (count - 1)) k i) in
        let r = (range_member (first + 1) (count - 1) z j).0 in
        let q = (range_member (first + 1) (count - 1) z j).1 in
        let w = short.before join l in
        (ap (λ (y : KeptReading). y.state) u ∙ x.head.state, (let e = ap (λ (y : KeptReading). y.entry) u in omega arith), ap (λ (y : KeptReading). y.seq) u ∙ x.seq)

    heads_held : (ss : List ℕ) (ks : List KeptReading) → ((s : ℕ) → s ∈ ss → Head S.g tk b n counts S.st.table s × (link_at tk b s ≤ used)) → HeadsKept tk sm fs rs ls b used counts bound lists hs ns xs ss ks → (k : KeptReading) → k ∈ ks → KeptHeld ss next k
    heads_held [] ks d no_heads k m = elim m [ ]
    heads_held (s ∷ ss) ks d (head_on {ks = is} {ls' = js} K Ks) k m =
        case (Memᴰ.append_cases is m)
        (λ i.
        let low : K.join ≤ used = let y = K.end_is.low in let v = (d s (here refl)).1 in omega arith in
        let z = held_under s (d s (here refl)).0 K.join K.above low k (subst (λ (l : List KeptReading). k ∈ l) K.is i) in
        record { state_in = here z.0; entry_low = z.1; seq = z.2 ∙ ap (λ (t : ℕ). (rank_in S counts t).token.seq) (sym z.0) })
        (λ i. let z = heads_held ss js (λ t j. d t (there j)) Ks k i in record { state_in = there z.state_in; entry_low = z.entry_low; seq = z.seq })

    -- every one in the map
    pub kept_held : {heads : List ℕ} {m : ℕ} {khs kns : List ℕ} {kxs : List Float} {places : ℕ} {khs' kns' : List ℕ} {kxs' : List Float} {r : Option ℕ} (F : FillIs tk sm fs rs ls b used counts bound heads m lists hs ns xs khs kns kxs places khs' kns' kxs' r)
        → ((s : ℕ) → s ∈ take m heads → Head S.g tk b n counts S.st.table s × (link_at tk b s ≤ used)) → {n : ℕ} → r ≡ Some n → (k : KeptReading) → k ∈ kept_list khs' kns' kxs' n → KeptHeld (take m heads) next k
    kept_held {heads} {m} {khs} {kns} {kxs} {places} {khs'} {kns'} {kxs'} F d {n} q k i = subst (λ (j : ℕ). KeptHeld (take j heads) next k) all (go (subst (λ (x : Option ℕ). Added khs kns kxs 0 F.ks places khs' kns' kxs' x) q F.added))
      where
        all : F.j ≡ m
        all = F.all (ap is_some q)

        go : Added khs kns kxs 0 F.ks places khs' kns' kxs' (Some n) → KeptHeld (take F.j heads) next k
        go A = heads_held (take F.j heads) F.ks (λ s m. d s (subst (λ (j : ℕ). s ∈ take j heads) all m)) F.are k (member A)
          where
            member : Added khs kns kxs 0 F.ks places khs' kns' kxs' (Some n) → k ∈ F.ks
            member (are_added j u e) = case (all_from_lem same_kept sooner_kept [] F.ks k (subst (λ (l : List KeptReading). k ∈ l) e i)) (λ j. elim j [ ]) (λ j. j)
