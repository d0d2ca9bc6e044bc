-- Laws of the loops over entries and heads. Assumes nothing.
use Rattle.std.specs.Prelude.{◌≡◌, ℕ, zero, suc, ◌+◌, ◌-◌, ◌<◌, ◌≤◌, Bool, true, false, cond, not, ◌&&◌, List, [], ◌∷◌, ◌++◌, map, length, take, ℤ, ◌==◌, ◌≢◌, nat_lt, slice_index, slice_index_or, slice_set, refl, Float, Option, Some, None}
use Rattle.std.proofs.Math.Path.{sym, ap}
use Rattle.std.proofs.Common.{ap₂, ◌∙◌, subst, arith, length-set, get_or-set_same, get_or-set_other, lt-ltb, le-ltb, eq-eqb, ne_eqb}
use Rattle.lists.specs.Lists.{keep_if, range}
use Rattle.lists.specs.Tests.{case, eq_or_not, never}
use Rattle.records.specs.History.{History, tag}
use Rattle.records.specs.Layout.{store}
use Rattle.records.specs.Stands.{Stands}
use Rattle.histories.specs.declared.Hashed.{Hashed}
use Rattle.histories.specs.Reading.{join_tag, EndIs, HashIs}
use Rattle.traceback.specs.declared.Candidate.{Candidate}
use Rattle.traceback.specs.Ranks.{candidate_at}
use Rattle.groups.specs.Firsts.{link_at}
use Rattle.entries.specs.Entries.{entry_at}
use Rattle.below.specs.Stored.{first_at, count_at}
use Rattle.kept_readings.specs.declared.KeptReading.{KeptReading}
use Rattle.kept_readings.specs.Kept.{Room, Added, ranks_below, within}
use Rattle.kept_readings.specs.Heads.{kept_by, kept_starts_from, kept_under, EntriesAsk, HeadAsks, HeadKept, HeadAdded, HeadsKept, no_heads, head_on, FillIs, may_rank, IsHeadIs, KeptIf, not_kept, is_kept}
use Rattle.kept_readings.specs.Laws.{added_none, added_fits, added_then, added_short}

-- the slices keep their lengths
pub record Sized (hs ns : List ℕ) (xs : List Float) (hs' ns' : List ℕ) (xs' : List Float) : Type 0 where
  pub hashes : length hs' ≡ length hs
  pub links : length ns' ≡ length ns
  pub sums : length xs' ≡ length xs

module _ {hs ns : List ℕ} {xs : List Float} {hs' ns' : List ℕ} {xs' : List Float} where
  pub sized_then : {hs'' ns'' : List ℕ} {xs'' : List Float} → Sized hs ns xs hs' ns' xs' → Sized hs' ns' xs' hs'' ns'' xs'' → Sized hs ns xs hs'' ns'' xs''
  sized_then a b = record { hashes = b.hashes ∙ a.hashes; links = b.links ∙ a.links; sums = b.sums ∙ a.sums }

  pub room_still : {n : ℕ} → Sized hs ns xs hs' ns' xs' → Room hs ns xs n → Room hs' ns' xs' n
  room_still s r =
      record { hashes = let a = s.hashes in let b = r.hashes in omega arith; links = let a = s.links in let b = r.links in omega arith; sums = let a = s.sums in let b = r.sums in omega arith }

pub sized_same : {hs ns : List ℕ} {xs : List Float} → Sized hs ns xs hs ns xs
sized_same = record { hashes = refl; links = refl; sums = refl }

-- ---- over the entries of a list

module _ {A : Type 0} (p : A → Bool) (f : ℕ → A) where
  kept_parts : (a n z k : ℕ) → a + n ≡ z → keep_if p (map f (range a n)) ++ keep_if p (map f (range z k)) ≡ keep_if p (map f (range a (n + k)))
  kept_parts a zero z k e = ap₂ (λ (y m : ℕ). keep_if p (map f (range y m))) (let q : z ≡ a = omega arith in q) (let q : k ≡ 0 + k = omega arith in q)
  kept_parts a (suc n) z k e = go (p (f a)) (kept_parts (suc a) n z k (omega arith)) ∙ ap (λ (m : ℕ). keep_if p (map f (range a m))) (let q : suc (n + k) ≡ suc n + k = omega arith in q)
    where
      go : (b : Bool) → keep_if p (map f (range (suc a) n)) ++ keep_if p (map f (range z k)) ≡ keep_if p (map f (range (suc a) (n + k)))
          → cond b (f a ∷ keep_if p (map f (range (suc a) n))) (keep_if p (map f (range (suc a) n))) ++ keep_if p (map f (range z k)) ≡ cond b (f a ∷ keep_if p (map f (range (suc a) (n + k)))) (keep_if p (map f (range (suc a) (n + k))))
      go true r = ap (λ (l : List A). f a ∷ l) r
      go false r = r

module _ (hs ns : List ℕ) (xs : List Float) (c : Candidate) (counts : Bool) (above : Hashed) (bound : Float) (first count : ℕ) (khs kns : List ℕ) (kxs : List Float) (n places : ℕ) where
  abbrev some_below : ℕ → List KeptReading
  some_below k = within bound (kept_starts_from hs ns xs c counts above (first + 1) k)

  -- those before the i-th are added
  pub record BelowTo (i : ℕ) (khs' kns' : List ℕ) (kxs' : List Float) (m : ℕ) : Type 0 where
    pub low : 0 < i
    pub few : i - 1 ≤ count - 1
    pub fits : m ≤ places
    pub sized : Sized khs kns kxs khs' kns' kxs'
    pub added : Added khs kns kxs n (some_below (i - 1)) places khs' kns' kxs' (Some m)

  pub below_none : n ≤ places → BelowTo 1 khs kns kxs n
  below_none l = record { low = omega arith; few = omega arith; fits = l; sized = sized_same; added = added_none l }

  module _ {i : ℕ} {khs' kns' : List ℕ} {kxs' : List Float} {m : ℕ} (B : BelowTo i khs' kns' kxs' m) where
    pub below_all : count ≤ i → Added khs kns kxs n (some_below (count - 1)) places khs' kns' kxs' (Some m)
    below_all l = subst (λ (k : ℕ). Added khs kns kxs n (some_below k) places khs' kns' kxs' (Some m)) (let z = B.few in let e : i - 1 ≡ count - 1 = omega arith in e) B.added

    module _ (l : i < count) {khs'' kns'' : List ℕ} {kxs'' : List Float} {r : Option ℕ} (A : Added khs' kns' kxs' m (within bound (kept_by c counts above (first + i) (entry_at hs ns xs (first + i)) ∷ [])) places khs'' kns'' kxs'' r) where
      one_more : Added khs kns kxs n (some_below i) places khs'' kns'' kxs'' r
      one_more =
          subst (λ (ks : List KeptReading). Added khs kns kxs n ks places khs'' kns'' kxs'' r)
          (kept_parts (ranks_below bound) (λ (e : ℕ). kept_by c counts above e (entry_at hs ns xs e)) (first + 1) (i - 1) (first + i) 1 (let z = B.low in omega arith) ∙ ap some_below (let z = B.low in let e : i - 1 + 1 ≡ i = omega arith in e))
          (added_then (within bound (kept_by c counts above (first + i) (entry_at hs ns xs (first + i)) ∷ [])) B.added A)

      one_below : Added khs kns kxs n (some_below (i + 1 - 1)) places khs'' kns'' kxs'' r
      one_below = subst (λ (k : ℕ). Added khs kns kxs n (some_below k) places khs'' kns'' kxs'' r) (let e : i ≡ i + 1 - 1 = omega arith in e) one_more

    module _ (l : i < count) {khs'' kns'' : List ℕ} {kxs'' : List Float} where
      pub below_next : {r : ℕ} → Added khs' kns' kxs' m (within bound (kept_by c counts above (first + i) (entry_at hs ns xs (first + i)) ∷ [])) places khs'' kns'' kxs'' (Some r) → Sized khs' kns' kxs' khs'' kns'' kxs'' → BelowTo (i + 1) khs'' kns'' kxs'' r
      below_next A s = record { low = omega arith; few = omega arith; fits = added_fits A; sized = sized_then B.sized s; added = one_below l A }

      pub below_short : Added khs' kns' kxs' m (within bound (kept_by c counts above (first + i) (entry_at hs ns xs (first + i)) ∷ [])) places khs'' kns'' kxs'' None → Added khs kns kxs n (some_below (count - 1)) places khs'' kns'' kxs'' None
      below_short A =
          subst (λ (ks : List KeptReading). Added khs kns kxs n ks places khs'' kns'' kxs'' None)
          (kept_parts (ranks_below bound) (λ (e : ℕ). kept_by c counts above e (entry_at hs ns xs e)) (first + 1) i (first + 1 + i) (count - 1 - i) refl ∙ ap some_below (let e : i + (count - 1 - i) ≡ count - 1 = omega arith in e))
          (added_short (within bound (kept_starts_from hs ns xs c counts above (first + 1 + i) (count - 1 - i))) (one_more l A))

-- ---- one head

module _ {tk : List ℕ} {sm fs : List Float} {rs : List ℕ} {ls : List ℤ} {b used : ℕ} {lists hs ns : List ℕ} {xs : List Float} {s l join : ℕ} {above : Hashed} (at : l ≡ link_at tk b s) (E : EndIs rs ls used l true join) (H : HashIs rs ls used l join above) where
  pub head_asks : HeadAsks tk sm fs rs ls b used lists hs ns xs s → (f k : ℕ) → f ≡ first_at lists join → k ≡ count_at lists join → EntriesAsk hs ns xs f k above.len
  head_asks A f k u v =
      subst (λ (x : ℕ). EntriesAsk hs ns xs x k above.len) (sym u)
      (subst (λ (x : ℕ). EntriesAsk hs ns xs (first_at lists join) x above.len) (sym v)
      (A.below join above (subst (λ (x : ℕ). EndIs rs ls used x true join) at E) (subst (λ (x : ℕ). HashIs rs ls used x join above) at H)))

  module _ {counts : Bool} {bound : Float} {khs kns : List ℕ} {kxs : List Float} {n places : ℕ} where
    head_of : {khs' kns' : List ℕ} {kxs' : List Float} {r : Option ℕ} (best : Option Candidate) → candidate_at tk sm fs b s counts ≡ best → Added khs kns kxs n (kept_under hs ns xs best counts bound above (first_at lists join) (count_at lists join)) places khs' kns' kxs' r
        → HeadAdded tk sm fs rs ls b used counts bound lists hs ns xs s khs kns kxs n places khs' kns' kxs' r
    head_of best e A =
        record {
          ks = kept_under hs ns xs best counts bound above (first_at lists join) (count_at lists join);
          are = record {
            join = join;
            above = above;
            end_is = subst (λ (x : ℕ). EndIs rs ls used x true join) at E;
            hash_is = subst (λ (x : ℕ). HashIs rs ls used x join above) at H;
            is = ap (λ (x : Option Candidate). kept_under hs ns xs x counts bound above (first_at lists join) (count_at lists join)) (sym e);
          };
          added = A;
        }

    pub head_nobody : candidate_at tk sm fs b s counts ≡ None → n ≤ places → HeadAdded tk sm fs rs ls b used counts bound lists hs ns xs s khs kns kxs n places khs kns kxs (Some n)
    head_nobody e l = head_of None e (added_none l)

    pub head_token : {c : Candidate} {khs' kns' : List ℕ} {kxs' : List Float} {r : Option ℕ} → candidate_at tk sm fs b s counts ≡ Some c → (f k : ℕ) → f ≡ first_at lists join → k ≡ count_at lists join
        → Added khs kns kxs n (within bound (kept_starts_from hs ns xs c counts above (f + 1) (k - 1))) places khs' kns' kxs' r → HeadAdded tk sm fs rs ls b used counts bound lists hs ns xs s khs kns kxs n places khs' kns' kxs' r
    head_token {c} {khs'} {kns'} {kxs'} {r} e f k u v A =
        head_of (Some c) e
        (subst (λ (x : ℕ). Added khs kns kxs n (within bound (kept_starts_from hs ns xs c counts above (x + 1) (count_at lists join - 1))) places khs' kns' kxs' r) u
        (subst (λ (x : ℕ). Added khs kns kxs n (within bound (kept_starts_from hs ns xs c counts above (f + 1) (x - 1))) places khs' kns' kxs' r) v A))

-- ---- over the heads

take_none : (xs : List ℕ) → take 0 xs ≡ []
take_none [] = refl
take_none (x ∷ xs) = refl

take_next : (xs : List ℕ) (i : ℕ) → i < length xs → take (i + 1) xs ≡ take i xs ++ slice_index xs i ∷ []
take_next [] i l = absurd (omega arith)
take_next (x ∷ xs) zero l = ap (λ (ys : List ℕ). x ∷ ys) (take_none xs)
take_next (x ∷ xs) (suc i) l = ap (λ (k : ℕ). take k (x ∷ xs)) (let e : suc i + 1 ≡ suc (i + 1) = omega arith in e) ∙ ap (λ (ys : List ℕ). x ∷ ys) (take_next xs i (omega arith))

append_none : {A : Type 0} (xs : List A) → xs ++ [] ≡ xs
append_none [] = refl
append_none (x ∷ xs) = ap (λ ys. x ∷ ys) (append_none xs)

append_assoc : {A : Type 0} (xs ys zs : List A) → xs ++ (ys ++ zs) ≡ (xs ++ ys) ++ zs
append_assoc [] ys zs = refl
append_assoc (x ∷ xs) ys zs = ap (λ l. x ∷ l) (append_assoc xs ys zs)

module _ (tk : List ℕ) (sm fs : List Float) (rs : List ℕ) (ls : List ℤ) (b used : ℕ) (counts : Bool) (bound : Float) (heads : List ℕ) (lists hs ns : List ℕ) (xs : List Float) (khs kns : List ℕ) (kxs : List Float) (places : ℕ) where
  heads_last : {s : ℕ} {ks : List KeptReading} {ss : List ℕ} {js : List KeptReading} → HeadsKept tk sm fs rs ls b used counts bound lists hs ns xs ss js → HeadKept tk sm fs rs ls b used counts bound lists hs ns xs s ks
      → HeadsKept tk sm fs rs ls b used counts bound lists hs ns xs (ss ++ s ∷ []) (js ++ ks)
  heads_last {s} {ks} no_heads H = subst (HeadsKept tk sm fs rs ls b used counts bound lists hs ns xs (s ∷ [])) (append_none ks) (head_on H no_heads)
  heads_last {s} {ks} (head_on {s = t} {ks = is} {ss} {ls' = js} G Gs) H = subst (HeadsKept tk sm fs rs ls b used counts bound lists hs ns xs (t ∷ ss ++ s ∷ [])) (append_assoc is js ks) (head_on G (heads_last Gs H))

  -- those below the first i heads are added
  pub record FillTo (i : ℕ) (khs' kns' : List ℕ) (kxs' : List Float) (n : ℕ) : Type 0 where
    pub fits : n ≤ places
    pub sized : Sized khs kns kxs khs' kns' kxs'
    pub ks : List KeptReading
    pub are : HeadsKept tk sm fs rs ls b used counts bound lists hs ns xs (take i heads) ks
    pub added : Added khs kns kxs 0 ks places khs' kns' kxs' (Some n)

  pub fill_none : FillTo 0 khs kns kxs 0
  fill_none = record { fits = omega arith; sized = sized_same; ks = []; are = subst (λ (ss : List ℕ). HeadsKept tk sm fs rs ls b used counts bound lists hs ns xs ss []) (sym (take_none heads)) no_heads; added = added_none (omega arith) }

  module _ {i : ℕ} {khs' kns' : List ℕ} {kxs' : List Float} {n : ℕ} (F : FillTo i khs' kns' kxs' n) (m : ℕ) where
    pub fill_all : i ≡ m → FillIs tk sm fs rs ls b used counts bound heads m lists hs ns xs khs kns kxs places khs' kns' kxs' (Some n)
    fill_all e = record { j = i; few = omega arith; all = λ l. e; ks = F.ks; are = F.are; added = F.added }

    module _ (l : i < m) (long : m ≤ length heads) {khs'' kns'' : List ℕ} {kxs'' : List Float} {r : Option ℕ} (A : HeadAdded tk sm fs rs ls b used counts bound lists hs ns xs (slice_index heads i) khs' kns' kxs' n places khs'' kns'' kxs'' r) where
      more_heads : HeadsKept tk sm fs rs ls b used counts bound lists hs ns xs (take (i + 1) heads) (F.ks ++ A.ks)
      more_heads = subst (λ (ss : List ℕ). HeadsKept tk sm fs rs ls b used counts bound lists hs ns xs ss (F.ks ++ A.ks)) (sym (take_next heads i (omega arith))) (heads_last F.are A.are)

      more_added : Added khs kns kxs 0 (F.ks ++ A.ks) places khs'' kns'' kxs'' r
      more_added = added_then A.ks F.added A.added

    module _ (l : i < m) (long : m ≤ length heads) {khs'' kns'' : List ℕ} {kxs'' : List Float} where
      pub fill_next : {r : ℕ} → HeadAdded tk sm fs rs ls b used counts bound lists hs ns xs (slice_index heads i) khs' kns' kxs' n places khs'' kns'' kxs'' (Some r) → Sized khs' kns' kxs' khs'' kns'' kxs'' → FillTo (i + 1) khs'' kns'' kxs'' r
      fill_next A s = record { fits = added_fits A.added; sized = sized_then F.sized s; ks = F.ks ++ A.ks; are = more_heads l long A; added = more_added l long A }

      pub fill_short : HeadAdded tk sm fs rs ls b used counts bound lists hs ns xs (slice_index heads i) khs' kns' kxs' n places khs'' kns'' kxs'' None → FillIs tk sm fs rs ls b used counts bound heads m lists hs ns xs khs kns kxs places khs'' kns'' kxs'' None
      fill_short A = record { j = i + 1; few = omega arith; all = λ w. never w; ks = F.ks ++ A.ks; are = more_heads l long A; added = more_added l long A }

-- ---- which tokens are heads

end_tag_lem : {rs : List ℕ} {ls : List ℤ} {used l e : ℕ} (k : ℕ) → l ≡ k → EndIs rs ls used l true e → (gs : List Float) (h : ℕ → History) → Stands (store rs ls gs) used h → tag (h e) ≡ join_tag (h k)
end_tag_lem k at E gs h ok = E.is gs h ok ∙ ap (λ (k : ℕ). join_tag (h k)) at

module _ {tk : List ℕ} {sm fs : List Float} {rs : List ℕ} {ls : List ℤ} {b used : ℕ} {counts : Bool} {bound : Float} {s l e : ℕ} (at : l ≡ link_at tk b s) (E : EndIs rs ls used l true e) where
  no-head : e ≡ 0 → IsHeadIs tk sm fs rs ls b used counts bound s false
  unfolding tag
  no-head z =
      record {
        is = λ gs h ok.
            let q : join_tag (h (link_at tk b s)) ≡ 0 = sym (end_tag_lem (link_at tk b s) at E gs h ok) ∙ ap (λ (k : ℕ). tag (h k)) z ∙ ap tag ok.none in
            ap (λ (x : Bool). x && may_rank tk sm fs b counts bound s) (sym (le-ltb 0 (join_tag (h (link_at tk b s))) (omega arith)));
      }

  a-head : link_at tk b s ≤ used → (e ≢ 0) → may_rank tk sm fs b counts bound s ≡ true → IsHeadIs tk sm fs rs ls b used counts bound s true
  a-head low d q =
      record {
        is = λ gs h ok.
            let w = end_tag_lem (link_at tk b s) at E gs h ok in
            let a = ok.ascends 0 e (omega arith) (let y = E.low in omega arith) in
            sym q ∙ ap (λ (x : Bool). x && may_rank tk sm fs b counts bound s) (sym (lt-ltb 0 (join_tag (h (link_at tk b s))) (omega arith)));
      }

  pub is-head : link_at tk b s ≤ used → may_rank tk sm fs b counts bound s ≡ true → IsHeadIs tk sm fs rs ls b used counts bound s (not (e == 0))
  is-head low q = case (eq_or_not e 0) (λ z. rw (eq-eqb e 0 z) (no-head z)) (λ d. rw (ne_eqb e 0 d) (a-head low d q))

pub cannot_rank : {tk : List ℕ} {sm fs : List Float} {rs : List ℕ} {ls : List ℤ} {b used : ℕ} {counts : Bool} {bound : Float} {s : ℕ} → may_rank tk sm fs b counts bound s ≡ false → IsHeadIs tk sm fs rs ls b used counts bound s false
cannot_rank {tk} {b = b} {s = s} e = record { is = λ gs h ok. rw e (neither (nat_lt 0 (join_tag (h (link_at tk b s))))) }
  where
    neither : (x : Bool) → false ≡ (x && false)
    neither true = refl
    neither false = refl

-- ---- keeping them

take_set : (xs : List ℕ) (m v : ℕ) → take m (slice_set xs m v) ≡ take m xs
take_set [] m v = refl
take_set (x ∷ xs) zero v = refl
take_set (x ∷ xs) (suc m) v = ap (λ (ys : List ℕ). x ∷ ys) (take_set xs m v)

keep_last : (p : ℕ → Bool) (xs : List ℕ) (y : ℕ) → keep_if p (xs ++ y ∷ []) ≡ keep_if p xs ++ cond (p y) (y ∷ []) []
keep_last p [] y = go (p y)
  where
    go : (b : Bool) → cond b (y ∷ []) [] ≡ [] ++ cond b (y ∷ []) []
    go true = refl
    go false = refl
keep_last p (x ∷ xs) y = go (p x) (keep_last p xs y)
  where
    go : (b : Bool) → keep_if p (xs ++ y ∷ []) ≡ keep_if p xs ++ cond (p y) (y ∷ []) []
        → cond b (x ∷ keep_if p (xs ++ y ∷ [])) (keep_if p (xs ++ y ∷ [])) ≡ cond b (x ∷ keep_if p xs) (keep_if p xs) ++ cond (p y) (y ∷ []) []
    go true r = ap (λ (ys : List ℕ). x ∷ ys) r
    go false r = r

-- the first m are those of the first i that pass a test, and from i on nothing has moved; the test may depend on what is not known
pub record KeepTo (W : Type 0) (p : W → ℕ → Bool) (heads₀ heads : List ℕ) (m i : ℕ) : Type 0 where
  pub few : m ≤ i
  pub same_length : length heads ≡ length heads₀
  pub is : (w : W) → take m heads ≡ keep_if (p w) (take i heads₀)
  pub ahead : (k : ℕ) → i ≤ k → slice_index heads k ≡ slice_index heads₀ k

pub keep_none : (W : Type 0) (p : W → ℕ → Bool) (heads : List ℕ) → KeepTo W p heads heads 0 0
keep_none W p heads = record { few = omega arith; same_length = refl; is = λ w. take_none heads ∙ ap (keep_if (p w)) (sym (take_none heads)); ahead = λ k l. refl }

module _ {W : Type 0} {p : W → ℕ → Bool} {heads₀ heads : List ℕ} {m i : ℕ} (C : KeepTo W p heads₀ heads m i) (l : i < length heads₀) where
  one_kept : (w : W) (x : Bool) → x ≡ p w (slice_index heads₀ i) → take m heads ++ cond x (slice_index heads₀ i ∷ []) [] ≡ keep_if (p w) (take (i + 1) heads₀)
  one_kept w x e =
      ap₂ (λ (ys : List ℕ) (z : Bool). ys ++ cond z (slice_index heads₀ i ∷ []) []) (C.is w) e ∙ sym (ap (keep_if (p w)) (take_next heads₀ i l) ∙ keep_last (p w) (take i heads₀) (slice_index heads₀ i))

  pub keep_next : {heads' : List ℕ} {r : ℕ} (s : ℕ) → s ≡ slice_index heads i → (kept : Bool) → ((w : W) → kept ≡ p w s) → KeptIf heads heads' m s kept r → KeepTo W p heads₀ heads' r (i + 1)
  keep_next s at kept K (not_kept e q v) =
      let o : s ≡ slice_index_or heads₀ i 0 = at ∙ C.ahead i (omega arith) in
      let f = C.few in
      record {
        few = omega arith;
        same_length = ap length q ∙ C.same_length;
        is = λ w. ap₂ take v q ∙ sym (append_none (take m heads)) ∙ one_kept w false (sym e ∙ K w ∙ ap (p w) o);
        ahead = λ k u. ap (λ (ys : List ℕ). slice_index ys k) q ∙ C.ahead k (omega arith);
      }
  keep_next s at kept K (is_kept e q v) =
      let o : s ≡ slice_index_or heads₀ i 0 = at ∙ C.ahead i (omega arith) in
      let f = C.few in
      let z = C.same_length in
      record {
        few = omega arith;
        same_length = ap length q ∙ length-set heads m s ∙ z;
        is = λ w. ap₂ take v q ∙ take_next (slice_set heads m s) m (let y = length-set heads m s in omega arith) ∙ ap₂ (λ (ys : List ℕ) (y : ℕ). ys ++ y ∷ []) (take_set heads m s) (get_or-set_same heads m s 0 (omega arith) ∙ o) ∙ one_kept w true (sym e ∙ K w ∙ ap (p w) o);
        ahead = λ k u. ap (λ (ys : List ℕ). slice_index ys k) q ∙ get_or-set_other heads m k s 0 (λ y. omega arith) ∙ C.ahead k (omega arith);
      }
