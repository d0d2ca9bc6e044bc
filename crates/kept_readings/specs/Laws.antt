-- Laws of the steps. Assumes nothing.
use Rattle.std.specs.Prelude.{◌≡◌, ℕ, zero, suc, ◌+◌, ◌*◌, ◌<◌, ◌≤◌, Bool, true, false, cond, not, List, [], ◌∷◌, ◌++◌, map, length, ◌≢◌, slice_index, slice_index_or, slice_set, refl, Float, Option, Some, None}
use Rattle.std.proofs.Common.{sym, ap, ap₂, ◌∙◌, subst, arith, length-set, get_or-set_same, get_or-set_other}
use Rattle.std.specs.Float.{nan}
use Rattle.lists.specs.Lists.{range}
use Rattle.model.specs.Basics.{◌≼◌}
use Rattle.kept_readings.specs.declared.KeptReading.{KeptReading}
use Rattle.kept_readings.specs.Kept.{kept_read_in, kept_list, Room, same_kept, sooner_kept, sooner_of, KeptPut, NoneHas, FoundAt, is_found, not_found, add_kept, Added, are_added, are_more, within}
use Rattle.kept_readings.specs.Adding.{all-length, all_then, add_new, add_same}

-- ---- a kept reading put in its place

module _ {A : Type 0} (l : List A) (d : A) where
  off_two : (i k j : ℕ) (x y : A) → (j ≢ i) → (j ≢ k) → slice_index_or (slice_set (slice_set l i x) k y) j d ≡ slice_index_or l j d
  off_two i k j x y p q = get_or-set_other (slice_set l i x) k j y d q ∙ get_or-set_other l i j x d p

module _ (hs ns : List ℕ) (xs : List Float) (i : ℕ) (k : KeptReading) (room : Room hs ns xs (i + 1)) where
  abbrev one : List ℕ
  one = slice_set ns (i * 4) k.len

  abbrev two : List ℕ
  two = slice_set one (i * 4 + 1) k.state

  abbrev three : List ℕ
  three = slice_set two (i * 4 + 2) k.entry

  abbrev four : List ℕ
  four = slice_set three (i * 4 + 3) k.seq

  abbrev sums : List Float
  sums = slice_set (slice_set xs (i * 2) k.rank) (i * 2 + 1) k.cost

  long : i * 4 + 4 ≤ length ns
  long = let z = room.links in omega arith

  wide : i * 2 + 2 ≤ length xs
  wide = let z = room.sums in omega arith

  off_four : (j : ℕ) → (j ≢ i * 4) → (j ≢ i * 4 + 1) → (j ≢ i * 4 + 2) → (j ≢ i * 4 + 3) → slice_index four j ≡ slice_index ns j
  off_four j a b c d = off_two two 0 (i * 4 + 2) (i * 4 + 3) j k.entry k.seq c d ∙ off_two ns 0 (i * 4) (i * 4 + 1) j k.len k.state a b

  pub kept_put_lem : KeptPut hs ns xs (slice_set hs i k.hash) four sums i k
  kept_put_lem =
      record {
        is = λ t. record {
          hash = get_or-set_same hs i k.hash 0 (let z = room.hashes in omega arith) t;
          len = (off_two two 0 (i * 4 + 2) (i * 4 + 3) (i * 4) k.entry k.seq (λ e. omega arith) (λ e. omega arith) ∙ get_or-set_other one (i * 4 + 1) (i * 4) k.state 0 (λ e. omega arith) ∙ get_or-set_same ns (i * 4) k.len 0 (let z = long in omega arith)) t;
          state = (off_two two 0 (i * 4 + 2) (i * 4 + 3) (i * 4 + 1) k.entry k.seq (λ e. omega arith) (λ e. omega arith) ∙ get_or-set_same one (i * 4 + 1) k.state 0 (let z = long in simp length-set (omega arith))) t;
          entry = (get_or-set_other three (i * 4 + 3) (i * 4 + 2) k.seq 0 (λ e. omega arith) ∙ get_or-set_same two (i * 4 + 2) k.entry 0 (let z = long in simp length-set (omega arith))) t;
          seq = get_or-set_same three (i * 4 + 3) k.seq 0 (let z = long in simp length-set (omega arith)) t;
          rank = (get_or-set_other (slice_set xs (i * 2) k.rank) (i * 2 + 1) (i * 2) k.cost nan (λ e. omega arith) ∙ get_or-set_same xs (i * 2) k.rank nan (let z = wide in omega arith)) t;
          cost = get_or-set_same (slice_set xs (i * 2) k.rank) (i * 2 + 1) k.cost nan (let z = wide in simp length-set (omega arith)) t;
        };
        others = λ j d t. record {
          hash = get_or-set_other hs i j k.hash 0 d t;
          len = off_four (j * 4) (λ e. d (omega arith)) (λ e. omega arith) (λ e. omega arith) (λ e. omega arith) t;
          state = off_four (j * 4 + 1) (λ e. omega arith) (λ e. d (omega arith)) (λ e. omega arith) (λ e. omega arith) t;
          entry = off_four (j * 4 + 2) (λ e. omega arith) (λ e. omega arith) (λ e. d (omega arith)) (λ e. omega arith) t;
          seq = off_four (j * 4 + 3) (λ e. omega arith) (λ e. omega arith) (λ e. omega arith) (λ e. d (omega arith)) t;
          rank = off_two xs nan (i * 2) (i * 2 + 1) (j * 2) k.rank k.cost (λ e. d (omega arith)) (λ e. omega arith) t;
          cost = off_two xs nan (i * 2) (i * 2 + 1) (j * 2 + 1) k.rank k.cost (λ e. omega arith) (λ e. d (omega arith)) t;
        };
      }

module _ {hs ns : List ℕ} {xs : List Float} {hs' ns' : List ℕ} {xs' : List Float} {i : ℕ} (k x : KeptReading) where
  pub put_sooner : sooner_kept k x ≡ true → KeptPut hs ns xs hs' ns' xs' i k → KeptPut hs ns xs hs' ns' xs' i (sooner_of k x)
  put_sooner t P = subst (λ (b : Bool). KeptPut hs ns xs hs' ns' xs' i (cond b k x)) (sym t) P

pub left_there : {hs ns : List ℕ} {xs : List Float} {i : ℕ} (k : KeptReading) → sooner_kept k (kept_read_in hs ns xs i) ≡ false → KeptPut hs ns xs hs ns xs i (sooner_of k (kept_read_in hs ns xs i))
left_there {hs} {ns} {xs} {i} k f = subst (λ (b : Bool). KeptPut hs ns xs hs ns xs i (cond b k (kept_read_in hs ns xs i))) (sym f) (record { is = refl; others = λ j d. refl })

-- ---- one more

pub list_length : (hs ns : List ℕ) (xs : List Float) (n : ℕ) → length (kept_list hs ns xs n) ≡ n
list_length hs ns xs n = go 0 n
  where
    go : (a n : ℕ) → length (map (kept_read_in hs ns xs) (range a n)) ≡ n
    go a zero = refl
    go a (suc n) = ap suc (go (suc a) n)

length_last : (ys : List KeptReading) (k : KeptReading) → length (ys ++ k ∷ []) ≡ length ys + 1
length_last [] k = refl
length_last (y ∷ ys) k = let z = length_last ys k in omega arith

pub in_places : {hs ns : List ℕ} {xs : List Float} {n : ℕ} {k : KeptReading} {p : ℕ} → FoundAt hs ns xs n k (Some p) → p < n
in_places (is_found i l B f) = l

module _ {hs ns : List ℕ} {xs : List Float} {n : ℕ} {k : KeptReading} {p places : ℕ} (few : n ≤ places) where
  added_at : p < n → NoneHas hs ns xs p k → same_kept k (kept_read_in hs ns xs p) ≡ true → {hs' ns' : List ℕ} {xs' : List Float} → KeptPut hs ns xs hs' ns' xs' p (sooner_of k (kept_read_in hs ns xs p)) → Added hs ns xs n (k ∷ []) places hs' ns' xs' (Some n)
  added_at l B f {hs'} {ns'} {xs'} P =
      are_added n few (sym (add_same same_kept sooner_kept k (kept_read_in hs ns xs) (kept_read_in hs' ns' xs') 0 n p (omega arith) (omega arith) (λ i a u. B i u) f P.is P.others))

  pub added_there : FoundAt hs ns xs n k (Some p) → {hs' ns' : List ℕ} {xs' : List Float} → KeptPut hs ns xs hs' ns' xs' p (sooner_of k (kept_read_in hs ns xs p)) → Added hs ns xs n (k ∷ []) places hs' ns' xs' (Some n)
  added_there (is_found i l B f) P = added_at l B f P

module _ {hs ns : List ℕ} {xs : List Float} {n : ℕ} {k : KeptReading} (F : FoundAt hs ns xs n k None) {places : ℕ} (few : n ≤ places) where
  none_has : FoundAt hs ns xs n k None → NoneHas hs ns xs n k
  none_has (not_found B) = B

  is_new : add_kept (kept_list hs ns xs n) (k ∷ []) ≡ kept_list hs ns xs n ++ k ∷ []
  is_new = add_new same_kept sooner_kept k (kept_read_in hs ns xs) 0 n (λ i a u. none_has F i (omega arith))

  pub added_full : {hs' ns' : List ℕ} {xs' : List Float} → n ≡ places → Added hs ns xs n (k ∷ []) places hs' ns' xs' None
  added_full e =
      are_more
      (let z : length (add_kept (kept_list hs ns xs n) (k ∷ [])) ≡ n + 1 = ap length is_new ∙ length_last (kept_list hs ns xs n) k ∙ ap (λ (z : ℕ). z + 1) (list_length hs ns xs n) in omega arith)

  pub added_new : {hs' ns' : List ℕ} {xs' : List Float} → (n ≢ places) → KeptPut hs ns xs hs' ns' xs' n k → Added hs ns xs n (k ∷ []) places hs' ns' xs' (Some (n + 1))
  added_new {hs'} {ns'} {xs'} d P = are_added (n + 1) (omega arith) (last_of 0 n n (omega arith) (λ i a u. P.others i (λ e. omega arith)) P.is ∙ sym is_new)
    where
      last_of : (a m z : ℕ) → a + m ≡ z → ((i : ℕ) → a ≤ i → i < z → kept_read_in hs' ns' xs' i ≡ kept_read_in hs ns xs i) → kept_read_in hs' ns' xs' z ≡ k → map (kept_read_in hs' ns' xs') (range a (m + 1)) ≡ map (kept_read_in hs ns xs) (range a m) ++ k ∷ []
      last_of a zero z q o e = ap (λ (x : KeptReading). x ∷ []) (subst (λ (z : ℕ). kept_read_in hs' ns' xs' z ≡ k) (let w : z ≡ a = omega arith in w) e)
      last_of a (suc m) z q o e =
          ap (λ (z : ℕ). map (kept_read_in hs' ns' xs') (range a z)) (let e : suc m + 1 ≡ suc (m + 1) = omega arith in e)
          ∙ ap₂ (λ (x : KeptReading) (l : List KeptReading). x ∷ l) (o a (omega arith) (omega arith)) (last_of (suc a) m z (omega arith) (λ i l u. o i (omega arith) u) e)

-- ---- more and more

module _ {hs ns : List ℕ} {xs : List Float} {n places : ℕ} where
  pub added_none : n ≤ places → Added hs ns xs n [] places hs ns xs (Some n)
  added_none l = are_added n l refl

  pub added_fits : {ks : List KeptReading} {hs' ns' : List ℕ} {xs' : List Float} {r : ℕ} → Added hs ns xs n ks places hs' ns' xs' (Some r) → r ≤ places
  added_fits (are_added r l e) = l

  module _ {ks : List KeptReading} (ls : List KeptReading) {hs' ns' : List ℕ} {xs' : List Float} where
    pub added_then : {m : ℕ} {hs'' ns'' : List ℕ} {xs'' : List Float} {r : Option ℕ} → Added hs ns xs n ks places hs' ns' xs' (Some m) → Added hs' ns' xs' m ls places hs'' ns'' xs'' r → Added hs ns xs n (ks ++ ls) places hs'' ns'' xs'' r
    added_then (are_added k w e) (are_added r v d) = are_added r v (d ∙ ap (λ (l : List KeptReading). add_kept l ls) e ∙ sym (all_then same_kept sooner_kept (kept_list hs ns xs n) ks ls))
    added_then (are_added k w e) (are_more d) = are_more (subst (λ (l : List KeptReading). places < length l) (ap (λ (l : List KeptReading). add_kept l ls) e ∙ sym (all_then same_kept sooner_kept (kept_list hs ns xs n) ks ls)) d)

    -- what does not fit now never will
    pub added_short : Added hs ns xs n ks places hs' ns' xs' None → Added hs ns xs n (ks ++ ls) places hs' ns' xs' None
    added_short (are_more l) =
        are_more (subst (λ (l : List KeptReading). places < length l) (sym (all_then same_kept sooner_kept (kept_list hs ns xs n) ks ls))
        (let z = all-length same_kept sooner_kept (add_kept (kept_list hs ns xs n) ks) ls in omega arith))

  module _ (bound : Float) (k : KeptReading) where
    pub added_not : (bound ≼ k.rank) ≡ true → n ≤ places → Added hs ns xs n (within bound (k ∷ [])) places hs ns xs (Some n)
    added_not t l = subst (λ (b : Bool). Added hs ns xs n (cond (not b) (k ∷ []) []) places hs ns xs (Some n)) (sym t) (added_none l)

    pub added_within : {hs' ns' : List ℕ} {xs' : List Float} {r : Option ℕ} → (bound ≼ k.rank) ≡ false → Added hs ns xs n (k ∷ []) places hs' ns' xs' r → Added hs ns xs n (within bound (k ∷ [])) places hs' ns' xs' r
    added_within {hs'} {ns'} {xs'} {r} f A = subst (λ (b : Bool). Added hs ns xs n (cond (not b) (k ∷ []) []) places hs' ns' xs' r) (sym f) A

    pub added_as : {j : KeptReading} {hs' ns' : List ℕ} {xs' : List Float} {r : Option ℕ} → k ≡ j → Added hs ns xs n (within bound (k ∷ [])) places hs' ns' xs' r → Added hs ns xs n (within bound (j ∷ [])) places hs' ns' xs' r
    added_as {j} {hs'} {ns'} {xs'} {r} e A = subst (λ (i : KeptReading). Added hs ns xs n (within bound (i ∷ [])) places hs' ns' xs' r) e A
